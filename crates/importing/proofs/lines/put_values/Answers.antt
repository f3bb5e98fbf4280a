use Rattle.std.proofs.Common.{rules}
use Rattle.importing.specs.LineCases.{field_there, values_putting, values_done, bound-next, values-rest, values-kept}
use Rattle.importing.specs.LineCases.{values-step, bits-step, bits-kept, long_rest}
use Rattle.importing.proofs.lines.put_values.Goals as goal

pub put_value-to-requires : goal.put_value-to-requires
put_value-to-requires c = search (rules, field_there, values_putting, values_done)

pub loop-j-preserved : goal.loop-j-preserved
loop-j-preserved c = (
  search values-kept,
  search bits-kept,
  search bound-next,
  search long_rest,
  search values-rest,
  search values-step,
  search bits-step,
)

pub returns : goal.returns
returns c = search (rules, field_there, values_putting, values_done)
