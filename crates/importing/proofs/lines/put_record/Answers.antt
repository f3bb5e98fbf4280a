use Rattle.std.proofs.Common.{rules}
use Rattle.importing.specs.LineCases.{record_putting}
use Rattle.importing.proofs.lines.put_record.Goals as goal

pub put_values-put-requires : goal.put_values-put-requires
put_values-put-requires c = search (rules, record_putting)

pub overflow_sub-put : goal.overflow_sub-put
overflow_sub-put c = search (rules, record_putting)

pub returns : goal.returns
returns c = search (rules, record_putting)
