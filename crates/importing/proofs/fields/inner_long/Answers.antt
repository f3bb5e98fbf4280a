use Rattle.std.proofs.Common.{rules}
use Rattle.importing.specs.FieldCases.{inner_long}
use Rattle.importing.proofs.fields.inner_long.Goals as goal

pub loop-x-preserved : goal.loop-x-preserved
loop-x-preserved c = search (rules, inner_long)

pub returns : goal.returns
returns c = search (rules, inner_long)
