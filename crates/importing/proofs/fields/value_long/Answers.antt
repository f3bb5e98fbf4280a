use Rattle.std.proofs.Common.{rules}
use Rattle.importing.specs.FieldCases.{value_long}
use Rattle.importing.proofs.fields.value_long.Goals as goal

pub returns-then-k-eq0 : goal.returns-then-k-eq0
returns-then-k-eq0 c = search (rules, value_long)

pub returns-then-code-eq-NUMBERS : goal.returns-then-code-eq-NUMBERS
returns-then-code-eq-NUMBERS c = search (rules, value_long)

pub returns-then-code-eq-TRUTHS : goal.returns-then-code-eq-TRUTHS
returns-then-code-eq-TRUTHS c = search (rules, value_long)

pub returns : goal.returns
returns c = search (rules, value_long)
