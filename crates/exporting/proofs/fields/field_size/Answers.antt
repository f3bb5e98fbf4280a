use Rattle.std.proofs.Common.{rules}
use Rattle.exporting.specs.ValueCases.{size_cases}
use Rattle.exporting.proofs.fields.field_size.Goals as goal

pub returns-then-v-lt1 : goal.returns-then-v-lt1
returns-then-v-lt1 c = search (rules, size_cases)

pub returns-then-code-eq-NUMBERS : goal.returns-then-code-eq-NUMBERS
returns-then-code-eq-NUMBERS c = search (rules, size_cases)

pub returns-then-code-eq-TRUTHS : goal.returns-then-code-eq-TRUTHS
returns-then-code-eq-TRUTHS c = search (rules, size_cases)

pub returns : goal.returns
returns c = search (rules, size_cases)
