use Rattle.std.proofs.Common.{rules}
use Rattle.exporting.specs.ValueCases.{put_cases, put-truth-room}
use Rattle.exporting.proofs.fields.put_field.Goals as goal

pub returns-then-v-lt1 : goal.returns-then-v-lt1
returns-then-v-lt1 c = search (rules, put_cases)

pub put_number-requires : goal.put_number-requires
put_number-requires c = search (rules, put_cases)

pub returns-then-code-eq-NUMBERS : goal.returns-then-code-eq-NUMBERS
returns-then-code-eq-NUMBERS c = search (rules, put_cases)

pub bounds-out-at : goal.bounds-out-at
bounds-out-at c = search put-truth-room

pub returns-then-code-eq-TRUTHS : goal.returns-then-code-eq-TRUTHS
returns-then-code-eq-TRUTHS c = search (rules, put_cases)

pub put_string-requires : goal.put_string-requires
put_string-requires c = search (rules, put_cases)

pub returns : goal.returns
returns c = search (rules, put_cases)
