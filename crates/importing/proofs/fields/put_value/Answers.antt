use Rattle.std.proofs.Common.{rules}
use Rattle.importing.specs.FieldCases.{put_value, put_string}
use Rattle.importing.proofs.fields.put_value.Goals as goal

pub returns-then-k-eq0 : goal.returns-then-k-eq0
returns-then-k-eq0 c = search (rules, put_value, put_string)

pub returns-then-code-eq-NUMBERS : goal.returns-then-code-eq-NUMBERS
returns-then-code-eq-NUMBERS c = search (rules, put_value, put_string)

pub bounds-out-at : goal.bounds-out-at
bounds-out-at c = search (rules, put_value, put_string)

pub returns-then-code-eq-TRUTHS : goal.returns-then-code-eq-TRUTHS
returns-then-code-eq-TRUTHS c = search (rules, put_value, put_string)

pub put_content-requires : goal.put_content-requires
put_content-requires c = search (rules, put_value, put_string)

pub bounds-out-at-2 : goal.bounds-out-at-2
bounds-out-at-2 c = search (rules, put_value, put_string)

pub returns : goal.returns
returns c = search (rules, put_value, put_string)
