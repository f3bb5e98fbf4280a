use Rattle.std.proofs.Common.{rules}
use Rattle.importing.specs.HeadCases.{value_given}
use Rattle.importing.proofs.head.judge_value.Goals as goal

pub returns-then-form-lt-LIST : goal.returns-then-form-lt-LIST
returns-then-form-lt-LIST c = search (rules, value_given)

pub returns-then-form-lt-FORMS : goal.returns-then-form-lt-FORMS
returns-then-form-lt-FORMS c = search (rules, value_given)

pub returns : goal.returns
returns c = search (rules, value_given)
