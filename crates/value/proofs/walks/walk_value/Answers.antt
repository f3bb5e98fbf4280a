use Rattle.std.proofs.Common.{rules}
use Rattle.value.specs.Cases.{values}
use Rattle.value.proofs.walks.walk_value.Goals as goal

pub returns-then-form-lt-LIST : goal.returns-then-form-lt-LIST
returns-then-form-lt-LIST c = search (rules, values)

pub returns-then-form-lt-FORMS : goal.returns-then-form-lt-FORMS
returns-then-form-lt-FORMS c = search (rules, values)

pub returns : goal.returns
returns c = search (rules, values)
