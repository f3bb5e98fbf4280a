use Rattle.giving.specs.Size.{elements}
use Rattle.giving.proofs.size.element_form.Goals as goal

pub returns-then-form-lt-LIST : goal.returns-then-form-lt-LIST
returns-then-form-lt-LIST c = search elements

pub returns-then-form-lt-FORMS : goal.returns-then-form-lt-FORMS
returns-then-form-lt-FORMS c = search elements

pub returns : goal.returns
returns c = search elements
