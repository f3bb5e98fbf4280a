use Rattle.giving.specs.Size.{sizes}
use Rattle.giving.proofs.size.list_size.Goals as goal

pub returns-then-count-eq0 : goal.returns-then-count-eq0
returns-then-count-eq0 c = search sizes

pub returns-then-form-lt-LIST : goal.returns-then-form-lt-LIST
returns-then-form-lt-LIST c = search sizes

pub returns-then-form-lt-FORMS : goal.returns-then-form-lt-FORMS
returns-then-form-lt-FORMS c = search sizes

pub returns : goal.returns
returns c = search sizes
