use Rattle.giving.specs.Size.{string-some}
use Rattle.giving.proofs.size.string_size.Goals as goal

pub returns-then-good : goal.returns-then-good
returns-then-good c = search string-some
