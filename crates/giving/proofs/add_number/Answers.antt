use Rattle.giving.specs.Cases.{added, elementing}
use Rattle.giving.proofs.add_number.Goals as goal

pub returns-in_default : goal.returns-in_default
returns-in_default c = (search added, search elementing)

pub returns : goal.returns
returns c = (search added, search elementing)
