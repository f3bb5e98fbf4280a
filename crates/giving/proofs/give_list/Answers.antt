use Rattle.giving.specs.Cases.{gave, giving}
use Rattle.giving.proofs.give_list.Goals as goal

pub returns-in_default : goal.returns-in_default
returns-in_default c = (search gave, search giving)

pub returns : goal.returns
returns c = (search gave, search giving)
