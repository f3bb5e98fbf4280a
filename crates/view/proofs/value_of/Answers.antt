use Rattle.view.specs.Cases.{value-cut}
use Rattle.view.proofs.value_of.Goals as goal

pub returns : goal.returns
returns c = search value-cut
