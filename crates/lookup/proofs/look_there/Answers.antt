use Rattle.lookup.specs.PlaceCases.{theres}
use Rattle.lookup.proofs.look_there.Goals as goal

pub returns-in_default : goal.returns-in_default
returns-in_default c = search theres

pub returns : goal.returns
returns c = search theres
