use Rattle.view.specs.Cut.{cut_at, cut-none}
use Rattle.view.proofs.cut.Goals as goal

pub returns-in-Some : goal.returns-in-Some
returns-in-Some c = search cut_at

pub returns-in-None : goal.returns-in-None
returns-in-None c = search cut-none
