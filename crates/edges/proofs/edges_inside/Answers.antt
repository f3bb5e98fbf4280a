use Rattle.edges.specs.Cases.{inside_is}
use Rattle.edges.proofs.edges_inside.Goals as goal

pub returns : goal.returns
returns c = search inside_is
