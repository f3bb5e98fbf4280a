use Rattle.index.specs.Cases.{start_is}
use Rattle.index.proofs.start_at.Goals as goal

pub returns : goal.returns
returns c = search start_is
