use Rattle.lookup.specs.Cases.{inside_is}
use Rattle.lookup.proofs.seek_inside.Goals as goal

pub returns : goal.returns
returns c = search inside_is
