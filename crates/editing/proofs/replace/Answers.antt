use Rattle.editing.specs.InPlace.{replace-is}
use Rattle.editing.proofs.replace.Goals as goal

pub returns : goal.returns
returns c = search replace-is
