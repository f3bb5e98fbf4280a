use Rattle.entry.specs.Cases.{key-is}
use Rattle.entry.proofs.is_key.Goals as goal

pub returns : goal.returns
returns c = search key-is
