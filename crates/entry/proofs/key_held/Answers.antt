use Rattle.entry.specs.Cases.{held-key, held-free}
use Rattle.entry.proofs.key_held.Goals as goal

pub returns-then-is_key : goal.returns-then-is_key
returns-then-is_key c = search held-key

pub returns : goal.returns
returns c = search held-free
