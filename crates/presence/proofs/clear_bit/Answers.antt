use Rattle.std.proofs.Common.{rules}
use Rattle.presence.specs.Presence.{presence}
use Rattle.presence.proofs.clear_bit.Goals as goal

pub returns-then-at-s : goal.returns-then-at-s
returns-then-at-s c = search (rules, presence)

pub returns-else-at-s : goal.returns-else-at-s
returns-else-at-s c = search (rules, presence)
