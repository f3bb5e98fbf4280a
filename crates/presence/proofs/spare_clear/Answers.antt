use Rattle.std.proofs.Common.{rules}
use Rattle.presence.specs.Presence.{presence}
use Rattle.presence.proofs.spare_clear.Goals as goal

pub returns-then-at-s : goal.returns-then-at-s
returns-then-at-s c = search (rules, presence)

pub returns-else-k-ne0 : goal.returns-else-k-ne0
returns-else-k-ne0 c = search (rules, presence)
