use Rattle.std.proofs.Common.{rules}
use Rattle.editing.specs.InPlace.{rooms}
use Rattle.editing.proofs.judge_room.Goals as goal

pub returns-then-n-gt-MOST_OCTETS : goal.returns-then-n-gt-MOST_OCTETS
returns-then-n-gt-MOST_OCTETS c = search (rules, rooms)

pub returns-then-room-n : goal.returns-then-room-n
returns-then-room-n c = search (rules, rooms)

pub returns : goal.returns
returns c = search (rules, rooms)
