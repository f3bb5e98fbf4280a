use Rattle.std.proofs.Common.{rules}
use Rattle.writing.specs.State.{rooms}
use Rattle.writing.proofs.judge_room.Goals as goal

pub returns-then-written-gt-MOST_OCTETS : goal.returns-then-written-gt-MOST_OCTETS
returns-then-written-gt-MOST_OCTETS c = search (rules, rooms)

pub returns-then-written-k : goal.returns-then-written-k
returns-then-written-k c = search (rules, rooms)

pub returns-then-n-written : goal.returns-then-n-written
returns-then-n-written c = search (rules, rooms)

pub returns-then-n-written-2 : goal.returns-then-n-written-2
returns-then-n-written-2 c = search (rules, rooms)

pub returns : goal.returns
returns c = search (rules, rooms)
