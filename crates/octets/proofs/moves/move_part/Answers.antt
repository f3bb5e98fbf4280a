use Rattle.std.proofs.Common.{rules}
use Rattle.octets.specs.Splice.{shells}
use Rattle.octets.proofs.moves.move_part.Goals as goal

pub returns-then-at-to : goal.returns-then-at-to
returns-then-at-to c = search (rules, shells)

pub returns-else-at-to : goal.returns-else-at-to
returns-else-at-to c = search (rules, shells)

pub returns-else-at-end : goal.returns-else-at-end
returns-else-at-end c = search (rules, shells)
