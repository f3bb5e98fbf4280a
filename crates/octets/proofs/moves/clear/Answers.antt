use Rattle.std.proofs.Common.{rules}
use Rattle.octets.specs.Splice.{shells}
use Rattle.octets.specs.Stores.{part_cleared}
use Rattle.octets.proofs.moves.clear.Goals as goal
use Rattle.octets.proofs.moves.clear.Goals.{else-from-end-via-then-from-end+else-end-buf, else-from-end-via-else-from-end}

pub returns-then-end-buf : goal.returns-then-end-buf
returns-then-end-buf c = search (rules, part_cleared)

pub returns-else-from-end : goal.returns-else-from-end
returns-else-from-end c = search (rules, shells)
