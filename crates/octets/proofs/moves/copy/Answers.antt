use Rattle.std.proofs.Common.{rules}
use Rattle.octets.specs.Splice.{shells}
use Rattle.octets.proofs.moves.copy.Goals as goal

pub returns-then-at-buf : goal.returns-then-at-buf
returns-then-at-buf c = search (rules, shells)

pub returns-else-src-buf : goal.returns-else-src-buf
returns-else-src-buf c = search (rules, shells)
