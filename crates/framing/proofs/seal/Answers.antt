use Rattle.std.proofs.Common.{rules}
use Rattle.book.specs.Sealed.{seals}
use Rattle.framing.proofs.seal.Goals as goal

pub returns-then-end-buf : goal.returns-then-end-buf
returns-then-end-buf c = search (rules, seals)

pub returns-else-end-ge12 : goal.returns-else-end-ge12
returns-else-end-ge12 c = search (rules, seals)
