use Rattle.std.proofs.Common.{rules}
use Rattle.whole.specs.Cases.{longs}
use Rattle.whole.proofs.read_long.Goals as goal

pub returns-then-k-lt1 : goal.returns-then-k-lt1
returns-then-k-lt1 c = search (rules, longs)

pub returns-then-k-gt4 : goal.returns-then-k-gt4
returns-then-k-gt4 c = search (rules, longs)

pub returns-then-s-k : goal.returns-then-s-k
returns-then-s-k c = search (rules, longs)

pub returns-then-n-least : goal.returns-then-n-least
returns-then-n-least c = search (rules, longs)

pub overflow_cast-result : goal.overflow_cast-result
overflow_cast-result c = search (rules, longs)

pub returns : goal.returns
returns c = search (rules, longs)
