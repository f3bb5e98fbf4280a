use Rattle.std.proofs.Common.{rules}
use Rattle.whole.specs.Cases.{numbers}
use Rattle.whole.proofs.read_number.Goals as goal

pub returns-then-s-lt1 : goal.returns-then-s-lt1
returns-then-s-lt1 c = search (rules, numbers)

pub returns-then-first-lt128 : goal.returns-then-first-lt128
returns-then-first-lt128 c = search (rules, numbers)

pub returns : goal.returns
returns c = search (rules, numbers)
