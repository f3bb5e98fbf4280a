use Rattle.std.proofs.Common.{rules}
use Rattle.lookup.specs.Cases.{numbers}
use Rattle.lookup.proofs.look_number.Goals as goal

pub returns-then-j-k : goal.returns-then-j-k
returns-then-j-k c = search (rules, numbers)

pub returns : goal.returns
returns c = search (rules, numbers)
