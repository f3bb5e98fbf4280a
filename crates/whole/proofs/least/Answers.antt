use Rattle.std.proofs.Common.{rules}
use Rattle.whole.specs.Cases.{leasts}
use Rattle.whole.proofs.least.Goals as goal

pub returns-then-k-eq1 : goal.returns-then-k-eq1
returns-then-k-eq1 c = search (rules, leasts)

pub returns : goal.returns
returns c = search (rules, leasts)
