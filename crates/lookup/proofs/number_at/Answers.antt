use Rattle.std.proofs.Common.{arith, refl, rules}
use Rattle.lookup.specs.PlaceCases.{steps, number-start, number_step, number-on}
use Rattle.lookup.proofs.number_at.Goals as goal

pub loop-k-init : goal.loop-k-init
loop-k-init c = (search rules, search rules, search number-start, refl)

pub returns-then-i-at : goal.returns-then-i-at
returns-then-i-at c = search steps

pub loop-k-preserved : goal.loop-k-preserved
loop-k-preserved c = (search rules, omega arith, search number_step, search number-on)

pub returns : goal.returns
returns c = search steps
