use Rattle.std.proofs.Common.{◌≡◌, ◌-◌}
use Rattle.serial.specs.Wide.{steps}
use Rattle.serial.proofs.fold.word_step.Given as goal

abbrev pub invariant-loop : goal.invariant-loop
invariant-loop l = steps (64 - l.counter) l.y ≡ steps 64 l.x
