use Rattle.std.proofs.Common.{◌≡◌, ◌≤◌, length}
use Rattle.serial.specs.Serial.{serial_from}
use Rattle.serial.specs.Wide.{serial_with, pending}
use Rattle.serial.proofs.fold.fold.Given as goal

abbrev pub invariant-loop-rest : goal.invariant-loop-rest
invariant-loop-rest l = (40 ≤ length l.rest) × (serial_with l.rest (pending l.n1 l.n2 l.n3 l.n4 l.n5) ≡ serial_from l.c l.s)

abbrev pub decreases-loop-rest : goal.decreases-loop-rest
decreases-loop-rest l = length l.rest
