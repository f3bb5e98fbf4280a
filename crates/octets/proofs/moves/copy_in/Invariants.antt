use Rattle.std.proofs.Common.{length, take, ◌≡◌}
use Rattle.octets.specs.Splice.{splice}
use Rattle.octets.proofs.moves.copy_in.Given as goal

abbrev pub invariant-loop-j : goal.invariant-loop-j
invariant-loop-j l = (length l.buf ≡ length l.initial.buf) × (l.buf ≡ splice l.initial.buf l.at (take l.j l.src))
