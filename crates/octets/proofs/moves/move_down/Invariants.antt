use Rattle.std.proofs.Common.{length, take, ◌≡◌}
use Rattle.octets.specs.Splice.{splice}
use Rattle.std.proofs.Math.Seq.{slice}
use Rattle.octets.proofs.moves.move_down.Given as goal

abbrev pub invariant-loop-j : goal.invariant-loop-j
invariant-loop-j l = (length l.buf ≡ length l.initial.buf)
    × (l.buf ≡ splice l.initial.buf l.to (take l.j (slice l.at l.end l.initial.buf)))
