use Rattle.std.proofs.Common.{length, drop, ◌≡◌, ◌+◌}
use Rattle.octets.specs.Splice.{splice}
use Rattle.std.proofs.Math.Seq.{slice}
use Rattle.octets.proofs.moves.move_up.Given as goal

abbrev pub invariant-loop-k : goal.invariant-loop-k
invariant-loop-k l = (length l.buf ≡ length l.initial.buf)
    × (l.buf ≡ splice l.initial.buf (l.to + l.k) (drop l.k (slice l.at l.end l.initial.buf)))
