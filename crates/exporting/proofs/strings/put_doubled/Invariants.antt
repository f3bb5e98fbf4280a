use Rattle.std.proofs.Common.{◌≡◌, ◌+◌, length, drop}
use Rattle.octets.specs.Splice.{splice}
use Rattle.sheet.specs.Field.{doubled}
use Rattle.exporting.proofs.strings.put_doubled.Given as goal

abbrev pub invariant-loop-x : goal.invariant-loop-x
invariant-loop-x l = (length l.out ≡ length l.initial.out) × (l.k + length (doubled (drop l.x-index l.s)) ≡ l.at + length (doubled l.s))
    × (splice l.out l.k (doubled (drop l.x-index l.s)) ≡ splice l.initial.out l.at (doubled l.s))
