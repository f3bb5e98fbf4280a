use Rattle.std.proofs.Common.{◌≡◌, ◌+◌, ◌-◌, ◌≤◌, length, drop}
use Rattle.octets.specs.Splice.{splice}
use Rattle.book.specs.Rows.{rows_octets}
use Rattle.importing.specs.Tied.{Taken, rows_of}
use Rattle.importing.proofs.lines.put_lines.Given as goal

abbrev pub invariant-loop-at : goal.invariant-loop-at
invariant-loop-at l = (l.at ≤ length l.s) × (l.count ≤ l.at) × (length l.out ≡ length l.initial.out)
    × Taken l.codes (drop l.at l.s)
    × (l.count + length (rows_of l.codes (drop l.at l.s)) ≡ length (rows_of l.codes l.s))
    × (l.k + length (rows_octets (rows_of l.codes (drop l.at l.s))) ≡ l.w + length (rows_octets (rows_of l.codes l.s)))
    × (splice l.out l.k (rows_octets (rows_of l.codes (drop l.at l.s))) ≡ splice l.initial.out l.w (rows_octets (rows_of l.codes l.s)))

abbrev pub decreases-loop-at : goal.decreases-loop-at
decreases-loop-at l = length l.s - l.at
