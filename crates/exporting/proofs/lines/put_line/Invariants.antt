use Rattle.std.proofs.Common.{◌≡◌, ◌+◌, length, drop}
use Rattle.octets.specs.Splice.{splice}
use Rattle.sheet.specs.Field.{line_of}
use Rattle.exporting.specs.Steps.{chosen_fields}
use Rattle.exporting.proofs.lines.put_line.Given as goal

abbrev pub invariant-loop-i : goal.invariant-loop-i
invariant-loop-i l = (length l.out ≡ length l.initial.out)
    × (l.k + length (line_of (drop l.i (chosen_fields l.book l.edges l.tags l.places)))
    ≡ l.at + length (line_of (chosen_fields l.book l.edges l.tags l.places)))
    × (splice l.out l.k (line_of (drop l.i (chosen_fields l.book l.edges l.tags l.places)))
    ≡ splice l.initial.out l.at (line_of (chosen_fields l.book l.edges l.tags l.places)))
