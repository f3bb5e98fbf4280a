use Rattle.std.proofs.Common.{◌≡◌, ◌+◌, ◌*◌, ◌^◌, ◌≤◌, length, drop}
use Rattle.sheet.specs.Field.{line_of}
use Rattle.exporting.specs.Steps.{chosen_fields}
use Rattle.exporting.proofs.lines.line_size.Given as goal

abbrev pub invariant-loop-i : goal.invariant-loop-i
invariant-loop-i l = (l.k ≤ 1 + l.i * 2 ^ 35)
    × (l.k + length (line_of (drop l.i (chosen_fields l.book l.edges l.tags l.places)))
    ≡ length (line_of (chosen_fields l.book l.edges l.tags l.places)) + 1)
