use Rattle.std.proofs.Common.{◌≡◌, ◌+◌, ◌≤◌, length, drop}
use Rattle.octets.specs.Splice.{splice}
use Rattle.entry.specs.Present.{marks}
use Rattle.entry.specs.Record.{values_of}
use Rattle.importing.specs.Fields.{laid_row, line_long}
use Rattle.importing.specs.Marked.{marks_on}
use Rattle.importing.proofs.lines.put_values.Given as goal

abbrev pub invariant-loop-j : goal.invariant-loop-j
invariant-loop-j l = (length l.out ≡ length l.initial.out)
    × (length l.bits ≡ 2) × (l.i + line_long (drop l.j l.codes) (drop l.i l.s) ≤ length l.s)
    × (l.i + line_long (drop l.j l.codes) (drop l.i l.s) ≡ l.from + line_long l.codes (drop l.from l.s))
    × (l.k + length (values_of (laid_row (drop l.j l.codes) (drop l.i l.s))) ≡ l.at + length (values_of (laid_row l.codes (drop l.from l.s))))
    × (splice l.out l.k (values_of (laid_row (drop l.j l.codes) (drop l.i l.s)))
    ≡ splice l.initial.out l.at (values_of (laid_row l.codes (drop l.from l.s))))
    × (marks_on l.bits l.j (laid_row (drop l.j l.codes) (drop l.i l.s)) ≡ marks 2 0 (laid_row l.codes (drop l.from l.s)))
