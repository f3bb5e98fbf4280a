use Rattle.std.proofs.Common.{◌≡◌, ◌+◌, length, drop}
use Rattle.octets.specs.Splice.{splice}
use Rattle.sheet.specs.Field.{line_of, tag_fields}
use Rattle.exporting.proofs.lines.put_tags.Given as goal

abbrev pub invariant-loop-i : goal.invariant-loop-i
invariant-loop-i l = (length l.out ≡ length l.initial.out)
    × (l.k + length (line_of (drop l.i (tag_fields l.tags))) ≡ l.at + length (line_of (tag_fields l.tags)))
    × (splice l.out l.k (line_of (drop l.i (tag_fields l.tags))) ≡ splice l.initial.out l.at (line_of (tag_fields l.tags)))
