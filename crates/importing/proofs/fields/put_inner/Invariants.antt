use Rattle.std.proofs.Common.{◌≡◌, false, ◌+◌, length, drop}
use Rattle.sheet.specs.Reading.{unquoted}
use Rattle.octets.specs.Splice.{splice}
use Rattle.importing.proofs.fields.put_inner.Given as goal

abbrev pub invariant-loop-x : goal.invariant-loop-x
invariant-loop-x l = (length l.out ≡ length l.initial.out)
    × (l.k + length (unquoted l.second (drop l.x-index l.s)) ≡ l.at + length (unquoted false l.s))
    × (splice l.out l.k (unquoted l.second (drop l.x-index l.s)) ≡ splice l.initial.out l.at (unquoted false l.s))
