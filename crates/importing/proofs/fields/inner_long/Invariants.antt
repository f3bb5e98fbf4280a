use Rattle.std.proofs.Common.{◌≡◌, false, ◌+◌, ◌≤◌, length, drop}
use Rattle.sheet.specs.Reading.{unquoted}
use Rattle.importing.proofs.fields.inner_long.Given as goal

abbrev pub invariant-loop-x : goal.invariant-loop-x
invariant-loop-x l = (l.k ≤ l.x-index)
    × (l.k + length (unquoted l.second (drop l.x-index l.s)) ≡ length (unquoted false l.s))
