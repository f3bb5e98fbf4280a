use Rattle.std.proofs.Common.{◌≡◌, ◌+◌, ◌*◌, ◌≤◌, length, drop}
use Rattle.sheet.specs.Field.{doubled}
use Rattle.exporting.proofs.strings.doubled_size.Given as goal

abbrev pub invariant-loop-x : goal.invariant-loop-x
invariant-loop-x l = (l.k ≤ 2 * l.x-index)
    × (l.k + length (doubled (drop l.x-index l.s)) ≡ length (doubled l.s))
