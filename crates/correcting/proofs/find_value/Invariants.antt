use Rattle.std.proofs.Common.{length, drop, [], ◌≡◌, ◌+◌, ◌-◌, ◌≤◌}
use Rattle.editing.specs.Put.{spot_from}
use Rattle.entry.specs.Slots.{slots_from}
use Rattle.correcting.proofs.find_value.Given as goal

abbrev pub invariant-loop-j : goal.invariant-loop-j
invariant-loop-j l = (l.i ≤ length l.s) × (l.j ≤ l.c) × (spot_from (drop l.j (slots_from l.forms [])) (l.c - l.j) l.j l.p (l.at + l.i) (drop l.i l.s) ≡ spot_from (slots_from l.forms []) l.c 0 l.p l.at l.s)
