use Rattle.std.proofs.Common.{length, drop, [], ◌≡◌, ◌+◌, ◌-◌, ◌≤◌}
use Rattle.lookup.specs.Look.{seek_from}
use Rattle.entry.specs.Slots.{slots_from}
use Rattle.lookup.proofs.seek_value.Given as goal

abbrev pub invariant-loop-j : goal.invariant-loop-j
invariant-loop-j l = (l.i ≤ length l.s) × (l.j ≤ l.c) × (seek_from (drop l.j (slots_from l.forms [])) (l.c - l.j) l.j l.p (l.at + l.i) (drop l.i l.s) ≡ seek_from (slots_from l.forms []) l.c 0 l.p l.at l.s)
