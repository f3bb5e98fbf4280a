use Rattle.std.proofs.Common.{length, drop, [], ◌≡◌, ◌+◌, ◌≤◌}
use Rattle.entry.specs.Record.{values_at}
use Rattle.entry.specs.Slots.{slots_from}
use Rattle.entry.proofs.judge_values.Given as goal

abbrev pub invariant-loop-j : goal.invariant-loop-j
invariant-loop-j l = (l.i ≤ length l.s) × (l.j ≤ length l.forms) × (values_at (drop l.j (slots_from l.forms [])) l.j l.p (l.at + l.i) (drop l.i l.s) ≡ values_at (slots_from l.forms []) 0 l.p l.at l.s)
