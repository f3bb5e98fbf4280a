use Rattle.std.proofs.Common.{length, drop, ◌≡◌, ◌≤◌}
use Rattle.entry.specs.Record.{keys_at}
use Rattle.entry.specs.Slots.{slots_from}
use Rattle.entry.proofs.judge_keys.Given as goal

abbrev pub invariant-loop-i : goal.invariant-loop-i
invariant-loop-i l = (l.i ≤ length l.forms) × (keys_at (drop l.i (slots_from l.forms l.flags)) l.i l.p l.at ≡ keys_at (slots_from l.forms l.flags) 0 l.p l.at)
