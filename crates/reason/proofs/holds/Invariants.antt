use Rattle.std.proofs.Common.{◌≤◌, ◌-◌, ◌≡◌, length, drop}
use Rattle.reason.specs.Why.{numbers_from, numbers_in}
use Rattle.table.specs.Repeat.{memb}
use Rattle.reason.proofs.holds.Given as goal

abbrev pub invariant-loop : goal.invariant-loop
invariant-loop l = (l.i ≤ length l.list) × (memb l.tag (numbers_from (l.n - l.counter) (drop l.i l.list)) ≡ memb l.tag (numbers_in l.list))
