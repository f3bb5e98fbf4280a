use Rattle.std.proofs.Common.{length, drop, ◌-◌, ◌≤◌, ◌≡◌}
use Rattle.value.specs.Value.{list_from, list_of}
use Rattle.value.specs.Types.{kind_at}
use Rattle.value.proofs.walks.list.Given as goal

abbrev pub invariant-loop : goal.invariant-loop
invariant-loop l = (l.i ≤ length l.s) × (list_from (kind_at l.kind) (l.n - l.counter) l.i (drop l.i l.s) ≡ list_of (kind_at l.kind) l.s)
