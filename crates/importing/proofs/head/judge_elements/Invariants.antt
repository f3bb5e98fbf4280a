use Rattle.std.proofs.Common.{◌≡◌, ◌-◌, ◌≤◌, length, drop}
use Rattle.value.specs.Types.{kind_at}
use Rattle.importing.specs.Given.{elements_of, pieces_at}
use Rattle.importing.proofs.head.judge_elements.Given as goal

abbrev pub invariant-loop : goal.invariant-loop
invariant-loop l = (l.i ≤ length l.s)
    × (pieces_at l.k l.n (elements_of (kind_at l.kind) (l.count - l.counter) (drop l.i l.s)) ≡ pieces_at l.w l.n (elements_of (kind_at l.kind) l.count l.s))
