use Rattle.std.proofs.Common.{◌≡◌, ◌+◌, ◌≤◌, length, drop}
use Rattle.importing.specs.Head.{head_from}
use Rattle.importing.proofs.head.judge_values.Given as goal

abbrev pub invariant-loop-j : goal.invariant-loop-j
invariant-loop-j l = (l.i ≤ length l.s)
    × (head_from (drop l.j l.forms) l.j l.p (l.w + l.i) l.n (drop l.i l.s) ≡ head_from l.forms 0 l.p l.w l.n l.s)
