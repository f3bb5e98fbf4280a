use Rattle.std.proofs.Common.{◌≡◌, true, ◌+◌, ◌≤◌, length, drop}
use Rattle.importing.specs.Fields.{line_long}
use Rattle.importing.specs.Lines.{line_from}
use Rattle.importing.proofs.lines.judge_line.Given as goal

abbrev pub invariant-loop-j : goal.invariant-loop-j
invariant-loop-j l = (l.i + line_long (drop l.j l.codes) (drop l.i l.s) ≤ length l.s)
    × (line_from (drop l.j l.codes) (drop l.j l.flags) l.held l.k l.n l.i (drop l.i l.s) ≡ line_from l.codes l.flags true l.w l.n l.at (drop l.at l.s))
