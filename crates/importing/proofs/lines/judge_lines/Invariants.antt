use Rattle.std.proofs.Common.{◌≡◌, ◌+◌, ◌-◌, ◌≤◌, length, drop}
use Rattle.importing.specs.LinesCases.{slots_by}
use Rattle.importing.specs.Given.{rows_given}
use Rattle.importing.specs.Tied.{Taken, rows_of}
use Rattle.importing.proofs.lines.judge_lines.Given as goal

abbrev pub invariant-loop-at : goal.invariant-loop-at
invariant-loop-at l = (l.at ≤ length l.s) × Taken l.codes (drop l.at l.s)
    × (l.opened + length (rows_of l.codes (drop l.at l.s)) ≡ 1 + length (rows_of l.codes l.s))
    ×
    (rows_given (slots_by l.codes l.flags) l.k l.n l.opened (rows_of l.codes (drop l.at l.s))
    ≡ rows_given (slots_by l.codes l.flags) l.w l.n 1 (rows_of l.codes l.s))

abbrev pub decreases-loop-at : goal.decreases-loop-at
decreases-loop-at l = length l.s - l.at
