use Rattle.std.proofs.Common.{◌≡◌, false, drop}
use Rattle.scanning.specs.Passing.{quoted_from}
use Rattle.scanning.proofs.strings.walk_quoted.Given as goal

abbrev pub invariant-loop-i : goal.invariant-loop-i
invariant-loop-i l =
    quoted_from l.behind l.end l.i (drop l.i l.text) ≡ quoted_from false l.end l.at (drop l.at l.text)
