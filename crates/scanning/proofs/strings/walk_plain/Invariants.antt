use Rattle.std.proofs.Common.{◌≡◌, drop}
use Rattle.scanning.specs.Passing.{is_plain, pass_from}
use Rattle.scanning.proofs.strings.walk_plain.Given as goal

abbrev pub invariant-loop-i : goal.invariant-loop-i
invariant-loop-i l = (pass_from is_plain l.end l.i (drop l.i l.text) ≡ pass_from is_plain l.end l.at (drop l.at l.text))
