use Rattle.std.proofs.Common.{◌≡◌, drop}
use Rattle.sheet.specs.Field.{numbers}
use Rattle.scanning.specs.Steps.{spells}
use Rattle.scanning.specs.Passing.{pass_from}
use Rattle.scanning.proofs.digits.walk_more.Given as goal

abbrev pub invariant-loop-i : goal.invariant-loop-i
invariant-loop-i l = (pass_from (spells numbers) l.end l.i (drop l.i l.text) ≡ pass_from (spells numbers) l.end l.at (drop l.at l.text))
