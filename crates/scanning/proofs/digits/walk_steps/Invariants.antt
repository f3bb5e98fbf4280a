use Rattle.std.proofs.Common.{◌≡◌, drop}
use Rattle.scanning.specs.declared.Fill.TheVariants.{Nothing}
use Rattle.scanning.specs.declared.Stage.TheVariants.{Outside}
use Rattle.scanning.specs.Steps.{field_from}
use Rattle.scanning.proofs.digits.walk_steps.Given as goal

abbrev pub invariant-loop-i : goal.invariant-loop-i
invariant-loop-i l = (field_from l.code l.end l.stage l.i (drop l.i l.text)
    ≡ field_from l.code l.end (Outside Nothing) l.at (drop l.at l.text))
