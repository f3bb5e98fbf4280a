use Rattle.std.proofs.Common.{◌≡◌, take}
use Rattle.importing.specs.Steps.{codes_for}
use Rattle.importing.proofs.codes_of.Given as goal

abbrev pub invariant-loop-i : goal.invariant-loop-i
invariant-loop-i l = (l.codes ≡ codes_for (take l.i l.tags))
