use Rattle.std.proofs.Common.{◌-◌, ◌≤◌, length}
use Rattle.importing.specs.FieldCases.{At}
use Rattle.importing.proofs.fields.field_end.Given as goal

abbrev pub invariant-loop-i : goal.invariant-loop-i
invariant-loop-i l = (l.i ≤ length l.s) × At l.s l.at l.i

abbrev pub decreases-loop-i : goal.decreases-loop-i
decreases-loop-i l = length l.s - l.i
