use Rattle.std.proofs.Common.{◌-◌, length}
use Rattle.text.specs.Cases.{CharsTo}
use Rattle.text.proofs.chars.Given as goal

abbrev pub invariant-loop-i : goal.invariant-loop-i
invariant-loop-i l = CharsTo l.s l.i

abbrev pub decreases-loop-i : goal.decreases-loop-i
decreases-loop-i l = length l.s - l.i
