use Rattle.std.proofs.Common.{drop, ◌≡◌, ◌+◌}
use Rattle.begin.specs.Begin.{known_to}
use Rattle.begin.proofs.known.Given as goal

abbrev pub invariant-loop-i : goal.invariant-loop-i
invariant-loop-i l = known_to l.tags ≡ l.i + known_to (drop l.i l.tags)
