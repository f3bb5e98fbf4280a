use Rattle.std.proofs.Common.{drop, ◌≡◌, ◌+◌, ◌-◌, ◌*◌, ◌^◌, ◌≤◌}
use Rattle.lookup.specs.Places.{walk_to}
use Rattle.lookup.proofs.walk_to.Given as goal

abbrev pub invariant-loop : goal.invariant-loop
invariant-loop l = (l.i ≤ l.at + l.counter * 2 ^ 32) × (walk_to (l.k - l.counter) l.i (drop l.i l.book) ≡ walk_to l.k l.at (drop l.at l.book))
