use Rattle.std.proofs.Common.{drop, ◌≡◌, ◌+◌, ◌*◌, ◌^◌, ◌≤◌}
use Rattle.lookup.specs.PlaceCases.{starts_at}
use Rattle.lookup.specs.Places.{walk_to}
use Rattle.table.specs.First.{first}
use mathlib.Core.Option.{none}
use Rattle.lookup.proofs.number_at.Given as goal

abbrev pub invariant-loop-k : goal.invariant-loop-k
invariant-loop-k l = (l.k ≤ l.j.count) × (l.i ≤ l.j.first + l.k * 2 ^ 32)
    × (l.i ≡ walk_to l.k l.j.first (drop l.j.first l.book))
    × (first (starts_at l.book l.j.first l.at) l.k ≡ none)
