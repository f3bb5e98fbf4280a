use Rattle.std.proofs.Common.{◌+◌, ◌*◌, ◌^◌, ◌≤◌, ◌≡◌, length, drop}
use Rattle.lookup.specs.Places.{walk_to}
use Rattle.octets.specs.Splice.{stored}
use Rattle.index.specs.MakeCases.{walked}
use Rattle.index.proofs.put_starts.Given as goal

abbrev pub invariant-loop : goal.invariant-loop
invariant-loop l = (l.i ≤ l.j.first + l.counter * 2 ^ 32) × (length l.out ≡ length l.initial.out)
    × (l.to ≡ l.at + l.width * l.counter) × (l.i ≡ walk_to l.counter l.j.first (drop l.j.first l.book))
    × (l.out ≡ stored l.initial.out l.at (walked l.width l.counter l.j.first (drop l.j.first l.book)))
