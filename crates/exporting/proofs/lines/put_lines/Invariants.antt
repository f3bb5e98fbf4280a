use Rattle.std.proofs.Common.{◌≡◌, ◌+◌, ◌-◌, ◌*◌, ◌^◌, ◌≤◌, length, replicate}
use Rattle.edges.specs.Edges.{most_edges}
use Rattle.exporting.specs.Steps.{lines_by}
use Rattle.octets.specs.Splice.{splice}
use Rattle.exporting.proofs.lines.put_lines.Given as goal

abbrev pub invariant-loop : goal.invariant-loop
invariant-loop l = (length l.edges ≡ most_edges)
    × (l.i + (l.j.count - l.counter) * 2 ^ 32 ≤ l.j.first + l.j.count * 2 ^ 32)
    × (length l.out ≡ length l.initial.out)
    × (l.k + length (lines_by l.book l.forms l.tags l.places (l.j.count - l.counter) l.i l.edges)
    ≡ l.to + length (lines_by l.book l.forms l.tags l.places l.j.count l.j.first (replicate most_edges 0)))
    × (splice l.out l.k (lines_by l.book l.forms l.tags l.places (l.j.count - l.counter) l.i l.edges)
    ≡ splice l.initial.out l.to (lines_by l.book l.forms l.tags l.places l.j.count l.j.first (replicate most_edges 0)))
