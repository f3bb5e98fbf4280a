use Rattle.std.proofs.Common.{◌≡◌, ◌+◌, ◌-◌, ◌*◌, ◌^◌, ◌≤◌, length, replicate}
use Rattle.edges.specs.Edges.{most_edges}
use Rattle.exporting.specs.Steps.{lines_by}
use Rattle.exporting.proofs.lines.lines_size.Given as goal

abbrev pub invariant-loop : goal.invariant-loop
invariant-loop l = (length l.edges ≡ most_edges)
    × (l.i + (l.j.count - l.counter) * 2 ^ 32 ≤ l.j.first + l.j.count * 2 ^ 32)
    × (l.k + (l.j.count - l.counter) * 2 ^ 40 ≤ l.j.count * 2 ^ 40)
    × (l.k + length (lines_by l.book l.forms l.tags l.places (l.j.count - l.counter) l.i l.edges)
    ≡ length (lines_by l.book l.forms l.tags l.places l.j.count l.j.first (replicate most_edges 0)))
