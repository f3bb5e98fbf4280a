use Rattle.std.proofs.Common.{length, drop, ◌+◌, ◌≤◌, ◌≡◌}
use Rattle.edges.specs.Passed.{passed}
use Rattle.edges.specs.Edges.{edges_from}
use Rattle.octets.specs.Splice.{splice}
use Rattle.edges.proofs.fill_edges.Given as goal

abbrev pub invariant-loop-j : goal.invariant-loop-j
invariant-loop-j l = (l.i ≤ length l.s) × (l.j ≤ length l.forms) × (length l.edges ≡ length l.initial.edges)
    × (splice l.edges l.j (edges_from (passed (drop l.j l.forms)) l.j l.p (l.at + l.i) (drop l.i l.s))
    ≡ splice l.initial.edges 0 (edges_from (passed l.forms) 0 l.p l.at l.s))
