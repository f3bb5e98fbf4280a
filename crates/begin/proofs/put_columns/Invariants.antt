use Rattle.std.proofs.Common.{drop, ◌≡◌, ◌+◌, ◌*◌}
use Rattle.begin.specs.Begin.{columns_from}
use Rattle.table.specs.Table.{columns_octets}
use Rattle.octets.specs.Splice.{stored}
use Rattle.begin.proofs.put_columns.Given as goal

abbrev pub invariant-loop-i : goal.invariant-loop-i
invariant-loop-i l =
    stored l.buf (l.at + 8 * l.i) (columns_octets (columns_from (drop l.i l.tags) (drop l.i l.flags)))
    ≡ stored l.initial.buf l.at (columns_octets (columns_from l.tags l.flags))
