use Rattle.std.proofs.Common.{◌-◌, ◌≡◌}
use Rattle.writing.specs.Column.{row_from}
use Rattle.writing.proofs.find_row.Given as goal

abbrev pub invariant-loop-i : goal.invariant-loop-i
invariant-loop-i l = row_from l.buf l.base l.tag (l.n - l.i) l.i ≡ row_from l.buf l.base l.tag (l.n - l.from) l.from
