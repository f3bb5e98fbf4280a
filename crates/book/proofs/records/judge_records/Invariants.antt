use Rattle.std.proofs.Common.{drop, ◌≡◌, ◌-◌}
use Rattle.book.specs.Rows.{records_from}
use Rattle.entry.specs.Slots.{slots_from}
use Rattle.book.proofs.records.judge_records.Given as goal

abbrev pub invariant-loop : goal.invariant-loop
invariant-loop l = records_from (l.count - l.counter) (slots_from l.forms l.flags) l.i (drop l.i l.book) ≡ records_from l.count (slots_from l.forms l.flags) l.at (drop l.at l.book)
