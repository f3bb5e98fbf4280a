use Rattle.answers.specs.Verdict.{passed-on}
use Rattle.correcting.specs.Cases.{column-refused, column-long, column-room, column-done, cell_in_lem}
use Rattle.correcting.proofs.plan_column.Goals as goal

pub returns-in_err-judge_entry : goal.returns-in_err-judge_entry
returns-in_err-judge_entry c = passed-on _ c.from_residual.ensures.1 (search (column-refused, c.in_err-judge_entry.was))

pub returns-then-value-gt-MOST_OCTETS : goal.returns-then-value-gt-MOST_OCTETS
returns-then-value-gt-MOST_OCTETS c = search (column-long, c.in_ok-judge_entry.was)

pub overflow_sub-book : goal.overflow_sub-book
overflow_sub-book c = search cell_in_lem

pub returns-in_err-judge_room : goal.returns-in_err-judge_room
returns-in_err-judge_room c =
    passed-on _ c.from_residual-in_err-judge_room.ensures.1 (column-room c.args.forms.now c.args.flags.now c.args.book.now c.args.value.now c.args.c c.args.at c.args.room c.args.count c.args.there c.requires.0 c.requires.1 c.requires.2 _ c.flags_at.ensures _ c.judge_entry.ensures c.in_ok-judge_entry.was _ c.find_cell-cell.ensures _ c.judge_room.ensures _ c.in_err-judge_room.was)

pub returns : goal.returns
returns c = search (column-done, c.in_ok-judge_entry.was, c.in_ok-judge_room.was)
