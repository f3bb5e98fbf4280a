use Rattle.std.proofs.Common.{rules}
use Rattle.answers.specs.Verdict.{passed-on}
use Rattle.importing.specs.LineCases.{record_judged, record-fits}
use Rattle.importing.proofs.lines.judge_record.Goals as goal

pub returns-then-opened-ge-MOST_OPENED : goal.returns-then-opened-ge-MOST_OPENED
returns-then-opened-ge-MOST_OPENED c = search (rules, record_judged)

pub returns-in_err-judge_room : goal.returns-in_err-judge_room
returns-in_err-judge_room c = passed-on _ c.from_residual.ensures.1 (search (record_judged, c.in_err-judge_room.was))

pub overflow_add-w : goal.overflow_add-w
overflow_add-w c = search (record-fits, c.in_ok-judge_room.was)

pub returns : goal.returns
returns c = search (rules, record_judged, c.in_ok-judge_room.was)
