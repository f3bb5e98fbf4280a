use Rattle.answers.specs.Verdict.{passed-on}
use Rattle.book.specs.RecordCases.{records, record-fits}
use Rattle.book.proofs.records.judge_records.Goals as goal

pub returns-in_err-judge_due : goal.returns-in_err-judge_due
returns-in_err-judge_due c = passed-on _ c.from_residual.ensures.1 (search (records, c.in_err-judge_due.was))

pub overflow_add-i : goal.overflow_add-i
overflow_add-i c = search (record-fits, c.in_ok-judge_due.was)

pub loop-preserved : goal.loop-preserved
loop-preserved c = search (records, c.in_ok-judge_due.was)

pub returns-then-i-book : goal.returns-then-i-book
returns-then-i-book c = search records

pub returns : goal.returns
returns c = search records
