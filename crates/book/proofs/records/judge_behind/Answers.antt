use Rattle.answers.specs.Verdict.{passed-on}
use Rattle.book.specs.RecordCases.{behinds}
use Rattle.book.proofs.records.judge_behind.Goals as goal

pub returns-in_err-judge_records : goal.returns-in_err-judge_records
returns-in_err-judge_records c = passed-on _ c.from_residual.ensures.1 (search (behinds, c.in_err-judge_records.was))

pub returns-then-serial_after-word32 : goal.returns-then-serial_after-word32
returns-then-serial_after-word32 c = search (behinds, c.in_ok-judge_records.was)

pub returns : goal.returns
returns c = search (behinds, c.in_ok-judge_records.was)
