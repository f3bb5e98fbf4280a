use Rattle.std.proofs.Common.{◌∙◌}
use Rattle.answers.specs.Verdict.{passed-on}
use Rattle.index.specs.Cases.{columns}
use Rattle.index.proofs.look_column.Goals as goal

pub returns-then-book-at : goal.returns-then-book-at
returns-then-book-at c = c.refuse.ensures ∙ search columns

pub returns-in_err-judge_record : goal.returns-in_err-judge_record
returns-in_err-judge_record c = passed-on _ c.from_residual.ensures.1 (search (columns, c.in_err-judge_record.was))

pub returns : goal.returns
returns c = search (columns, c.in_ok-judge_record.was)
