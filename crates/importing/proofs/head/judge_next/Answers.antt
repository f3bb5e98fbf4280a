use Rattle.std.proofs.Common.{rules}
use Rattle.answers.specs.Verdict.{passed-on}
use Rattle.importing.specs.HeadCases.{next_cases}
use Rattle.importing.proofs.head.judge_next.Goals as goal

pub returns-in_err-judge_column : goal.returns-in_err-judge_column
returns-in_err-judge_column c = passed-on _ c.from_residual.ensures.1 (search (next_cases, c.in_err-judge_column.was))

pub returns : goal.returns
returns c = search (rules, next_cases, c.in_ok-judge_column.was)
