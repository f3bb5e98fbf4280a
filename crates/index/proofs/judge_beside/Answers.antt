use Rattle.answers.specs.Verdict.{passed-on}
use Rattle.index.specs.Cases.{besides}
use Rattle.index.proofs.judge_beside.Goals as goal

pub returns-in_err-judge_index : goal.returns-in_err-judge_index
returns-in_err-judge_index c = passed-on _ c.from_residual.ensures.1 (search (besides, c.in_err-judge_index.was))

pub returns-then-word32-k : goal.returns-then-word32-k
returns-then-word32-k c = search (besides, c.in_ok-judge_index.was)

pub returns : goal.returns
returns c = search (besides, c.in_ok-judge_index.was)
