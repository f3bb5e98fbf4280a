use Rattle.answers.specs.Verdict.{passed-on}
use Rattle.entry.specs.Cases.{insides}
use Rattle.entry.proofs.judge_inside.Goals as goal

pub returns-then-not-spare_clear : goal.returns-then-not-spare_clear
returns-then-not-spare_clear c = search insides

pub returns-in_err-judge_keys : goal.returns-in_err-judge_keys
returns-in_err-judge_keys c = passed-on _ c.from_residual.ensures.1 (search (insides, c.in_err-judge_keys.was))

pub returns : goal.returns
returns c = search (insides, c.in_ok-judge_keys.was)
