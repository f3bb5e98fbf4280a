use Rattle.answers.specs.Verdict.{passed-on}
use Rattle.importing.specs.HeadCases.{values-refused, values-within, values-next}
use Rattle.importing.proofs.head.judge_values.Goals as goal

pub returns-in_err-i : goal.returns-in_err-i
returns-in_err-i c = passed-on _ c.from_residual.ensures.1 (search (values-refused, c.in_err-i.was))

pub loop-j-preserved : goal.loop-j-preserved
loop-j-preserved c = (search (values-within, c.in_ok-i.was), search (values-next, c.in_ok-i.was))
