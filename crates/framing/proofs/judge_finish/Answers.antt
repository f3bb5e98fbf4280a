use Rattle.framing.specs.Cases.{finishes}
use Rattle.framing.proofs.judge_finish.Goals as goal

pub returns-then-st-eq0 : goal.returns-then-st-eq0
returns-then-st-eq0 c = search finishes

pub returns-then-st-eq1 : goal.returns-then-st-eq1
returns-then-st-eq1 c = search finishes

pub returns-then-idle : goal.returns-then-idle
returns-then-idle c = search finishes

pub returns : goal.returns
returns c = search finishes
