use Rattle.std.proofs.Common.{arith}
use Rattle.giving.specs.Cases.{adding, adds}
use Rattle.giving.proofs.add.Goals as goal

pub returns-then-st-eq0 : goal.returns-then-st-eq0
returns-then-st-eq0 c = search adding

pub returns-in_default : goal.returns-in_default
returns-in_default c = search adding

pub behind_element-behind-requires : goal.behind_element-behind-requires
behind_element-behind-requires c = (adds _ _ _ _ c.judge_size-verdict.ensures c.in-Ok.is, omega arith)

pub returns-then-within : goal.returns-then-within
returns-then-within c = search adding

pub returns : goal.returns
returns c = search adding
