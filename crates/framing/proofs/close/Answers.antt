use Rattle.std.proofs.Common.{rules}
use Rattle.framing.specs.Cases.{close-refused, close-left, close-done, close-put, close-starts}
use Rattle.framing.proofs.close.Goals as goal

pub returns-in_default : goal.returns-in_default
returns-in_default c = (search close-refused, search close-left)

pub overflow_sub-st : goal.overflow_sub-st
overflow_sub-st c = close-starts _ _ _ c.judge_close-v.ensures (search rules)

pub returns : goal.returns
returns c = (search close-done, search close-put)
