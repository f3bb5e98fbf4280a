use Rattle.std.proofs.Common.{arith, rules}
use Rattle.framing.specs.Cases.{finish-refused, finish-left, finish-done, finish-put, finish-keeps}
use Rattle.framing.proofs.finish.Goals as goal

pub returns-in_default : goal.returns-in_default
returns-in_default c = (search finish-refused, search finish-left)

pub overflow_sub-st : goal.overflow_sub-st
overflow_sub-st c = let k = finish-keeps c.args.st c.args.buf.now _ c.judge_finish-v.ensures (search rules) in omega arith

pub returns : goal.returns
returns c = (search finish-done, search finish-put)
