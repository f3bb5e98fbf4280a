use Rattle.std.proofs.Common.{arith, rules}
use Rattle.framing.specs.Cases.{open-refused, open-left, open_done, open-put, open-keeps, open-fits}
use Rattle.framing.proofs.open.Goals as goal

pub returns-in_default : goal.returns-in_default
returns-in_default c = (search open-refused, search open-left)

pub open_size-k-requires : goal.open_size-k-requires
open_size-k-requires c = open-keeps _ _ _ c.judge_open-v.ensures (search rules)

pub overflow_add-at : goal.overflow_add-at
overflow_add-at c = let f = open-fits c.args.st c.args.buf.now _ c.judge_open-v.ensures (search rules) c.open_size-k.result c.open_size-k.ensures.0 in omega arith

pub opened-next-requires : goal.opened-next-requires
opened-next-requires c = open-fits c.args.st c.args.buf.now _ c.judge_open-v.ensures (search rules) c.open_size-k.result c.open_size-k.ensures.0

pub returns : goal.returns
returns c = (search open_done, search open-put)
