use Rattle.std.proofs.Common.{arith, rules}
use Rattle.begin.specs.Cases.{begin-refused, begin-left, begin-keeps, begin-done, begin-put}
use Rattle.begin.proofs.begin.Goals as goal

pub returns-in_default : goal.returns-in_default
returns-in_default c = (search begin-refused, search begin-left)

pub overflow_mul-h : goal.overflow_mul-h
overflow_mul-h c = let k = begin-keeps c.args.htags.now c.args.hflags.now c.args.tags.now c.args.flags.now c.args.buf.now _ c.judge_begin-v.ensures (search rules) in omega arith

pub overflow_add-h-2 : goal.overflow_add-h-2
overflow_add-h-2 c = let k = begin-keeps c.args.htags.now c.args.hflags.now c.args.tags.now c.args.flags.now c.args.buf.now _ c.judge_begin-v.ensures (search rules) in omega arith

pub put_head-requires : goal.put_head-requires
put_head-requires c = let k = begin-keeps c.args.htags.now c.args.hflags.now c.args.tags.now c.args.flags.now c.args.buf.now _ c.judge_begin-v.ensures (search rules) in omega arith

pub put_table-requires : goal.put_table-requires
put_table-requires c = let k = begin-keeps c.args.htags.now c.args.hflags.now c.args.tags.now c.args.flags.now c.args.buf.now _ c.judge_begin-v.ensures (search rules) in (k.heads, k.few, omega (arith, c.put_head.auto.buf))

pub overflow_add-h-3 : goal.overflow_add-h-3
overflow_add-h-3 c = let k = begin-keeps c.args.htags.now c.args.hflags.now c.args.tags.now c.args.flags.now c.args.buf.now _ c.judge_begin-v.ensures (search rules) in omega arith

pub put_table-requires-2 : goal.put_table-requires-2
put_table-requires-2 c = let k = begin-keeps c.args.htags.now c.args.hflags.now c.args.tags.now c.args.flags.now c.args.buf.now _ c.judge_begin-v.ensures (search rules) in (k.rows, k.low, omega (arith, c.put_head.auto.buf, c.put_table.auto.buf))

pub begun-next-requires : goal.begun-next-requires
begun-next-requires c = let k = begin-keeps c.args.htags.now c.args.hflags.now c.args.tags.now c.args.flags.now c.args.buf.now _ c.judge_begin-v.ensures c.in-Ok.is in (k.few, k.low)

pub returns : goal.returns
returns c = (begin-done c.args.htags.now c.args.hflags.now c.args.tags.now c.args.flags.now c.args.buf.now _ c.judge_begin-v.ensures c.in-Ok.is _ _ _ c.begun-next.ensures c.settle-2.ensures, begin-put c.args.htags.now c.args.hflags.now c.args.tags.now c.args.flags.now c.args.buf.now _ c.judge_begin-v.ensures c.in-Ok.is _ _ _ c.put_head.ensures c.put_table.ensures c.put_table-2.ensures)
