use Rattle.std.proofs.Common.{arith}
use Rattle.framing.specs.Cases.{closes, close-keeps}
use Rattle.framing.proofs.judge_close.Goals as goal

pub returns-then-st-ne0 : goal.returns-then-st-ne0
returns-then-st-ne0 c = search closes

pub returns-then-st-eq1 : goal.returns-then-st-eq1
returns-then-st-eq1 c = search closes

pub overflow_add-bits : goal.overflow_add-bits
overflow_add-bits c = let k = close-keeps c.args.st c.args.buf.now _ c.within.ensures c.if-within.true in omega arith

pub overflow_mul-st : goal.overflow_mul-st
overflow_mul-st c = let k = close-keeps c.args.st c.args.buf.now _ c.within.ensures c.if-within.true in omega arith

pub overflow_add-st : goal.overflow_add-st
overflow_add-st c = let k = close-keeps c.args.st c.args.buf.now _ c.within.ensures c.if-within.true in omega arith

pub slice_bounds-keys_held-count : goal.slice_bounds-keys_held-count
slice_bounds-keys_held-count c = let k = close-keeps c.args.st c.args.buf.now _ c.within.ensures c.if-within.true in omega arith

pub slice_bounds-keys_held-start : goal.slice_bounds-keys_held-start
slice_bounds-keys_held-start c = let k = close-keeps c.args.st c.args.buf.now _ c.within.ensures c.if-within.true in omega arith

pub slice_bounds-keys_held-end : goal.slice_bounds-keys_held-end
slice_bounds-keys_held-end c = let k = close-keeps c.args.st c.args.buf.now _ c.within.ensures c.if-within.true in omega arith

pub keys_held-requires : goal.keys_held-requires
keys_held-requires c = let k = close-keeps c.args.st c.args.buf.now _ c.within.ensures c.if-within.true in (omega arith, omega arith)

pub returns-then-keys_held : goal.returns-then-keys_held
returns-then-keys_held c = search closes

pub returns-then-within : goal.returns-then-within
returns-then-within c = search closes

pub returns : goal.returns
returns c = search closes
