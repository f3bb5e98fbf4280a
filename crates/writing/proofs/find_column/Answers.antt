use Rattle.std.proofs.Common.{arith}
use Rattle.writing.specs.State.{within-few}
use Rattle.writing.specs.Column.{columns}
use Rattle.writing.proofs.find_column.Goals as goal

pub returns-then-st-ne0 : goal.returns-then-st-ne0
returns-then-st-ne0 c = search columns

pub find_row-requires : goal.find_row-requires
find_row-requires c = let w = within-few _ _ _ c.within.ensures c.if-within.true in (omega arith, omega arith)

pub returns-then-st-eq1 : goal.returns-then-st-eq1
returns-then-st-eq1 c = search columns

pub overflow_mul-st : goal.overflow_mul-st
overflow_mul-st c = let w = within-few _ _ _ c.within.ensures c.if-within.true in omega arith

pub overflow_add-st : goal.overflow_add-st
overflow_add-st c = let w = within-few _ _ _ c.within.ensures c.if-within.true in omega arith

pub find_row-requires-then-within : goal.find_row-requires-then-within
find_row-requires-then-within c = let w = within-few _ _ _ c.within.ensures c.if-within.true in (omega arith, omega arith)

pub returns-then-within : goal.returns-then-within
returns-then-within c = search columns

pub returns : goal.returns
returns c = search columns
