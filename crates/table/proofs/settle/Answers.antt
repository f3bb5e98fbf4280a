use Rattle.std.proofs.Common.{arith}
use Rattle.answers.specs.Verdict.{passed-on}
use Rattle.table.specs.Found.{nothing-left}
use Rattle.table.specs.Cases.{settles, settle-stop, settle-good, row_below}
use Rattle.table.proofs.settle.Goals as goal

pub overflow_mul-i : goal.overflow_mul-i
overflow_mul-i c = let b = row_below c.args.rows 0 _ _ c.tags.ensures c.first_repeat.ensures _ c.in-Some.is in omega arith

pub overflow_add-at : goal.overflow_add-at
overflow_add-at c = let b = row_below c.args.rows 0 _ _ c.tags.ensures c.first_repeat.ensures _ c.in-Some.is in omega arith

pub returns-in-Some : goal.returns-in-Some
returns-in-Some c = search settles

pub returns-in_err-rows : goal.returns-in_err-rows
returns-in_err-rows c =
    passed-on _ c.from_residual.ensures.1 (settle-stop _ _ _ _ c.tags.ensures c.first_repeat.ensures (nothing-left _ c.in_default.not-Some) _ c.in_err-rows.was)

pub returns : goal.returns
returns c = settle-good _ _ _ _ c.tags.ensures c.first_repeat.ensures (nothing-left _ c.in_default.not-Some) c.in_ok-rows.was
