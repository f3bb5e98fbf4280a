use Rattle.std.proofs.Common.{arith}
use Rattle.giving.specs.Cases.{gives, placing, keeping, give-clear, keep-clear}
use Rattle.giving.proofs.give.Goals as goal

pub returns-in_default : goal.returns-in_default
returns-in_default c = (search placing, search keeping)

pub returns-in_default-verdict : goal.returns-in_default-verdict
returns-in_default-verdict c = (search placing, search keeping)

pub overflow_add-st : goal.overflow_add-st
overflow_add-st c = let g = gives _ _ _ _ _ _ _ c.find_column.ensures c.in-Some.is c.judge_size-verdict.ensures c.in-Ok.is in omega arith

pub mark-requires : goal.mark-requires
mark-requires c = let g = gives _ _ _ _ _ _ _ c.find_column.ensures c.in-Some.is c.judge_size-verdict.ensures c.in-Ok.is in omega arith

pub behind_value-behind-requires : goal.behind_value-behind-requires
behind_value-behind-requires c = let g = gives _ _ _ _ _ _ _ c.find_column.ensures c.in-Some.is c.judge_size-verdict.ensures c.in-Ok.is in (omega arith, omega arith)

pub returns : goal.returns
returns c = (give-clear _ _ _ _ _ c.find_column.ensures _ c.in-Some.is _ c.judge_size-verdict.ensures _ _ _ _ c.in-Ok.is c.behind_value-behind.ensures c.settle-2.ensures, keep-clear _ _ _ _ _ c.find_column.ensures _ c.in-Some.is _ c.judge_size-verdict.ensures _ c.in-Ok.is c.mark.ensures)
