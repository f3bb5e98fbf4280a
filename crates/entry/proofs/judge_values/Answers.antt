use Rattle.std.proofs.Common.{rules}
use Rattle.entry.specs.Cases.{values, values-start, value_in_lem, values-next, value-fits, break-fits}
use Rattle.entry.proofs.judge_values.Goals as goal

pub loop-j-init : goal.loop-j-init
loop-j-init c = (search rules, search rules, search values-start)

pub overflow_add-at-in-Err : goal.overflow_add-at-in-Err
overflow_add-at-in-Err c = search break-fits

pub returns-in-Err : goal.returns-in-Err
returns-in-Err c = search values

pub overflow_add-i : goal.overflow_add-i
overflow_add-i c = search value-fits

pub loop-j-preserved : goal.loop-j-preserved
loop-j-preserved c = (search value_in_lem, search rules, search values-next)

pub returns-then-i-s : goal.returns-then-i-s
returns-then-i-s c = search values

pub returns : goal.returns
returns c = search values
