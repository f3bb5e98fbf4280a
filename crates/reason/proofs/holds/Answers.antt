use Rattle.std.proofs.Common.{rules}
use Rattle.reason.specs.Cases.{holding}
use Rattle.reason.proofs.holds.Goals as goal

pub returns-in_default : goal.returns-in_default
returns-in_default c = search (rules, holding)

pub loop-init : goal.loop-init
loop-init c = search (rules, holding)

pub returns-in_default-read_number : goal.returns-in_default-read_number
returns-in_default-read_number c = search (rules, holding)

pub returns-then-tag-v : goal.returns-then-tag-v
returns-then-tag-v c = search (rules, holding)

pub overflow_add-i : goal.overflow_add-i
overflow_add-i c = search (rules, holding)

pub loop-preserved : goal.loop-preserved
loop-preserved c = search (rules, holding)

pub returns : goal.returns
returns c = search (rules, holding)
