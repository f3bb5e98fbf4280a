use Rattle.whole.specs.Laws.{number-within}
use Rattle.value.specs.Cases.{lists, list-start, list-in, list-next, list-fits}
use Rattle.value.proofs.walks.list.Goals as goal

pub returns-in_default : goal.returns-in_default
returns-in_default c = search lists

pub returns-then-n-lt1 : goal.returns-then-n-lt1
returns-then-n-lt1 c = search lists

pub loop-init : goal.loop-init
loop-init c = (search number-within, search list-start)

pub returns-in_default-element : goal.returns-in_default-element
returns-in_default-element c = search lists

pub overflow_add-i : goal.overflow_add-i
overflow_add-i c = search list-fits

pub loop-preserved : goal.loop-preserved
loop-preserved c = (search list-in, search list-next)

pub returns : goal.returns
returns c = search lists
