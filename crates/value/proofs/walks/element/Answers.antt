use Rattle.value.specs.Cases.{elements}
use Rattle.value.proofs.walks.element.Goals as goal

pub returns-in-0 : goal.returns-in-0
returns-in-0 c = search elements

pub returns-in-1 : goal.returns-in-1
returns-in-1 c = search elements

pub returns-in-2 : goal.returns-in-2
returns-in-2 c = search elements

pub returns-in-3 : goal.returns-in-3
returns-in-3 c = search elements

pub returns-in_default : goal.returns-in_default
returns-in_default c = search elements
