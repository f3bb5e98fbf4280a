use Rattle.std.proofs.Common.{rules}
use Rattle.whole.specs.Laws.{number-within}
use Rattle.value.specs.Cases.{singles}
use Rattle.value.proofs.walks.binary.Goals as goal

pub returns-in_default : goal.returns-in_default
returns-in_default c = search (rules, singles)

pub returns-then-n-lt1 : goal.returns-then-n-lt1
returns-then-n-lt1 c = search (rules, singles)

pub overflow_sub-s : goal.overflow_sub-s
overflow_sub-s c = search number-within

pub returns-then-k-s : goal.returns-then-k-s
returns-then-k-s c = search (rules, singles)

pub returns : goal.returns
returns c = search (rules, singles)
