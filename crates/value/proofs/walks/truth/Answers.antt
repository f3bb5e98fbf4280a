use Rattle.std.proofs.Common.{rules}
use Rattle.value.specs.Cases.{singles}
use Rattle.value.proofs.walks.truth.Goals as goal

pub returns-then-s-lt1 : goal.returns-then-s-lt1
returns-then-s-lt1 c = search (rules, singles)

pub returns-then-a-lt2 : goal.returns-then-a-lt2
returns-then-a-lt2 c = search (rules, singles)

pub returns : goal.returns
returns c = search (rules, singles)
