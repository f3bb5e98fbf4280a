use Rattle.std.proofs.Common.{rules}
use Rattle.value.specs.Cases.{singles}
use Rattle.value.proofs.walks.numeric.Goals as goal

pub returns-in-Some : goal.returns-in-Some
returns-in-Some c = search (rules, singles)

pub returns-in-None : goal.returns-in-None
returns-in-None c = search (rules, singles)
