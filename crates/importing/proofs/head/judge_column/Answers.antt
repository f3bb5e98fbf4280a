use Rattle.std.proofs.Common.{rules}
use Rattle.importing.specs.HeadCases.{value_given}
use Rattle.importing.proofs.head.judge_column.Goals as goal

pub returns-then-v-lt1 : goal.returns-then-v-lt1
returns-then-v-lt1 c = search (rules, value_given)

pub returns : goal.returns
returns c = search (rules, value_given)
