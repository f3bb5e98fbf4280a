use Rattle.std.proofs.Common.{rules}
use Rattle.importing.specs.HeadCases.{offered_cases}
use Rattle.importing.proofs.head.judge_offered.Goals as goal

pub returns-in_default : goal.returns-in_default
returns-in_default c = search (rules, offered_cases)

pub returns-then-word32-offered : goal.returns-then-word32-offered
returns-then-word32-offered c = search (rules, offered_cases)

pub returns : goal.returns
returns c = search (rules, offered_cases)
