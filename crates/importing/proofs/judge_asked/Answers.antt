use Rattle.std.proofs.Common.{rules}
use Rattle.importing.specs.Cases.{asked_cases}
use Rattle.importing.proofs.judge_asked.Goals as goal

pub returns-then-flags-tags : goal.returns-then-flags-tags
returns-then-flags-tags c = search (rules, asked_cases)

pub returns-then-not-all_exported : goal.returns-then-not-all_exported
returns-then-not-all_exported c = search (rules, asked_cases)

pub overflow_add-width : goal.overflow_add-width
overflow_add-width c = search (rules, asked_cases)

pub returns-in-Ok : goal.returns-in-Ok
returns-in-Ok c = search (rules, asked_cases)

pub returns-in-Err : goal.returns-in-Err
returns-in-Err c = search (rules, asked_cases)
