use Rattle.std.proofs.Common.{rules}
use Rattle.exporting.specs.ChoiceCases.{choice_cases}
use Rattle.exporting.proofs.choice.judge_choice.Goals as goal

pub returns-then-not-all_known : goal.returns-then-not-all_known
returns-then-not-all_known c = search (rules, choice_cases)

pub returns-then-not-all_exported : goal.returns-then-not-all_exported
returns-then-not-all_exported c = search (rules, choice_cases)

pub returns-then-tags-lt1 : goal.returns-then-tags-lt1
returns-then-tags-lt1 c = search (rules, choice_cases)

pub returns-then-tags-gt-MOST_CHOSEN : goal.returns-then-tags-gt-MOST_CHOSEN
returns-then-tags-gt-MOST_CHOSEN c = search (rules, choice_cases)

pub returns-then-is_some : goal.returns-then-is_some
returns-then-is_some c = search (rules, choice_cases)

pub returns : goal.returns
returns c = search (rules, choice_cases)
