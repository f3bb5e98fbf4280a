use Rattle.std.proofs.Common.{rules}
use Rattle.answers.specs.Verdict.{passed-on}
use Rattle.importing.specs.HeadCases.{list_cases}
use Rattle.importing.proofs.head.judge_list.Goals as goal

pub returns-in_default : goal.returns-in_default
returns-in_default c = search (rules, list_cases)

pub returns-in_err-judge_room : goal.returns-in_err-judge_room
returns-in_err-judge_room c = passed-on _ c.from_residual.ensures.1 (search (list_cases, c.in_err-judge_room.was))

pub slice_bounds-judge_elements-count : goal.slice_bounds-judge_elements-count
slice_bounds-judge_elements-count c = search (rules, list_cases)

pub slice_bounds-judge_elements-start : goal.slice_bounds-judge_elements-start
slice_bounds-judge_elements-start c = search (rules, list_cases)

pub overflow_add-w : goal.overflow_add-w
overflow_add-w c = search (rules, list_cases, c.in_ok-judge_room.was)

pub returns : goal.returns
returns c = search (rules, list_cases, c.in_ok-judge_room.was)
