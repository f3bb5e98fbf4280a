use Rattle.std.proofs.Common.{rules}
use Rattle.answers.specs.Verdict.{passed-on}
use Rattle.importing.specs.HeadCases.{head_cases}
use Rattle.importing.proofs.head.judge_head.Goals as goal

pub returns-in_err-judge_room : goal.returns-in_err-judge_room
returns-in_err-judge_room c = passed-on _ c.from_residual.ensures.1 (search (head_cases, c.in_err-judge_room.was))

pub overflow_add-w : goal.overflow_add-w
overflow_add-w c = search (rules, head_cases, c.in_ok-judge_room.was)

pub judge_values-requires : goal.judge_values-requires
judge_values-requires c = search (rules, head_cases, c.in_ok-judge_room.was)

pub returns : goal.returns
returns c = search (rules, head_cases, c.in_ok-judge_room.was)
