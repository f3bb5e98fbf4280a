use Rattle.answers.specs.Verdict.{passed-on}
use Rattle.fresh.specs.Cases.{starts, lay-refused, lay-left, lay-short, lay-kept, lay_done, lay-put}
use Rattle.fresh.proofs.lay_front.Goals as goal

pub returns-in_err-judge_begin : goal.returns-in_err-judge_begin
returns-in_err-judge_begin c = (
  passed-on _ c.from_residual.ensures.1 (search (lay-refused, c.in_err-judge_begin.was)),
  search (lay-left, c.in_err-judge_begin.was),
)

pub overflow_mul-at : goal.overflow_mul-at
overflow_mul-at c = search (starts, c.in_ok-judge_begin.was)

pub overflow_add-at-2 : goal.overflow_add-at-2
overflow_add-at-2 c = search (starts, c.in_ok-judge_begin.was)

pub overflow_sub-out : goal.overflow_sub-out
overflow_sub-out c = search (starts, c.in_ok-judge_begin.was)

pub returns-then-out-at : goal.returns-then-out-at
returns-then-out-at c = (search (lay-short, c.in_ok-judge_begin.was), search (lay-kept, c.in_ok-judge_begin.was))

pub returns : goal.returns
returns c = (search (lay_done, c.in_ok-judge_begin.was), search (lay-put, c.in_ok-judge_begin.was))
