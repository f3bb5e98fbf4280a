use Rattle.std.proofs.Common.{rules}
use Rattle.answers.specs.Verdict.{passed-on}
use Rattle.index.specs.Cases.{indexes, stretch-mul, stretch-add}
use Rattle.index.proofs.judge_index.Goals as goal

pub returns-in_err-judge_kind : goal.returns-in_err-judge_kind
returns-in_err-judge_kind c = passed-on _ c.from_residual.ensures.1 (search (indexes, c.in_err-judge_kind.was))

pub returns-then-word32-count : goal.returns-then-word32-count
returns-then-word32-count c = search (indexes, c.in_ok-judge_kind.was)

pub returns-then-word32-book : goal.returns-then-word32-book
returns-then-word32-book c = search (indexes, c.in_ok-judge_kind.was)

pub returns-then-word32 : goal.returns-then-word32
returns-then-word32 c = search (indexes, c.in_ok-judge_kind.was)

pub overflow_mul-width_by : goal.overflow_mul-width_by
overflow_mul-width_by c = search (stretch-mul, rules)

pub overflow_add-offset : goal.overflow_add-offset
overflow_add-offset c = search (stretch-add, rules)

pub returns-then-index-offset : goal.returns-then-index-offset
returns-then-index-offset c = search (indexes, c.in_ok-judge_kind.was)

pub returns : goal.returns
returns c = search (indexes, c.in_ok-judge_kind.was)
