use Rattle.std.proofs.Common.{arith}
use Rattle.answers.specs.Verdict.{passed-on}
use Rattle.book.specs.FrontCases.{judges, front-fit, first_fits}
use Rattle.book.proofs.judge.Goals as goal

pub returns-in_err-t : goal.returns-in_err-t
returns-in_err-t c = passed-on _ c.from_residual.ensures.1 (search (judges, c.in_err-t.was))

pub overflow_add-head : goal.overflow_add-head
overflow_add-head c = let f = front-fit _ _ c.read_front.ensures _ c.in_ok-t.was in omega (arith, f.0.few, f.1.few)

pub overflow_mul-head : goal.overflow_mul-head
overflow_mul-head c = let f = front-fit _ _ c.read_front.ensures _ c.in_ok-t.was in omega (arith, f.0.few, f.1.few)

pub overflow_add-head-2 : goal.overflow_add-head-2
overflow_add-head-2 c = let f = front-fit _ _ c.read_front.ensures _ c.in_ok-t.was in omega (arith, f.0.few, f.1.few)

pub overflow_add-first : goal.overflow_add-first
overflow_add-first c = search (first_fits, c.in_ok-t.was)

pub returns-in_err-judge_rest : goal.returns-in_err-judge_rest
returns-in_err-judge_rest c =
    passed-on _ c.from_residual-in_err-judge_rest.ensures.1 (search (judges, c.in_ok-t.was, c.in_err-judge_rest.was))

pub returns : goal.returns
returns c = search (judges, c.in_ok-t.was, c.in_ok-judge_rest.was)
