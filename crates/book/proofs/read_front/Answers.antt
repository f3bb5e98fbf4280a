use Rattle.std.proofs.Common.{arith}
use Rattle.answers.specs.Verdict.{passed-on}
use Rattle.book.specs.JudgeCases.{tables-fit}
use Rattle.book.specs.FrontCases.{fronts}
use Rattle.book.proofs.read_front.Goals as goal

pub returns-in_err-t : goal.returns-in_err-t
returns-in_err-t c = passed-on _ c.from_residual.ensures.1 (search (fronts, c.in_err-t.was))

pub overflow_add-t : goal.overflow_add-t
overflow_add-t c = let f = tables-fit _ _ c.read_tables.ensures _ c.in_ok-t.was in omega (arith, f.0.few, f.1.few)

pub overflow_mul-t : goal.overflow_mul-t
overflow_mul-t c = let f = tables-fit _ _ c.read_tables.ensures _ c.in_ok-t.was in omega (arith, f.0.few, f.1.few)

pub overflow_add-t-2 : goal.overflow_add-t-2
overflow_add-t-2 c = let f = tables-fit _ _ c.read_tables.ensures _ c.in_ok-t.was in omega (arith, f.0.few, f.1.few)

pub returns-in_err-judge_head : goal.returns-in_err-judge_head
returns-in_err-judge_head c =
    passed-on _ c.from_residual-in_err-judge_head.ensures.1 (search (fronts, c.in_ok-t.was, c.in_err-judge_head.was))

pub returns : goal.returns
returns c = search (fronts, c.in_ok-t.was, c.in_ok-judge_head.was)
