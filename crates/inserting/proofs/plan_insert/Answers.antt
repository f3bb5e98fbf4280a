use Rattle.std.proofs.Common.{arith}
use Rattle.answers.specs.Verdict.{passed-on}
use Rattle.inserting.specs.Cases.{insert-judged, book-short, gap-refused, gap-few, gap-insert}
use Rattle.inserting.proofs.plan_insert.Goals as goal

pub returns-in_err-j : goal.returns-in_err-j
returns-in_err-j c = passed-on _ c.from_residual.ensures.1 (search (insert-judged, c.in_err-j.was))

pub judge_insert-requires : goal.judge_insert-requires
judge_insert-requires c = book-short _ _ c.judge.ensures _ c.in_ok-j.was

pub returns-in_err-judge_insert : goal.returns-in_err-judge_insert
returns-in_err-judge_insert c =
    passed-on _ c.from_residual-in_err-judge_insert.ensures.1
    (search (gap-refused, c.in_ok-j.was, c.in_err-judge_insert.was))

pub overflow_add-result : goal.overflow_add-result
overflow_add-result c = let f = gap-few _ _ c.judge.ensures _ c.in_ok-j.was _ _ _ _ c.judge_insert.ensures c.in_ok-judge_insert.was in record { fits = omega (arith, f.1) }

pub returns : goal.returns
returns c = search (gap-insert, c.in_ok-j.was, c.in_ok-judge_insert.was)
