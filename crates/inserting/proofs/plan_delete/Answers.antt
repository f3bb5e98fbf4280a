use Rattle.std.proofs.Common.{rules}
use Rattle.answers.specs.Verdict.{passed-on}
use Rattle.inserting.specs.Cases.{delete-judged, gap-far, gap-only, gap-end, gap-delete}
use Rattle.inserting.proofs.plan_delete.Goals as goal

pub returns-in_err-j : goal.returns-in_err-j
returns-in_err-j c = passed-on _ c.from_residual.ensures.1 (search (delete-judged, c.in_err-j.was))

pub returns-then-j-k : goal.returns-then-j-k
returns-then-j-k c = search (gap-far, c.in_ok-j.was)

pub returns-then-j-lt2 : goal.returns-then-j-lt2
returns-then-j-lt2 c = search (gap-only, c.in_ok-j.was)

pub overflow_add-end : goal.overflow_add-end
overflow_add-end c = gap-end _ _ c.judge.ensures _ c.in_ok-j.was _ (search rules) _ _ c.place_behind-place.ensures c.word32.ensures

pub returns : goal.returns
returns c = search (gap-delete, c.in_ok-j.was)
