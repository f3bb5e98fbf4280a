use Rattle.std.proofs.Common.{true, [], rules}
use Rattle.answers.specs.Verdict.{passed-on}
use Rattle.correcting.specs.Cases.{plan-refused, plan-header, plan-none, plan-number, header-reach, number-reach}
use Rattle.correcting.proofs.decide.Goals as goal

pub returns-in_err-j : goal.returns-in_err-j
returns-in_err-j c = passed-on _ c.from_residual.ensures.1 (search (plan-refused, c.in_err-j.was))

pub plan_in-requires : goal.plan_in-requires
plan_in-requires c = let r = header-reach _ [] 0 0 true _ c.judge.ensures _ c.in_ok-j.was in (r.0, r.1, r.2, r.3, r.4, c.requires)

pub returns-then-j-k : goal.returns-then-j-k
returns-then-j-k c = search (plan-none, c.in_ok-j.was)

pub plan_in-requires-in-Number : goal.plan_in-requires-in-Number
plan_in-requires-in-Number c = let r = number-reach _ [] 0 0 true _ c.judge.ensures _ c.in_ok-j.was _ _ (search rules) c.place_behind-at.ensures in (r.0, r.1, r.2, r.3, r.4, c.requires)

pub returns-in-Header : goal.returns-in-Header
returns-in-Header c = search (plan-header, c.in_ok-j.was)

pub returns-else-j-k : goal.returns-else-j-k
returns-else-j-k c = search (plan-number, c.in_ok-j.was)
