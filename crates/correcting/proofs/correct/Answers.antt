use Rattle.std.proofs.Common.{arith, rules, ◌∙◌}
use Rattle.answers.specs.Verdict.{passed-on}
use Rattle.correcting.specs.Cases.{set-short, set-kept, set-refused, set-left, set_keeps, set-done, set-put}
use Rattle.correcting.proofs.correct.Goals as goal

pub returns-then-buf-len : goal.returns-then-buf-len
returns-then-buf-len c = (c.refuse.ensures ∙ search set-short, search set-kept)

pub returns-in_err-plan : goal.returns-in_err-plan
returns-in_err-plan c =
    (passed-on _ c.from_residual.ensures.1 (search (set-refused, c.in_err-plan.was)), search (set-left, c.in_err-plan.was))

pub overflow_sub-result : goal.overflow_sub-result
overflow_sub-result c = let k = set_keeps c.args.buf.now c.args.value.now c.args.len c.args.tag c.args.which c.args.there (search rules) _ c.decide.ensures _ c.in_ok-plan.was c.requires in omega (arith, k.2)

pub returns : goal.returns
returns c = (search (set-done, c.in_ok-plan.was), search (set-put, c.in_ok-plan.was))
