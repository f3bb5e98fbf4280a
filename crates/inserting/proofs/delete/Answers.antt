use Rattle.std.proofs.Common.{arith, rules, ◌∙◌}
use Rattle.answers.specs.Verdict.{passed-on}
use Rattle.inserting.specs.Cases.{delete-short, delete-kept, delete-refused, delete-left, delete-keeps, delete-done, delete-put}
use Rattle.inserting.proofs.delete.Goals as goal

pub returns-then-buf-len : goal.returns-then-buf-len
returns-then-buf-len c = (c.refuse.ensures ∙ search delete-short, search delete-kept)

pub returns-in_err-gap : goal.returns-in_err-gap
returns-in_err-gap c =
    (passed-on _ c.from_residual.ensures.1 (search (delete-refused, c.in_err-gap.was)), search (delete-left, c.in_err-gap.was))

pub overflow_sub-result : goal.overflow_sub-result
overflow_sub-result c = let k = delete-keeps c.args.buf.now c.args.len c.args.k (search rules) _ c.plan_delete.ensures _ c.in_ok-gap.was in omega (arith, k.2)

pub overflow_add-result : goal.overflow_add-result
overflow_add-result c = let k = delete-keeps c.args.buf.now c.args.len c.args.k (search rules) _ c.plan_delete.ensures _ c.in_ok-gap.was in record { fits = omega (arith, k.1, k.2, k.3, k.4) }

pub returns : goal.returns
returns c = (search (delete-done, c.in_ok-gap.was), search (delete-put, c.in_ok-gap.was))
