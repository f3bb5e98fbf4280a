use Rattle.std.proofs.Common.{rules, ◌∙◌}
use Rattle.answers.specs.Verdict.{passed-on}
use Rattle.inserting.specs.Cases.{insert-short, insert-kept, insert-refused, insert-left, insert-done, insert-put}
use Rattle.inserting.proofs.insert.Goals as goal

pub returns-then-buf-len : goal.returns-then-buf-len
returns-then-buf-len c = (c.refuse.ensures ∙ search insert-short, search insert-kept)

pub returns-in_err-gap : goal.returns-in_err-gap
returns-in_err-gap c =
    (passed-on _ c.from_residual.ensures.1 (search (insert-refused, c.in_err-gap.was)), search (insert-left, c.in_err-gap.was))

pub returns : goal.returns
returns c = (insert-done c.args.buf.now c.args.offered.now c.args.len c.args.k (search rules) _ c.plan_insert.ensures _ c.in_ok-gap.was, search (insert-put, c.in_ok-gap.was))
