use Rattle.std.proofs.Common.{rules, ◌∙◌}
use Rattle.answers.specs.Verdict.{passed-on}
use Rattle.index.specs.MakeCases.{makes, leaves, size-mul, size-add, make-first, make-count}
use Rattle.index.proofs.make_index.Goals as goal

pub returns-in_err-j : goal.returns-in_err-j
returns-in_err-j c =
    (passed-on _ c.from_residual.ensures.1 (search (makes, c.in_err-j.was)), search (leaves, c.in_err-j.was))

pub overflow_mul-size : goal.overflow_mul-size
overflow_mul-size c = search (size-mul, c.in_ok-j.was)

pub overflow_add-size : goal.overflow_add-size
overflow_add-size c = search (size-add, c.in_ok-j.was)

pub returns-then-out-size : goal.returns-then-out-size
returns-then-out-size c = (c.refuse.ensures ∙ search (makes, c.in_ok-j.was), search (leaves, c.in_ok-j.was))

pub put_starts-requires : goal.put_starts-requires
put_starts-requires c = (search (make-first, c.in_ok-j.was), search (make-count, c.in_ok-j.was), search rules)

pub returns : goal.returns
returns c = (search (makes, c.in_ok-j.was), search (leaves, c.in_ok-j.was))
