use Rattle.std.proofs.Common.{rules, ◌∙◌}
use Rattle.answers.specs.Verdict.{passed-on}
use Rattle.reason.specs.Cases.{asks, rows-mul, rows_in_lem, whys}
use Rattle.reason.proofs.why.Goals as goal

pub returns-in_err-j : goal.returns-in_err-j
returns-in_err-j c = passed-on _ c.from_residual.ensures.1 (search (whys, c.in_err-j.was))

pub why_in-requires : goal.why_in-requires
why_in-requires c =
    let was = c.in_ok-j.was in
    (search (asks, was), search (asks, was), search rules)

pub returns-then-j-k : goal.returns-then-j-k
returns-then-j-k c = c.refuse.ensures ∙ search (whys, c.in_ok-j.was)

pub overflow_mul-rows : goal.overflow_mul-rows
overflow_mul-rows c = search (rows-mul, c.in_ok-j.was)

pub overflow_sub-rows : goal.overflow_sub-rows
overflow_sub-rows c = search (rows_in_lem, c.in_ok-j.was)

pub why_in-requires-in-Number : goal.why_in-requires-in-Number
why_in-requires-in-Number c =
    let was = c.in_ok-j.was in
    (search (asks, was), search (asks, was), search (asks, was))

pub returns-in-Header : goal.returns-in-Header
returns-in-Header c = search (whys, c.in_ok-j.was)

pub returns-else-j-k : goal.returns-else-j-k
returns-else-j-k c = search (whys, c.in_ok-j.was)
