use Rattle.std.proofs.Common.{arith, rules}
use Rattle.begin.specs.Cases.{tags, tags-below}
use Rattle.begin.proofs.judge_tags.Goals as goal

pub returns-then-tags-gt-MOST_COLUMNS : goal.returns-then-tags-gt-MOST_COLUMNS
returns-then-tags-gt-MOST_COLUMNS c = search (rules, tags)

pub overflow_add-base-in-Some : goal.overflow_add-base-in-Some
overflow_add-base-in-Some c = let b = tags-below 0 c.args.tags.now (search rules) _ c.known-k.ensures.0 _ c.first_repeat.ensures _ c.known-k.ensures.1 c.in-Some.is in omega arith

pub returns-in-Some : goal.returns-in-Some
returns-in-Some c = search (rules, tags)

pub returns-then-k-tags : goal.returns-then-k-tags
returns-then-k-tags c = search (rules, tags)

pub returns : goal.returns
returns c = search (rules, tags)
