use Rattle.std.proofs.Common.{arith, rules}
use Rattle.answers.specs.Verdict.{passed-on}
use Rattle.begin.specs.Cases.{judges, both-few}
use Rattle.begin.proofs.judge_begin.Goals as goal

pub returns-then-htags-hflags : goal.returns-then-htags-hflags
returns-then-htags-hflags c = search (rules, judges)

pub returns-then-tags-flags : goal.returns-then-tags-flags
returns-then-tags-flags c = search (rules, judges)

pub returns-in_err-judge_tags : goal.returns-in_err-judge_tags
returns-in_err-judge_tags c = passed-on _ c.from_residual.ensures.1 (search (rules, judges, c.in_err-judge_tags.was))

pub returns-in_err-judge_tags-2 : goal.returns-in_err-judge_tags-2
returns-in_err-judge_tags-2 c =
    passed-on _ c.from_residual-in_err-judge_tags-2.ensures.1
    (search (rules, judges, c.in_ok-judge_tags.was, c.in_err-judge_tags-2.was))

pub overflow_mul-htags : goal.overflow_mul-htags
overflow_mul-htags c = let b = both-few c.args.htags.now c.args.tags.now _ _ c.judge_tags.ensures c.in_ok-judge_tags.was c.judge_tags-2.ensures c.in_ok-judge_tags-2.was in omega arith

pub overflow_add-htags-2 : goal.overflow_add-htags-2
overflow_add-htags-2 c = let b = both-few c.args.htags.now c.args.tags.now _ _ c.judge_tags.ensures c.in_ok-judge_tags.was c.judge_tags-2.ensures c.in_ok-judge_tags-2.was in omega arith

pub returns-then-n-htags : goal.returns-then-n-htags
returns-then-n-htags c = search (rules, judges, c.in_ok-judge_tags.was, c.in_ok-judge_tags-2.was)

pub returns : goal.returns
returns c = search (rules, judges, c.in_ok-judge_tags.was, c.in_ok-judge_tags-2.was)
