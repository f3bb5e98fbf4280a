use Rattle.answers.specs.Verdict.{passed-on}
use Rattle.index.specs.Cases.{indexed, few}
use Rattle.index.proofs.lookup_indexed.Goals as goal

pub returns-in_err-t : goal.returns-in_err-t
returns-in_err-t c = passed-on _ c.from_residual.ensures.1 (search (indexed, c.in_err-t.was))

pub returns-in_err-judge_beside : goal.returns-in_err-judge_beside
returns-in_err-judge_beside c =
    passed-on _ c.from_residual-in_err-judge_beside.ensures.1
    (search (indexed, c.in_ok-t.was, c.in_err-judge_beside.was))

pub start_of-at-requires : goal.start_of-at-requires
start_of-at-requires c = search (few, c.in_ok-t.was, c.in_ok-judge_beside.was)

pub returns : goal.returns
returns c = search (indexed, c.in_ok-t.was, c.in_ok-judge_beside.was)
