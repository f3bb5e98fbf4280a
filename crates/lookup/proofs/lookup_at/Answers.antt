use Rattle.answers.specs.Verdict.{passed-on}
use Rattle.lookup.specs.Cases.{reach-number}
use Rattle.lookup.specs.PlaceCases.{ats}
use Rattle.lookup.proofs.lookup_at.Goals as goal

pub returns-in_err-j : goal.returns-in_err-j
returns-in_err-j c = passed-on _ c.from_residual.ensures.1 (search (ats, c.in_err-j.was))

pub returns-then-at-j : goal.returns-then-at-j
returns-then-at-j c = search (ats, c.in_ok-j.was)

pub look_there-requires : goal.look_there-requires
look_there-requires c = reach-number _ 0 _ c.judge.ensures _ c.in_ok-j.was

pub returns : goal.returns
returns c = search (ats, c.in_ok-j.was)
