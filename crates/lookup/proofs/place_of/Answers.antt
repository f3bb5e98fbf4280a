use Rattle.answers.specs.Verdict.{passed-on}
use Rattle.lookup.specs.PlaceCases.{placeds, limits}
use Rattle.lookup.proofs.place_of.Goals as goal

pub returns-in_err-j : goal.returns-in_err-j
returns-in_err-j c = passed-on _ c.from_residual.ensures.1 (search (placeds, c.in_err-j.was))

pub place_number-requires : goal.place_number-requires
place_number-requires c = limits _ _ c.judge.ensures _ c.in_ok-j.was

pub returns-in-Header : goal.returns-in-Header
returns-in-Header c = search (placeds, c.in_ok-j.was)

pub returns-in-Number : goal.returns-in-Number
returns-in-Number c = search (placeds, c.in_ok-j.was)
