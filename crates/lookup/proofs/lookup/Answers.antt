use Rattle.answers.specs.Verdict.{passed-on}
use Rattle.lookup.specs.Cases.{lookups, reach-number}
use Rattle.lookup.proofs.lookup.Goals as goal

pub returns-in_err-j : goal.returns-in_err-j
returns-in_err-j c = passed-on _ c.from_residual.ensures.1 (search (lookups, c.in_err-j.was))

pub look_number-requires : goal.look_number-requires
look_number-requires c = reach-number _ 0 _ c.judge.ensures _ c.in_ok-j.was

pub returns-in-Header : goal.returns-in-Header
returns-in-Header c = search (lookups, c.in_ok-j.was)

pub returns-in-Number : goal.returns-in-Number
returns-in-Number c = search (lookups, c.in_ok-j.was)
