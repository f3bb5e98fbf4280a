use Rattle.std.proofs.Common.{arith}
use Rattle.lookup.specs.Within.{cuts, within-there}
use Rattle.lookup.proofs.cut.Goals as goal

pub returns-in_default : goal.returns-in_default
returns-in_default c = search cuts

pub slice_bounds-result-count-in-Some : goal.slice_bounds-result-count-in-Some
slice_bounds-result-count-in-Some c = let l = within-there _ _ c.requires _ c.in-Ok.is _ _ c.in-Some.is in omega arith

pub slice_bounds-result-start-in-Some : goal.slice_bounds-result-start-in-Some
slice_bounds-result-start-in-Some c = let l = within-there _ _ c.requires _ c.in-Ok.is _ _ c.in-Some.is in omega arith

pub slice_bounds-result-end-in-Some : goal.slice_bounds-result-end-in-Some
slice_bounds-result-end-in-Some c = let l = within-there _ _ c.requires _ c.in-Ok.is _ _ c.in-Some.is in omega arith

pub returns-in-Some : goal.returns-in-Some
returns-in-Some c = search cuts

pub returns-in-None : goal.returns-in-None
returns-in-None c = search cuts
