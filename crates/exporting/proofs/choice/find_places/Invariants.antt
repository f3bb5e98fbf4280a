use Rattle.std.proofs.Common.{◌≡◌, ◌-◌, take, replicate, ◌++◌}
use Rattle.exporting.specs.Steps.{places_in}
use Rattle.exporting.proofs.choice.find_places.Given as goal

abbrev pub invariant-loop-i : goal.invariant-loop-i
invariant-loop-i l = (l.places ≡ places_in l.cols (take l.i l.tags) ++ replicate (16 - l.i) 0)
