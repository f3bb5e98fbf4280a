use Rattle.std.proofs.Common.{rules}
use Rattle.lookup.specs.PlaceCases.{placings}
use Rattle.lookup.proofs.place_number.Goals as goal

pub returns-then-j-k : goal.returns-then-j-k
returns-then-j-k c = search (rules, placings)

pub returns : goal.returns
returns c = search (rules, placings)
