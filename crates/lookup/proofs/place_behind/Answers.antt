use Rattle.std.proofs.Common.{rules}
use Rattle.lookup.specs.Places.{behinds}
use Rattle.lookup.proofs.place_behind.Goals as goal

pub returns-then-at-gt4294967295 : goal.returns-then-at-gt4294967295
returns-then-at-gt4294967295 c = search (rules, behinds)

pub returns-then-k-gt-MOST_RECORDS : goal.returns-then-k-gt-MOST_RECORDS
returns-then-k-gt-MOST_RECORDS c = search (rules, behinds)

pub returns : goal.returns
returns c = search (rules, behinds)
