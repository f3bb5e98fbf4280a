use Rattle.std.proofs.Common.{rules}
use Rattle.lookup.specs.Cases.{seekings}
use Rattle.lookup.proofs.seek.Goals as goal

pub returns-then-book-at : goal.returns-then-book-at
returns-then-book-at c = search (rules, seekings)

pub returns-then-size-octets_for : goal.returns-then-size-octets_for
returns-then-size-octets_for c = search (rules, seekings)

pub returns-then-book-at-2 : goal.returns-then-book-at-2
returns-then-book-at-2 c = search (rules, seekings)

pub returns : goal.returns
returns c = search (rules, seekings)
