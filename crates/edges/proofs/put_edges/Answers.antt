use Rattle.std.proofs.Common.{rules}
use Rattle.edges.specs.Cases.{puttings}
use Rattle.edges.proofs.put_edges.Goals as goal

pub returns-then-edges-forms : goal.returns-then-edges-forms
returns-then-edges-forms c = search (rules, puttings)

pub returns-then-book-at : goal.returns-then-book-at
returns-then-book-at c = search (rules, puttings)

pub returns-then-size-octets_for : goal.returns-then-size-octets_for
returns-then-size-octets_for c = search (rules, puttings)

pub returns-then-left-size : goal.returns-then-left-size
returns-then-left-size c = search (rules, puttings)

pub returns : goal.returns
returns c = search (rules, puttings)
