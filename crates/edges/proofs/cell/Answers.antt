use Rattle.std.proofs.Common.{rules}
use Rattle.edges.specs.Cases.{cell_cases}
use Rattle.edges.proofs.cell.Goals as goal

pub returns-then-edges-c : goal.returns-then-edges-c
returns-then-edges-c c = search (rules, cell_cases)

pub returns-then-edges-c-2 : goal.returns-then-edges-c-2
returns-then-edges-c-2 c = search (rules, cell_cases)

pub returns-then-book-end : goal.returns-then-book-end
returns-then-book-end c = search (rules, cell_cases)

pub returns-then-end-start : goal.returns-then-end-start
returns-then-end-start c = search (rules, cell_cases)

pub returns : goal.returns
returns c = search (rules, cell_cases)
