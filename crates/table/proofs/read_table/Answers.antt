use Rattle.std.proofs.Common.{rules}
use Rattle.table.specs.Cases.{reads}
use Rattle.table.proofs.read_table.Goals as goal

pub returns-then-book-at : goal.returns-then-book-at
returns-then-book-at c = search (rules, reads)

pub returns-then-book-at-lt4 : goal.returns-then-book-at-lt4
returns-then-book-at-lt4 c = search (rules, reads)

pub returns-then-n-gt-MOST_COLUMNS : goal.returns-then-n-gt-MOST_COLUMNS
returns-then-n-gt-MOST_COLUMNS c = search (rules, reads)

pub settle-requires : goal.settle-requires
settle-requires c = search rules

pub returns : goal.returns
returns c = search (rules, reads)
