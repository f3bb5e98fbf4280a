use Rattle.std.proofs.Common.{rules}
use Rattle.edges.specs.Cases.{widths}
use Rattle.edges.proofs.column_width.Goals as goal

pub returns-then-not-has : goal.returns-then-not-has
returns-then-not-has c = (search widths, search (rules, widths))

pub returns-then-is_short : goal.returns-then-is_short
returns-then-is_short c = (search widths, search (rules, widths))

pub returns : goal.returns
returns c = (search widths, search (rules, widths))
