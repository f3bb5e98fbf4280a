use Rattle.std.proofs.Common.{rules}
use Rattle.index.specs.Cases.{widths}
use Rattle.index.proofs.width_by.Goals as goal

pub returns-then-offset-eq-OLD_OFFSET : goal.returns-then-offset-eq-OLD_OFFSET
returns-then-offset-eq-OLD_OFFSET c = (search widths, search rules)

pub returns : goal.returns
returns c = (search widths, search rules)
