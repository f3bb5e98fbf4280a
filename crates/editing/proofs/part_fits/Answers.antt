use Rattle.std.proofs.Common.{rules}
use Rattle.editing.specs.Fits.{parts}
use Rattle.editing.proofs.part_fits.Goals as goal

pub returns-then-a-lt12 : goal.returns-then-a-lt12
returns-then-a-lt12 c = search (rules, parts)

pub returns-then-e-a : goal.returns-then-e-a
returns-then-e-a c = search (rules, parts)

pub returns-then-len-e : goal.returns-then-len-e
returns-then-len-e c = search (rules, parts)

pub returns-then-n-len : goal.returns-then-n-len
returns-then-n-len c = search (rules, parts)

pub returns : goal.returns
returns c = search (rules, parts)
