use Rattle.std.proofs.Common.{rules}
use Rattle.editing.specs.Fits.{cells, cell-there, cell-absent}
use Rattle.editing.proofs.entry_fits.Goals as goal

pub returns-then-s-lt12 : goal.returns-then-s-lt12
returns-then-s-lt12 c = search (rules, cells)

pub returns-then-n-len : goal.returns-then-n-len
returns-then-n-len c = search (rules, cells)

pub returns-then-len-s : goal.returns-then-len-s
returns-then-len-s c = search (rules, cells)

pub returns-then-len-s-2 : goal.returns-then-len-s-2
returns-then-len-s-2 c = search (rules, cells)

pub returns-then-s : goal.returns-then-s
returns-then-s c = search (rules, cells)

pub returns-then-s-octets_for : goal.returns-then-s-octets_for
returns-then-s-octets_for c = search (rules, cells)

pub returns-then-size-s : goal.returns-then-size-s
returns-then-size-s c = search (rules, cells)

pub returns-then-n-len-2 : goal.returns-then-n-len-2
returns-then-n-len-2 c = search (rules, cells)

pub returns-then-there : goal.returns-then-there
returns-then-there c = search cell-there

pub returns : goal.returns
returns c = search cell-absent
