use Rattle.std.proofs.Common.{rules}
use Rattle.editing.specs.Fits.{entry_kept, entry_ways}
use Rattle.editing.proofs.put_entry.Goals as goal

pub put_entry_in-requires : goal.put_entry_in-requires
put_entry_in-requires c = entry_kept _ _ _ _ _ 0 _ _ c.word32-size.ensures c.entry_fits.ensures (search rules)

pub returns-then-entry_fits : goal.returns-then-entry_fits
returns-then-entry_fits c = search entry_ways

pub returns-else-entry_fits : goal.returns-else-entry_fits
returns-else-entry_fits c = search entry_ways
