use Rattle.std.proofs.Common.{rules}
use Rattle.editing.specs.Fits.{part-kept, record_ways}
use Rattle.editing.proofs.put_records.Goals as goal

pub put_records_in-requires : goal.put_records_in-requires
put_records_in-requires c = part-kept _ _ _ _ _ _ c.part_fits.ensures (search rules)

pub returns-then-part_fits : goal.returns-then-part_fits
returns-then-part_fits c = search record_ways

pub returns-else-part_fits : goal.returns-else-part_fits
returns-else-part_fits c = search record_ways
