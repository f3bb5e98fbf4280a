use Rattle.begin.specs.Cases.{row_put, low_fits}
use Rattle.begin.proofs.put_row.Goals as goal

pub overflow_cast-flags : goal.overflow_cast-flags
overflow_cast-flags c = search low_fits

pub returns : goal.returns
returns c = search row_put
