use Rattle.correcting.specs.Find.{cell-is}
use Rattle.correcting.proofs.find_cell.Goals as goal

pub returns : goal.returns
returns c = search cell-is
