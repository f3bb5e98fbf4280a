use Rattle.exporting.proofs.Cases.{size_is}
use Rattle.exporting.proofs.sheet_size.Goals as goal

pub returns : goal.returns
returns c = search size_is
