use Rattle.editing.specs.InPlace.{records_is}
use Rattle.editing.proofs.put_records_in.Goals as goal

pub returns : goal.returns
returns c = search records_is
