use Rattle.importing.specs.Cases.{lay-written, lay-count, lay-octets}
use Rattle.importing.proofs.lay_down.Goals as goal

pub returns : goal.returns
returns c = (search lay-written, search lay-count, search lay-octets)
