use Rattle.std.proofs.Common.{arith}
use Rattle.lookup.specs.Cases.{walks}
use Rattle.lookup.proofs.walk_to.Goals as goal

pub loop-preserved : goal.loop-preserved
loop-preserved c = (omega arith, search walks)

pub returns : goal.returns
returns c = search walks
