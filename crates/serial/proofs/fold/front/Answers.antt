use Rattle.std.proofs.Common.{rules}
use Rattle.serial.specs.Wide.{front_is}
use Rattle.serial.proofs.fold.front.Goals as goal

pub returns : goal.returns
returns c = search (rules, front_is)
