use Rattle.std.proofs.Common.{rules}
use Rattle.serial.specs.Wide.{rest_end}
use Rattle.serial.proofs.fold.tail.Goals as goal

pub returns : goal.returns
returns c = search (rules, rest_end)
