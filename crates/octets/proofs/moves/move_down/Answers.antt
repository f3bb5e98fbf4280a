use Rattle.std.proofs.Common.{rules}
use Rattle.octets.specs.Splice.{loops}
use Rattle.octets.proofs.moves.move_down.Goals as goal

pub loop-j-init : goal.loop-j-init
loop-j-init c = search (rules, loops)

pub loop-j-preserved : goal.loop-j-preserved
loop-j-preserved c = search (rules, loops)

pub returns : goal.returns
returns c = search (rules, loops)
