use Rattle.std.proofs.Common.{rules}
use Rattle.octets.specs.Splice.{loops}
use Rattle.octets.proofs.moves.move_up.Goals as goal

pub loop-k-init : goal.loop-k-init
loop-k-init c = search (rules, loops)

pub loop-k-preserved : goal.loop-k-preserved
loop-k-preserved c = search (rules, loops)

pub returns : goal.returns
returns c = search (rules, loops)
