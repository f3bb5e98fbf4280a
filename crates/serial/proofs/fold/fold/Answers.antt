use Rattle.std.proofs.Common.{rules}
use Rattle.serial.specs.Wide.{fold_start, rest_step}
use Rattle.serial.proofs.fold.fold.Goals as goal

pub loop-rest-init : goal.loop-rest-init
loop-rest-init c = search (rules, fold_start)

pub loop-rest-preserved : goal.loop-rest-preserved
loop-rest-preserved c = search (rules, rest_step)
