use Rattle.std.proofs.Common.{rules}
use Rattle.serial.specs.Wide.{bits}
use Rattle.serial.proofs.fold.word_step.Goals as goal

pub loop-preserved : goal.loop-preserved
loop-preserved c = search (rules, bits)

pub overflow_cast-result : goal.overflow_cast-result
overflow_cast-result c = search (rules, bits)

pub returns : goal.returns
returns c = search (rules, bits)
