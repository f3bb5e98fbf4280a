use Rattle.std.proofs.Common.{arith}
use lib.Bits.{and_mask}
use Rattle.serial.specs.Serial.{bit_step}
use Rattle.serial.proofs.bit_step.Goals as goal

pub overflow_mul-result : goal.overflow_mul-result
overflow_mul-result c = rw (and_mask c.args.c 1) (omega arith)

pub returns : goal.returns
unfolding bit_step
returns c = rw (and_mask c.args.c 1)
