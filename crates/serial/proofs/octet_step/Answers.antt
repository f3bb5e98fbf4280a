use Rattle.serial.specs.Serial.{octet_step}
use Rattle.serial.proofs.octet_step.Goals as goal

pub returns : goal.returns
unfolding octet_step
returns c = cc
