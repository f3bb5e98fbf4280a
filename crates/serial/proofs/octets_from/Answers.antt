use Rattle.std.proofs.Common.{rules}
use Rattle.serial.specs.Serial.{serial_fold}
use Rattle.serial.proofs.octets_from.Goals as goal

pub returns : goal.returns
returns c = search (rules, serial_fold)
