use Rattle.editing.specs.InPlace.{reseal-is}
use Rattle.editing.proofs.reseal.Goals as goal

pub returns : goal.returns
returns c = reseal-is _ _ _ _ _ _ _ c.requires.0 c.requires.1 c.serial_of-serial.ensures c.put_word.ensures c.put_word-2.ensures c.put_word-3.ensures
