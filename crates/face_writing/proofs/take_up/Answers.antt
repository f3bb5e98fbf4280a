use Rattle.face_writing.specs.Cases.{taken-up}
use Rattle.face_writing.proofs.take_up.Goals as goal

pub returns : goal.returns
returns c = search taken-up
