use Rattle.face_reading.specs.Cases.{judged-good, judged-refused}
use Rattle.face_reading.proofs.judging.judged_numbers.Goals as goal

pub returns-in-Ok : goal.returns-in-Ok
returns-in-Ok c = search judged-good

pub returns-in-Err : goal.returns-in-Err
returns-in-Err c = search judged-refused
