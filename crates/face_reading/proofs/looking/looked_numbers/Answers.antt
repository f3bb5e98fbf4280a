use Rattle.face_reading.specs.Cases.{looked-at, looked-absent, looked-refused}
use Rattle.face_reading.proofs.looking.looked_numbers.Goals as goal

pub returns-in-Some : goal.returns-in-Some
returns-in-Some c = search looked-at

pub returns-in-None : goal.returns-in-None
returns-in-None c = search looked-absent

pub returns-in-Err : goal.returns-in-Err
returns-in-Err c = search looked-refused
