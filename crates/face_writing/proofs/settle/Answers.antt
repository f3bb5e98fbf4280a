use Rattle.face_writing.specs.Cases.{number-done, number-refused, left-done, left-refused}
use Rattle.face_writing.proofs.settle.Goals as goal

pub returns-in-Ok : goal.returns-in-Ok
returns-in-Ok c = (search number-done, search left-done)

pub returns-in-Err : goal.returns-in-Err
returns-in-Err c = (search number-refused, search left-refused)
