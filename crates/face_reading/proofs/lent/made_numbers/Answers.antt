use Rattle.face_reading.specs.Cases.{made-done, made-refused}
use Rattle.face_reading.proofs.lent.made_numbers.Goals as goal

pub returns-in-Ok : goal.returns-in-Ok
returns-in-Ok c = search made-done

pub returns-in-Err : goal.returns-in-Err
returns-in-Err c = search made-refused
