use Rattle.writing.specs.State.{settle-done, settle-refused}
use Rattle.writing.proofs.settle.Goals as goal

pub returns-in-Ok : goal.returns-in-Ok
returns-in-Ok c = search settle-done

pub returns-in-Err : goal.returns-in-Err
returns-in-Err c = search settle-refused
