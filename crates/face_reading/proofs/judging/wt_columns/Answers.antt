use Rattle.face_reading.specs.Cases.{columns-done, tags-done, flags-done, count-done, columns-refused}
use Rattle.face_reading.specs.Cases.{columns-kept, count-refused}
use Rattle.face_reading.proofs.judging.wt_columns.Goals as goal

pub returns-in-Ok : goal.returns-in-Ok
returns-in-Ok c = (
  search columns-done,
  tags-done _ _ c.judge.ensures _ c.in-Ok.is _ _ c.table_of-t.ensures _,
  flags-done _ _ c.judge.ensures _ c.in-Ok.is _ _ c.table_of-t.ensures _,
  search count-done,
)

pub returns-in-Err : goal.returns-in-Err
returns-in-Err c = (search columns-refused, search columns-kept, search columns-kept, search count-refused)
