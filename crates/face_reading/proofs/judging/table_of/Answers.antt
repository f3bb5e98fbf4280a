use Rattle.face_reading.specs.Cases.{table-header, table-address}
use Rattle.face_reading.proofs.judging.table_of.Goals as goal

pub returns-then-address-eq0 : goal.returns-then-address-eq0
returns-then-address-eq0 c = search table-header

pub returns : goal.returns
returns c = search table-address
