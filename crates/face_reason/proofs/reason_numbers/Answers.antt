use Rattle.face_reason.specs.Cases.{numbers}
use Rattle.face_reason.proofs.reason_numbers.Goals as goal

pub returns-in-OtherType : goal.returns-in-OtherType
returns-in-OtherType c = search numbers

pub returns-in-NoColumn : goal.returns-in-NoColumn
returns-in-NoColumn c = search numbers

pub returns-in-Listed : goal.returns-in-Listed
returns-in-Listed c = search numbers

pub returns-in-NotListed : goal.returns-in-NotListed
returns-in-NotListed c = search numbers

pub returns-in-Err : goal.returns-in-Err
returns-in-Err c = search numbers
