use Rattle.book.specs.RecordCases.{serial-none, serial-some}
use Rattle.book.proofs.records.serial_after.Goals as goal

pub returns-then-book-lt12 : goal.returns-then-book-lt12
returns-then-book-lt12 c = search serial-none

pub returns : goal.returns
returns c = search serial-some
