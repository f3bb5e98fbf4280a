use Rattle.book.specs.JudgeCases.{headers}
use Rattle.book.proofs.judge_header.Goals as goal

pub returns-then-book-gt-MOST_OCTETS : goal.returns-then-book-gt-MOST_OCTETS
returns-then-book-gt-MOST_OCTETS c = search headers

pub returns-then-book-lt12 : goal.returns-then-book-lt12
returns-then-book-lt12 c = search headers

pub returns-then-word32-ne32 : goal.returns-then-word32-ne32
returns-then-word32-ne32 c = search headers

pub returns-then-count-lt1 : goal.returns-then-count-lt1
returns-then-count-lt1 c = search headers

pub returns-then-count-gt-MOST_RECORDS : goal.returns-then-count-gt-MOST_RECORDS
returns-then-count-gt-MOST_RECORDS c = search headers

pub returns : goal.returns
returns c = search headers
