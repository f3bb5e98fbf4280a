use Rattle.std.proofs.Common.{rules}
use Rattle.book.specs.RecordCases.{dues}
use Rattle.book.proofs.records.judge_due.Goals as goal

pub returns-then-book-at : goal.returns-then-book-at
returns-then-book-at c = search (rules, dues)

pub returns : goal.returns
returns c = search (rules, dues)
