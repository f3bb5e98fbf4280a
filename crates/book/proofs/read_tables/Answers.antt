use Rattle.answers.specs.Verdict.{passed-on}
use Rattle.book.specs.JudgeCases.{tables, table_fits}
use Rattle.book.proofs.read_tables.Goals as goal

pub returns-in_err-judge_header : goal.returns-in_err-judge_header
returns-in_err-judge_header c = passed-on _ c.from_residual.ensures.1 (search (tables, c.in_err-judge_header.was))

pub returns-then-book-lt16 : goal.returns-then-book-lt16
returns-then-book-lt16 c = search (tables, c.in_ok-judge_header.was)

pub returns-in_err-header : goal.returns-in_err-header
returns-in_err-header c = passed-on _ c.from_residual-in_err-header.ensures.1 (search (tables, c.in_ok-judge_header.was, c.in_err-header.was))

pub second_table-requires : goal.second_table-requires
second_table-requires c = table_fits _ _ _ _ c.read_table.ensures c.in_ok-header.was

pub returns : goal.returns
returns c = search (tables, c.in_ok-judge_header.was, c.in_ok-header.was)
