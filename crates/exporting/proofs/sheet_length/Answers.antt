use Rattle.answers.specs.Verdict.{passed-on}
use Rattle.exporting.proofs.Cases.{book_keeps, export_cases}
use Rattle.exporting.proofs.sheet_length.Goals as goal

pub returns-in_err-j : goal.returns-in_err-j
returns-in_err-j c = passed-on _ c.from_residual.ensures.1 (search (export_cases, c.in_err-j.was))

pub measure_good-requires : goal.measure_good-requires
measure_good-requires c = search (book_keeps, c.in_ok-j.was)

pub returns : goal.returns
returns c = search (export_cases, c.in_ok-j.was)
