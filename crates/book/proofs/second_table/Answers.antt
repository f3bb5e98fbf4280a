use Rattle.std.proofs.Common.{arith}
use Rattle.answers.specs.Verdict.{passed-on}
use Rattle.book.specs.JudgeCases.{seconds, table_fits}
use Rattle.book.proofs.second_table.Goals as goal

pub returns-in_err-address : goal.returns-in_err-address
returns-in_err-address c = passed-on _ c.from_residual.ensures.1 (search (seconds, c.in_err-address.was))

pub overflow_add-h-2 : goal.overflow_add-h-2
overflow_add-h-2 c = let f = table_fits _ _ _ _ c.read_table.ensures c.in_ok-address.was in omega (arith, f.few, c.requires.few)

pub overflow_mul-h-2 : goal.overflow_mul-h-2
overflow_mul-h-2 c = let f = table_fits _ _ _ _ c.read_table.ensures c.in_ok-address.was in omega (arith, f.few, c.requires.few)

pub overflow_add-h-3 : goal.overflow_add-h-3
overflow_add-h-3 c = let f = table_fits _ _ _ _ c.read_table.ensures c.in_ok-address.was in omega (arith, f.few, c.requires.few)

pub returns-then-word32-h : goal.returns-then-word32-h
returns-then-word32-h c = search (seconds, c.in_ok-address.was)

pub returns : goal.returns
returns c = search (seconds, c.in_ok-address.was)
