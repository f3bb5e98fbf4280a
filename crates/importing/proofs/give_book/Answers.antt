use Rattle.std.proofs.Common.{rules}
use Rattle.answers.specs.Verdict.{passed-on}
use Rattle.importing.specs.Cases.{give-clear, give-refused, give-left, give-done, give-written}
use Rattle.importing.proofs.give_book.Goals as goal

pub returns-in_err-judge_given : goal.returns-in_err-judge_given
returns-in_err-judge_given c = (
  passed-on _ c.from_residual.ensures.1 (search (give-refused, c.in_err-judge_given.was)),
  search (give-left, c.in_err-judge_given.was),
)

pub write_book-requires : goal.write_book-requires
write_book-requires c =
    (search rules, search rules, search rules, search rules, search (give-clear, c.in_ok-judge_given.was))

pub returns : goal.returns
returns c = (search (give-done, c.in_ok-judge_given.was), search (give-written, c.in_ok-judge_given.was))
