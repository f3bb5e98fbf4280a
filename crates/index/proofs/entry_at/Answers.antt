use Rattle.std.proofs.Common.{◌∙◌}
use Rattle.answers.specs.Verdict.{passed-on}
use Rattle.index.specs.Cases.{entered, few}
use Rattle.index.proofs.entry_at.Goals as goal

pub returns-in_err-read_tables : goal.returns-in_err-read_tables
returns-in_err-read_tables c = passed-on _ c.from_residual.ensures.1 (search (entered, c.in_err-read_tables.was))

pub returns-in_err-judge_beside : goal.returns-in_err-judge_beside
returns-in_err-judge_beside c =
    passed-on _ c.from_residual-in_err-judge_beside.ensures.1
    (search (entered, c.in_ok-read_tables.was, c.in_err-judge_beside.was))

pub start_of-at-requires : goal.start_of-at-requires
start_of-at-requires c = search (few, c.in_ok-read_tables.was, c.in_ok-judge_beside.was)

pub returns-then-at-book : goal.returns-then-at-book
returns-then-at-book c = search (entered, c.in_ok-read_tables.was, c.in_ok-judge_beside.was)

pub returns : goal.returns
returns c = c.refuse.ensures ∙ search (entered, c.in_ok-read_tables.was, c.in_ok-judge_beside.was)
