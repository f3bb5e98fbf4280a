use Rattle.answers.specs.Verdict.{passed-on}
use Rattle.inserting.specs.Cases.{inserts}
use Rattle.inserting.proofs.judge_insert.Goals as goal

pub returns-then-count-k : goal.returns-then-count-k
returns-then-count-k c = search inserts

pub returns-in_err-judge_offered : goal.returns-in_err-judge_offered
returns-in_err-judge_offered c = passed-on _ c.from_residual.ensures.1 (search (inserts, c.in_err-judge_offered.was))

pub returns-then-count-ge-MOST_RECORDS : goal.returns-then-count-ge-MOST_RECORDS
returns-then-count-ge-MOST_RECORDS c = search (inserts, c.in_ok-judge_offered.was)

pub returns-then-new-gt-MOST_OCTETS : goal.returns-then-new-gt-MOST_OCTETS
returns-then-new-gt-MOST_OCTETS c = search (inserts, c.in_ok-judge_offered.was)

pub returns : goal.returns
returns c = search (inserts, c.in_ok-judge_offered.was)
