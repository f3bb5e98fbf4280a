use Rattle.std.proofs.Common.{rules}
use Rattle.answers.specs.Verdict.{passed-on}
use Rattle.importing.specs.Cases.{records_cases}
use Rattle.importing.proofs.judge_records.Goals as goal

pub returns-in_err-judge_offered : goal.returns-in_err-judge_offered
returns-in_err-judge_offered c =
    passed-on _ c.from_residual.ensures.1 (search (records_cases, c.in_err-judge_offered.was))

pub judge_head-requires : goal.judge_head-requires
judge_head-requires c = search (rules, records_cases, c.in_ok-judge_offered.was)

pub returns-in_err-judge_head : goal.returns-in_err-judge_head
returns-in_err-judge_head c =
    passed-on _ c.from_residual-in_err-judge_head.ensures.1
    (search (records_cases, c.in_ok-judge_offered.was, c.in_err-judge_head.was))

pub returns : goal.returns
returns c = search (rules, records_cases, c.in_ok-judge_offered.was, c.in_ok-judge_head.was)
