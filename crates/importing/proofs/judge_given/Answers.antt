use Rattle.std.proofs.Common.{rules}
use Rattle.answers.specs.Verdict.{passed-on}
use Rattle.importing.specs.Cases.{given_cases}
use Rattle.importing.proofs.judge_given.Goals as goal

pub returns-in_err-judge_begin : goal.returns-in_err-judge_begin
returns-in_err-judge_begin c = passed-on _ c.from_residual.ensures.1 (search (given_cases, c.in_err-judge_begin.was))

pub forms_of-forms-requires : goal.forms_of-forms-requires
forms_of-forms-requires c = search (rules, given_cases, c.in_ok-judge_begin.was)

pub start_size-w-requires : goal.start_size-w-requires
start_size-w-requires c = search (rules, given_cases, c.in_ok-judge_begin.was)

pub slice_bounds-judge_records-end : goal.slice_bounds-judge_records-end
slice_bounds-judge_records-end c = search (rules, given_cases, c.in_ok-judge_begin.was)

pub returns : goal.returns
returns c = search (rules, given_cases, c.in_ok-judge_begin.was)
