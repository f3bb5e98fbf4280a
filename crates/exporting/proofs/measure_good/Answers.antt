use Rattle.answers.specs.Verdict.{passed-on}
use Rattle.exporting.proofs.Cases.{measure_cases, measure-few}
use Rattle.exporting.proofs.measure_good.Goals as goal

pub returns-in_err-judge_choice : goal.returns-in_err-judge_choice
returns-in_err-judge_choice c =
    passed-on _ c.from_residual.ensures.1 (search (measure_cases, c.in_err-judge_choice.was))

pub find_places-places-requires : goal.find_places-places-requires
find_places-places-requires c = search (measure-few, c.in_ok-judge_choice.was)

pub slice_bounds-sheet_size-end : goal.slice_bounds-sheet_size-end
slice_bounds-sheet_size-end c = search (measure_cases, c.in_ok-judge_choice.was)

pub returns : goal.returns
returns c = search (measure_cases, c.in_ok-judge_choice.was)
