use Rattle.std.proofs.Common.{rules}
use Rattle.importing.proofs.FirstCases.{first_cases, first_ends}
use Rattle.importing.proofs.from_sheet.Goals as goal

pub slice_bounds-from_lines-end : goal.slice_bounds-from_lines-end
slice_bounds-from_lines-end c = search (rules, first_cases, first_ends)

pub slice_bounds-from_lines-count-in-Ok : goal.slice_bounds-from_lines-count-in-Ok
slice_bounds-from_lines-count-in-Ok c = search (rules, first_cases, first_ends)

pub slice_bounds-from_lines-start-in-Ok : goal.slice_bounds-from_lines-start-in-Ok
slice_bounds-from_lines-start-in-Ok c = search (rules, first_cases, first_ends)

pub returns-in-Err : goal.returns-in-Err
returns-in-Err c = search (rules, first_cases, first_ends)

pub returns-in-Ok : goal.returns-in-Ok
returns-in-Ok c = search (rules, first_cases, first_ends)
