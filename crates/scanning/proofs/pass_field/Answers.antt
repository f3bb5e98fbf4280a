use Rattle.std.proofs.Common.{rules}
use Rattle.scanning.specs.ScanCases.{pass_cases, handed-on}
use Rattle.scanning.proofs.pass_field.Goals as goal

pub returns-in_err-v : goal.returns-in_err-v
returns-in_err-v c = handed-on _ c.from_residual.ensures.1 (search (pass_cases, c.in_err-v.was))

pub slice_bounds-fits_field-count : goal.slice_bounds-fits_field-count
slice_bounds-fits_field-count c = search (rules, pass_cases, c.in_ok-v.was)

pub slice_bounds-fits_field-start : goal.slice_bounds-fits_field-start
slice_bounds-fits_field-start c = search (rules, pass_cases, c.in_ok-v.was)

pub slice_bounds-fits_field-end : goal.slice_bounds-fits_field-end
slice_bounds-fits_field-end c = search (rules, pass_cases, c.in_ok-v.was)

pub returns-then-not-fits_field : goal.returns-then-not-fits_field
returns-then-not-fits_field c = search (rules, pass_cases, c.in_ok-v.was)

pub returns : goal.returns
returns c = search (rules, pass_cases, c.in_ok-v.was)
