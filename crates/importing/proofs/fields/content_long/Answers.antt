use Rattle.std.proofs.Common.{rules}
use Rattle.importing.specs.FieldCases.{content_cases, plain_cases}
use Rattle.importing.proofs.fields.content_long.Goals as goal

pub slice_bounds-inner_long-count : goal.slice_bounds-inner_long-count
slice_bounds-inner_long-count c = search (rules, content_cases, plain_cases)

pub slice_bounds-inner_long-start : goal.slice_bounds-inner_long-start
slice_bounds-inner_long-start c = search (rules, content_cases, plain_cases)

pub returns-then-is_quoted : goal.returns-then-is_quoted
returns-then-is_quoted c = search (rules, content_cases, plain_cases)

pub returns : goal.returns
returns c = search (rules, content_cases, plain_cases)
