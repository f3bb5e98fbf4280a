use Rattle.std.proofs.Common.{rules}
use Rattle.importing.specs.FieldCases.{content_cases, plain_cases}
use Rattle.importing.proofs.fields.put_content.Goals as goal

pub slice_bounds-put_inner-count : goal.slice_bounds-put_inner-count
slice_bounds-put_inner-count c = search (rules, content_cases, plain_cases)

pub slice_bounds-put_inner-start : goal.slice_bounds-put_inner-start
slice_bounds-put_inner-start c = search (rules, content_cases, plain_cases)

pub put_inner-requires : goal.put_inner-requires
put_inner-requires c = search (rules, content_cases, plain_cases)

pub returns-then-is_quoted : goal.returns-then-is_quoted
returns-then-is_quoted c = search (rules, content_cases, plain_cases)

pub returns : goal.returns
returns c = search (rules, content_cases, plain_cases)
