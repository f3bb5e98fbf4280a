use Rattle.std.proofs.Common.{rules}
use Rattle.exporting.specs.FieldCases.{string_cases}
use Rattle.exporting.proofs.strings.string_size.Goals as goal

pub returns-then-has_mark : goal.returns-then-has_mark
returns-then-has_mark c = search (rules, string_cases)

pub returns : goal.returns
returns c = search (rules, string_cases)
