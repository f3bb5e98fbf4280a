use Rattle.std.proofs.Common.{rules}
use Rattle.exporting.specs.FieldCases.{string_cases}
use Rattle.exporting.proofs.strings.put_string.Goals as goal

pub put_quoted-requires : goal.put_quoted-requires
put_quoted-requires c = search (rules, string_cases)

pub returns-then-has_mark : goal.returns-then-has_mark
returns-then-has_mark c = search (rules, string_cases)

pub returns : goal.returns
returns c = search (rules, string_cases)
