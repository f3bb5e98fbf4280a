use Rattle.std.proofs.Common.{rules}
use Rattle.scanning.specs.StringCases.{string_cases}
use Rattle.scanning.proofs.strings.walk_string.Goals as goal

pub returns-then-text-at : goal.returns-then-text-at
returns-then-text-at c = search (rules, string_cases)

pub returns-then-text-at-eq-QUOTE : goal.returns-then-text-at-eq-QUOTE
returns-then-text-at-eq-QUOTE c = search (rules, string_cases)

pub returns : goal.returns
returns c = search (rules, string_cases)
