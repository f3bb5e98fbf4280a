use Rattle.std.proofs.Common.{rules}
use Rattle.exporting.specs.FieldCases.{twice_cases}
use Rattle.exporting.proofs.strings.put_twice.Goals as goal

pub returns-then-x-ne-QUOTE : goal.returns-then-x-ne-QUOTE
returns-then-x-ne-QUOTE c = search (rules, twice_cases)

pub returns : goal.returns
returns c = search (rules, twice_cases)
