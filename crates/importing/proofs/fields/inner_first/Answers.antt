use Rattle.std.proofs.Common.{rules}
use Rattle.importing.specs.FieldCases.{first_cases}
use Rattle.importing.proofs.fields.inner_first.Goals as goal

pub returns-then-octet_or_none-eq-QUOTE : goal.returns-then-octet_or_none-eq-QUOTE
returns-then-octet_or_none-eq-QUOTE c = search (rules, first_cases)

pub returns : goal.returns
returns c = search (rules, first_cases)
