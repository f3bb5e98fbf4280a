use Rattle.std.proofs.Common.{rules}
use Rattle.scanning.specs.ScanCases.{field_cases}
use Rattle.scanning.proofs.walk_field.Goals as goal

pub walk_steps-requires : goal.walk_steps-requires
walk_steps-requires c = search (rules, field_cases)

pub returns : goal.returns
returns c = search (rules, field_cases)
