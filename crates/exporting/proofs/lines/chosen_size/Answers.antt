use Rattle.std.proofs.Common.{rules}
use Rattle.exporting.specs.LineCases.{chosen_cases}
use Rattle.exporting.proofs.lines.chosen_size.Goals as goal

pub field_size-requires : goal.field_size-requires
field_size-requires c = search (rules, chosen_cases)

pub returns : goal.returns
returns c = search (rules, chosen_cases)
