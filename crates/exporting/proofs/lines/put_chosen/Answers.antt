use Rattle.std.proofs.Common.{rules}
use Rattle.exporting.specs.LineCases.{chosen_cases}
use Rattle.exporting.proofs.lines.put_chosen.Goals as goal

pub put_field-requires : goal.put_field-requires
put_field-requires c = search (rules, chosen_cases)

pub returns : goal.returns
returns c = search (rules, chosen_cases)
