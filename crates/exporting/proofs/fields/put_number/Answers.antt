use Rattle.std.proofs.Common.{rules}
use Rattle.exporting.specs.ValueCases.{number_puts}
use Rattle.exporting.proofs.fields.put_number.Goals as goal

pub returns : goal.returns
returns c = search (rules, number_puts)
