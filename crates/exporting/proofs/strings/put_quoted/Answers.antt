use Rattle.std.proofs.Common.{rules}
use Rattle.exporting.specs.FieldCases.{quoted_cases}
use Rattle.exporting.proofs.strings.put_quoted.Goals as goal

pub bounds-out-at : goal.bounds-out-at
bounds-out-at c = search (rules, quoted_cases)

pub put_doubled-end-requires : goal.put_doubled-end-requires
put_doubled-end-requires c = search (rules, quoted_cases)

pub bounds-out-end : goal.bounds-out-end
bounds-out-end c = search (rules, quoted_cases)

pub overflow_add-result : goal.overflow_add-result
overflow_add-result c = search (rules, quoted_cases)

pub returns : goal.returns
returns c = search (rules, quoted_cases)
