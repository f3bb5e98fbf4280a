use Rattle.std.proofs.Common.{arith, rules}
use Rattle.index.specs.MakeCases.{walkings, to-fits}
use Rattle.index.proofs.put_starts.Goals as goal

pub loop-init : goal.loop-init
loop-init c = search (rules, walkings)

pub overflow_add-to : goal.overflow_add-to
overflow_add-to c = search to-fits

pub loop-preserved : goal.loop-preserved
loop-preserved c = (omega arith, search rules, search walkings, search walkings, search walkings)

pub returns : goal.returns
returns c = search walkings
