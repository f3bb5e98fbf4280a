use Rattle.std.proofs.Common.{rules}
use Rattle.importing.specs.Cases.{codes_cases}
use Rattle.importing.proofs.codes_of.Goals as goal

pub loop-i-init : goal.loop-i-init
loop-i-init c = search (rules, codes_cases)
