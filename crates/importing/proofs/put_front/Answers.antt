use Rattle.std.proofs.Common.{rules}
use Rattle.importing.specs.Cases.{front_cases}
use Rattle.importing.proofs.put_front.Goals as goal

pub returns : goal.returns
returns c = search (rules, front_cases)
