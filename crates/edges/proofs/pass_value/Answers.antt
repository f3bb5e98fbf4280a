use Rattle.std.proofs.Common.{rules}
use Rattle.edges.specs.Cases.{passes}
use Rattle.edges.proofs.pass_value.Goals as goal

pub returns-then-form-eq-NARROW : goal.returns-then-form-eq-NARROW
returns-then-form-eq-NARROW c = search (rules, passes)

pub returns-in-Some : goal.returns-in-Some
returns-in-Some c = search (rules, passes)

pub returns-in-None : goal.returns-in-None
returns-in-None c = search (rules, passes)
