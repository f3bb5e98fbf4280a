use Rattle.std.proofs.Common.{rules}
use Rattle.begin.specs.Cases.{knowns}
use Rattle.begin.proofs.known.Goals as goal

pub loop-i-init : goal.loop-i-init
loop-i-init c = search knowns

pub returns-then-form_of : goal.returns-then-form_of
returns-then-form_of c = (search (rules, knowns), search rules)

pub loop-i-preserved : goal.loop-i-preserved
loop-i-preserved c = search (rules, knowns)

pub returns : goal.returns
returns c = (search (rules, knowns), search rules)
