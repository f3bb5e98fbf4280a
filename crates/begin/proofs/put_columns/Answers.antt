use Rattle.std.proofs.Common.{rules}
use Rattle.begin.specs.Cases.{stores}
use Rattle.begin.proofs.put_columns.Goals as goal

pub loop-i-init : goal.loop-i-init
loop-i-init c = search stores

pub loop-i-preserved : goal.loop-i-preserved
loop-i-preserved c = search (rules, stores)

pub returns : goal.returns
returns c = search (rules, stores)
