use Rattle.std.proofs.Common.{rules}
use Rattle.framing.specs.Cases.{keys}
use Rattle.framing.proofs.keys_held.Goals as goal

pub loop-i-init : goal.loop-i-init
loop-i-init c = search (rules, keys)

pub returns-then-not-key_held : goal.returns-then-not-key_held
returns-then-not-key_held c = search (rules, keys)

pub loop-i-preserved : goal.loop-i-preserved
loop-i-preserved c = search (rules, keys)

pub returns : goal.returns
returns c = search (rules, keys)
