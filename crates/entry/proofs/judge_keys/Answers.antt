use Rattle.std.proofs.Common.{refl, rules}
use Rattle.entry.specs.Cases.{keys}
use Rattle.entry.proofs.judge_keys.Goals as goal

pub loop-i-init : goal.loop-i-init
loop-i-init c = (search rules, refl)

pub returns-then-not-key_held : goal.returns-then-not-key_held
returns-then-not-key_held c = search (rules, keys)

pub loop-i-preserved : goal.loop-i-preserved
loop-i-preserved c = search (rules, keys)

pub returns : goal.returns
returns c = search (rules, keys)
