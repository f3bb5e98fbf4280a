use Rattle.std.proofs.Common.{rules}
use Rattle.text.specs.Cases.{chars-start, chars-on}
use Rattle.text.proofs.chars.Goals as goal

pub loop-i-init : goal.loop-i-init
loop-i-init c = chars-start _

pub loop-i-preserved : goal.loop-i-preserved
loop-i-preserved c = search (rules, chars-on)
