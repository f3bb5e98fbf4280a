use Rattle.std.proofs.Common.{rules}
use Rattle.whole.specs.Cases.{widths}
use Rattle.whole.proofs.put_number.Goals as goal

pub returns-then-n-lt128 : goal.returns-then-n-lt128
returns-then-n-lt128 c = search (rules, widths)

pub returns : goal.returns
returns c = search (rules, widths)
