use Rattle.std.proofs.Common.{rules}
use Rattle.text.specs.Cases.{bare_none, bare_some}
use Rattle.text.proofs.is_narrow.Goals as goal

pub returns-then-not-is_empty : goal.returns-then-not-is_empty
returns-then-not-is_empty c = search (rules, bare_some)

pub returns-else-not-is_empty : goal.returns-else-not-is_empty
returns-else-not-is_empty c = search (rules, bare_none)
