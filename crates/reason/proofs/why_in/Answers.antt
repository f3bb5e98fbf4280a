use Rattle.std.proofs.Common.{rules}
use Rattle.reason.specs.Cases.{ins, column-few}
use Rattle.reason.proofs.why_in.Goals as goal

pub returns-in_default : goal.returns-in_default
returns-in_default c = search ins

pub why_absent-requires : goal.why_absent-requires
why_absent-requires c = (search column-few, search rules)

pub returns : goal.returns
returns c = search ins
