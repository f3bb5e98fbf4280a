use Rattle.std.proofs.Common.{rules}
use Rattle.index.specs.Cases.{start-by, stretch-short}
use Rattle.index.proofs.start_of.Goals as goal

pub start_at-requires : goal.start_at-requires
start_at-requires c = (search rules, search (stretch-short, rules))

pub returns : goal.returns
returns c = search start-by
