use Rattle.std.proofs.Common.{rules}
use Rattle.lines.proofs.Pairs.{pairs-are}
use Rattle.lines.proofs.pair.Goals as goal

pub returns : goal.returns
returns c = rw (c.from.ensures) (pairs-are c.args.pairs.now _ c.args.octet (search rules) c.requires)
