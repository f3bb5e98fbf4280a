use Rattle.giving.specs.Cases.{mark-part}
use Rattle.giving.proofs.mark.Goals as goal

pub returns : goal.returns
returns c = mark-part c.args.buf.now _ c.args.at c.args.column c.requires c.set_bit.ensures
