use Rattle.framing.specs.Cases.{size_is, size_few}
use Rattle.framing.proofs.open_size.Goals as goal

pub returns : goal.returns
returns c = (search size_is, search size_few)
