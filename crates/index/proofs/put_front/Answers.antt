use Rattle.index.specs.MakeCases.{front-put}
use Rattle.index.proofs.put_front.Goals as goal

pub returns : goal.returns
returns c = search front-put
