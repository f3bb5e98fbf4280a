use Rattle.giving.specs.Size.{sizes}
use Rattle.giving.proofs.size.number_size.Goals as goal

pub returns-then-form-eq-NUMBER : goal.returns-then-form-eq-NUMBER
returns-then-form-eq-NUMBER c = search sizes

pub returns : goal.returns
returns c = search sizes
