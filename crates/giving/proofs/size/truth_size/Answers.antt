use Rattle.giving.specs.Size.{sizes}
use Rattle.giving.proofs.size.truth_size.Goals as goal

pub returns-then-form-eq-TRUTH : goal.returns-then-form-eq-TRUTH
returns-then-form-eq-TRUTH c = search sizes

pub returns : goal.returns
returns c = search sizes
