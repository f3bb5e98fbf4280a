use Rattle.giving.specs.Size.{strings}
use Rattle.giving.proofs.size.put_octets.Goals as goal

pub returns-then-form-eq-BINARY : goal.returns-then-form-eq-BINARY
returns-then-form-eq-BINARY c = search strings

pub returns : goal.returns
returns c = search strings
