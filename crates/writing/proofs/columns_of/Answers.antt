use Rattle.octets.specs.Cases.{tests}
use Rattle.writing.proofs.columns_of.Goals as goal

pub returns-then-k-eq1 : goal.returns-then-k-eq1
returns-then-k-eq1 c = search tests

pub returns-else-k-eq1 : goal.returns-else-k-eq1
returns-else-k-eq1 c = search tests
