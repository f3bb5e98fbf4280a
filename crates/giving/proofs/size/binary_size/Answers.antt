use Rattle.giving.specs.Size.{binaries}
use Rattle.giving.proofs.size.binary_size.Goals as goal

pub returns-then-n-eq0 : goal.returns-then-n-eq0
returns-then-n-eq0 c = search binaries

pub returns-then-n-lt4294967296 : goal.returns-then-n-lt4294967296
returns-then-n-lt4294967296 c = search binaries

pub returns : goal.returns
returns c = search binaries
