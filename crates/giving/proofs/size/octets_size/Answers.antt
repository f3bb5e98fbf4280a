use Rattle.giving.specs.Size.{octet_sizes}
use Rattle.giving.proofs.size.octets_size.Goals as goal

pub returns-in-2 : goal.returns-in-2
returns-in-2 c = search octet_sizes

pub returns-in-3 : goal.returns-in-3
returns-in-3 c = search octet_sizes

pub returns-in-4 : goal.returns-in-4
returns-in-4 c = search octet_sizes

pub returns-in_default : goal.returns-in_default
returns-in_default c = search octet_sizes
