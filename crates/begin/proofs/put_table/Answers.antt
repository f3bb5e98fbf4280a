use Rattle.begin.specs.Cases.{table-put}
use Rattle.begin.proofs.put_table.Goals as goal

pub returns : goal.returns
returns c = search table-put
