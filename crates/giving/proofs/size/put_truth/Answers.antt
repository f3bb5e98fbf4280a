use Rattle.giving.specs.Size.{truths}
use Rattle.giving.proofs.size.put_truth.Goals as goal

pub returns-then-yes : goal.returns-then-yes
returns-then-yes c = search truths

pub returns : goal.returns
returns c = search truths
