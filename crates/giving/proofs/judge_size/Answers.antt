use Rattle.giving.specs.Cases.{judges}
use Rattle.giving.proofs.judge_size.Goals as goal

pub returns-then-size-eq0 : goal.returns-then-size-eq0
returns-then-size-eq0 c = search judges

pub returns : goal.returns
returns c = search judges
