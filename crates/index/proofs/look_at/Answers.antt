use Rattle.std.proofs.Common.{◌∙◌}
use Rattle.index.specs.Cases.{looks}
use Rattle.index.proofs.look_at.Goals as goal

pub returns-in_default : goal.returns-in_default
returns-in_default c = c.refuse.ensures ∙ search looks

pub returns : goal.returns
returns c = search looks
