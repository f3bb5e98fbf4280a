use Rattle.std.proofs.Common.{rules}
use Rattle.editing.specs.InPlace.{marks}
use Rattle.editing.proofs.mark.Goals as goal

pub returns-then-there : goal.returns-then-there
returns-then-there c = search (rules, marks)

pub returns : goal.returns
returns c = search (rules, marks)
