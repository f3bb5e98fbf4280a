use Rattle.std.proofs.Common.{◌∙◌}
use Rattle.writing.specs.State.{withins, within-no, within-asks}
use Rattle.writing.proofs.within.Goals as goal

pub framed-requires : goal.framed-requires
framed-requires c = within-asks _ _ _ c.sane.ensures c.if-sane.true _ c.columns_of.ensures

pub returns-then-sane : goal.returns-then-sane
returns-then-sane c = search withins

pub returns-else-sane : goal.returns-else-sane
returns-else-sane c = c.if-sane.false ∙ within-no _ _ _ c.sane.ensures c.if-sane.false
