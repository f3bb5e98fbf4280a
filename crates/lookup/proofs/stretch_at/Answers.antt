use Rattle.lookup.specs.Within.{at-within, at_cut}
use Rattle.lookup.proofs.stretch_at.Goals as goal

pub cut-requires : goal.cut-requires
cut-requires c = at-within _ _ _ _ c.lookup_at-found.ensures

pub returns : goal.returns
returns c = search at_cut
