use Rattle.lookup.specs.Within.{look-within, stretch-cut}
use Rattle.lookup.proofs.stretch.Goals as goal

pub cut-requires : goal.cut-requires
cut-requires c = look-within _ _ _ _ c.lookup-found.ensures

pub returns : goal.returns
returns c = search stretch-cut
