use Rattle.std.proofs.Common.{◌∙◌}
use Rattle.scanning.specs.FitCases.{small-not}
use Rattle.scanning.proofs.fits.is_small.Goals as goal

pub returns-then-a-gt4294967295 : goal.returns-then-a-gt4294967295
returns-then-a-gt4294967295 c =
    let d = c.from.ensures ∙ c.saturating_sub.ensures in
    small-not _ _ _ c.loop-x.invariant.1 c.loop-x-test.true _ d c.if-a-gt4294967295.true
