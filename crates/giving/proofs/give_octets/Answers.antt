use Rattle.std.proofs.Common.{arith}
use Rattle.giving.specs.Cases.{gave, giving, gave_fits}
use Rattle.giving.proofs.give_octets.Goals as goal

pub returns-in_default : goal.returns-in_default
returns-in_default c = (search gave, search giving)

pub put_octets-requires : goal.put_octets-requires
put_octets-requires c = let g = gave_fits _ _ _ _ _ _ _ _ _ c.form_of-form.ensures c.octets_size.ensures c.give-outcome.ensures.0 c.in-Ok.is in (omega (arith, c.give-outcome.auto.buf), g.short)

pub returns : goal.returns
returns c = (search gave, search giving)
