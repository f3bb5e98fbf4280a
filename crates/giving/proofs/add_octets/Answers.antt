use Rattle.giving.specs.Cases.{added, elementing, added-fits}
use Rattle.giving.proofs.add_octets.Goals as goal

pub returns-in_default : goal.returns-in_default
returns-in_default c = (search added, search elementing)

pub put_octets-requires : goal.put_octets-requires
put_octets-requires c = let g = added-fits _ c.args.buf.now _ _ _ _ _ _ c.element_form-form.ensures c.octets_size.ensures c.add-outcome.ensures c.in-Ok.is in (g.fit, g.short)

pub returns : goal.returns
returns c = (search added, search elementing)
