use Rattle.text.specs.Cases.{zero_found, zero_first, zero_missing}
use Rattle.text.proofs.narrow_string.Goals as goal

pub returns-in-Some : goal.returns-in-Some
returns-in-Some c = zero_found _ _ c.zero_at.ensures _ c.in-Some.is c.if-i-gt0.true

pub returns-in_default : goal.returns-in_default
returns-in_default c = zero_first _ _ c.zero_at.ensures _ c.in-Some.is c.if-i-gt0.false

pub returns-in_default-2 : goal.returns-in_default-2
returns-in_default-2 c = zero_missing _ _ c.zero_at.ensures c.in_default.is
