use Rattle.std.proofs.Common.{rules}
use Rattle.value.specs.Cases.{searches, type-here, type-next}
use Rattle.value.proofs.types.form_of_type.Goals as goal

pub loop-known-init : goal.loop-known-init
loop-known-init c = search (rules, searches)

pub returns-then-known-code : goal.returns-then-known-code
returns-then-known-code c = type-here _ _ c.loop-known.invariant c.loop-known-test.true c.if-known-code.true

pub loop-known-preserved : goal.loop-known-preserved
loop-known-preserved c = type-next _ _ c.loop-known.invariant c.loop-known-test.true c.if-known-code.false

pub returns : goal.returns
returns c = search (rules, searches)
