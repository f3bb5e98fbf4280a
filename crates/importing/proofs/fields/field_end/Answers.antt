use Rattle.std.proofs.Common.{rules}
use Rattle.importing.specs.FieldCases.{field_end, field_next}
use Rattle.importing.proofs.fields.field_end.Goals as goal

pub loop-i-init : goal.loop-i-init
loop-i-init c = search (rules, field_end)

pub returns-then-s-i-ne-QUOTE : goal.returns-then-s-i-ne-QUOTE
returns-then-s-i-ne-QUOTE c = search (rules, field_end)

pub returns-then-s-close : goal.returns-then-s-close
returns-then-s-close c = search (rules, field_end)

pub loop-i-preserved : goal.loop-i-preserved
loop-i-preserved c = (search rules, field_next c.args.s.now c.args.at c.loop-i.i c.loop-i.invariant.1 c.loop-i-test.true c.if-s-i-ne-QUOTE.false _ c.quote_from-close.ensures.0 c.if-s-close.false _ c.plain_end-i-in-loop-i.ensures.0)

pub returns : goal.returns
returns c = search (rules, field_end)
