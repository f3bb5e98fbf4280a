use Rattle.std.proofs.Common.{arith}
use Rattle.exporting.specs.FieldCases.{doubled-size-step, doubled-size-end}
use Rattle.exporting.proofs.strings.doubled_size.Goals as goal

pub loop-x-preserved : goal.loop-x-preserved
loop-x-preserved c =
    let kept = c.loop-x.invariant in
    let two = c.twice_size-k.ensures in (
      omega arith,
      doubled-size-step c.args.s.now c.loop-x.x-index c.loop-x.k kept.1 _ c.loop-x-test.true two.0,
    )

pub returns : goal.returns
returns c =
    let kept = c.loop-x.invariant in
    let asked = c.requires in
    let most = c.loop-x.auto.x-index-end in
    (doubled-size-end c.args.s.now c.loop-x.x-index c.loop-x.k kept.1 c.loop-x-test.false, omega arith)
