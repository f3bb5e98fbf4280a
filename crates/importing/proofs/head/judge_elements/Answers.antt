use Rattle.std.proofs.Common.{arith, ◌≡◌, ◌-◌, ◌+◌, ◌<◌}
use Rattle.answers.specs.Verdict.{passed-on}
use Rattle.importing.specs.HeadCases.{elements-refused, elements-within, elements-next}
use Rattle.importing.proofs.head.judge_elements.Goals as goal

pub returns-in_err-judge_room : goal.returns-in_err-judge_room
returns-in_err-judge_room c =
    let h : 0 < c.args.count - c.loop.counter = omega arith in
    passed-on _ c.from_residual.ensures.1
    (elements-refused _ _ _ _ _ _ _ c.loop.invariant.1 c.requires c.loop.invariant.0 h _ c.walk_value.ensures _
    c.in-Ok.is _ c.judge_room.ensures _ c.in_err-judge_room.was)

pub loop-preserved : goal.loop-preserved
loop-preserved c =
    let h : 0 < c.args.count - c.loop.counter = omega arith in
    let e : c.args.count - (c.loop.counter + 1) ≡ c.args.count - c.loop.counter - 1 = omega arith in (
      elements-within _ _ _ _ _ _ _ c.loop.invariant.1 c.requires c.loop.invariant.0 h _ c.walk_value.ensures _ c.in-Ok.is
          _ c.judge_room.ensures,
      rw e
          (elements-next _ _ _ _ _ _ _ c.loop.invariant.1 c.requires c.loop.invariant.0 h _ c.walk_value.ensures _
          c.in-Ok.is _ c.judge_room.ensures c.in_ok-judge_room.was),
    )
