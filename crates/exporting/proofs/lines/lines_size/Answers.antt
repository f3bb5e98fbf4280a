use Rattle.std.proofs.Common.{rules, arith, ◌≡◌, ◌-◌, ◌+◌, ◌≤◌, ◌<◌}
use Rattle.exporting.specs.RecordCases.{lines-size-step, lines-size-end}
use Rattle.exporting.proofs.lines.lines_size.Goals as goal

pub loop-preserved : goal.loop-preserved
loop-preserved c =
    let h : 0 < c.args.j.now.count - c.loop.counter = omega arith in
    let e : c.args.j.now.count - (c.loop.counter + 1) ≡ c.args.j.now.count - c.loop.counter - 1 = omega arith in (
      search rules,
      search rules,
      search rules,
      rw e
          (lines-size-step _ _ _ _ _ _ _ _ _ c.loop.invariant.3 _ _ _ h (search rules) (search rules) (search rules)),
    )

pub returns : goal.returns
returns c =
    let z : c.args.j.now.count - c.loop.counter ≤ 0 = omega arith in
    (rw c.forms-forms.ensures at (lines-size-end _ _ _ _ _ _ _ _ _ c.loop.invariant.3 z), search rules)
