use Rattle.std.proofs.Common.{rules, arith, ◌≡◌, ◌-◌, ◌+◌, ◌<◌}
use Rattle.exporting.specs.RecordCases.{lines-kept, lines_rest, lines_step}
use Rattle.exporting.proofs.lines.put_lines.Goals as goal

pub loop-preserved : goal.loop-preserved
loop-preserved c =
    let h : 0 < c.args.j.now.count - c.loop.counter = omega arith in
    let e : c.args.j.now.count - (c.loop.counter + 1) ≡ c.args.j.now.count - c.loop.counter - 1 = omega arith in
    let room = rw (← c.forms-forms.ensures) at c.requires.2 in
    let r = c.loop.invariant.3 in (
      search rules,
      search rules,
      search lines-kept,
      rw e (lines_rest _ _ _ _ _ _ _ _ _ r h _ (search rules) _ (search rules) _ (search rules)),
      rw e
          (lines_step _ _ _ _ _ _ _ _ _ _ _ _ c.loop.invariant.4 r c.loop.invariant.2 room h _ (search rules) _
          (search rules) _ (search rules) _ (search rules)),
    )
