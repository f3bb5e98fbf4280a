use Rattle.std.proofs.Common.{rules}
use Rattle.table.specs.Repeat.{repeat-here}
use Rattle.table.specs.Repeat.{repeats}
use Rattle.table.proofs.repeat.first_repeat.Goals as goal

pub loop-j-preserved : goal.loop-j-preserved
loop-j-preserved c = search (rules, repeats)

pub rows-preserved : goal.rows-preserved
rows-preserved c = search (rules, repeats)

pub returns-then-tags-i : goal.returns-then-tags-i
returns-then-tags-i c = search (rules, repeats)

pub returns-then-tags-j : goal.returns-then-tags-j
returns-then-tags-j c = repeat-here _ _ c.loop-j.invariant.3 c.loop-j.j c.if-tags-j.true (search rules) (search rules)
