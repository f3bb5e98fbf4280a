use Rattle.std.proofs.Common.{rules}
use Rattle.correcting.specs.Find.{find-broken, find-last, find-start, find-in, find-next, find-fits}
use Rattle.correcting.proofs.find_value.Goals as goal

pub loop-j-init : goal.loop-j-init
loop-j-init c = (search rules, search rules, search find-start)

pub returns-in_default : goal.returns-in_default
returns-in_default c = find-broken c.args.forms.now c.args.p.now c.args.s.now c.args.c c.args.at c.loop-j.i c.loop-j.j c.loop-j.invariant.2 _ c.walk_column.ensures (search rules) c.requires.0 _ c.in_default.is

pub overflow_add-i : goal.overflow_add-i
overflow_add-i c = search find-fits

pub loop-j-preserved : goal.loop-j-preserved
loop-j-preserved c = (search find-in, search rules, search find-next)

pub returns : goal.returns
returns c = search find-last
