use Rattle.std.proofs.Common.{rules}
use Rattle.lookup.specs.Cases.{seeks, seek-start, seek-in, seek-next, seek-fits, found-fits}
use Rattle.lookup.proofs.seek_value.Goals as goal

pub returns-then-forms-c : goal.returns-then-forms-c
returns-then-forms-c c = search seeks

pub loop-j-init : goal.loop-j-init
loop-j-init c = (search rules, search rules, search seek-start)

pub returns-in_default : goal.returns-in_default
returns-in_default c = search seeks

pub overflow_add-i : goal.overflow_add-i
overflow_add-i c = search seek-fits

pub loop-j-preserved : goal.loop-j-preserved
loop-j-preserved c = (search seek-in, search rules, search seek-next)

pub returns-then-not-has : goal.returns-then-not-has
returns-then-not-has c = search seeks

pub returns-in_default-walk_value : goal.returns-in_default-walk_value
returns-in_default-walk_value c = search seeks

pub overflow_add-result-3 : goal.overflow_add-result-3
overflow_add-result-3 c = found-fits _ c.args.s.now c.args.at c.loop-j.i _ c.walk_value.ensures _ c.in-Ok-walk_value.is c.loop-j.invariant.0 c.requires

pub returns : goal.returns
returns c = search seeks
