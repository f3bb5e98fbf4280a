use Rattle.std.proofs.Common.{rules}
use Rattle.reason.specs.Cases.{others, other-places}
use Rattle.reason.proofs.other_type.Goals as goal

pub returns-in_default : goal.returns-in_default
returns-in_default c = search others

pub offset_bounds-tags-i : goal.offset_bounds-tags-i
offset_bounds-tags-i c = search (rules, other-places)

pub bounds-tags-i : goal.bounds-tags-i
bounds-tags-i c = search other-places

pub overflow_mul-result : goal.overflow_mul-result
overflow_mul-result c = search other-places

pub overflow_add-result : goal.overflow_add-result
overflow_add-result c = search other-places

pub returns : goal.returns
returns c = search others
