use Rattle.std.proofs.Common.{rules}
use Rattle.exporting.specs.LineCases.{put_ended}
use Rattle.exporting.proofs.lines.put_ended.Goals as goal

pub put_chosen-k-requires : goal.put_chosen-k-requires
put_chosen-k-requires c = search (rules, put_ended)

pub bounds-out-k : goal.bounds-out-k
bounds-out-k c = search (rules, put_ended)

pub overflow_add-result : goal.overflow_add-result
overflow_add-result c = search (rules, put_ended)

pub returns : goal.returns
returns c = search (rules, put_ended)
