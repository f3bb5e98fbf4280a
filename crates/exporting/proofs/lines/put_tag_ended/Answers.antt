use Rattle.std.proofs.Common.{rules}
use Rattle.exporting.specs.LineCases.{ended_cases, tag-long, tag-ended-room}
use Rattle.exporting.proofs.lines.put_tag_ended.Goals as goal

pub put_tag-k-requires : goal.put_tag-k-requires
put_tag-k-requires c = search (rules, ended_cases, tag-long, tag-ended-room)

pub bounds-out-k : goal.bounds-out-k
bounds-out-k c = search (rules, ended_cases, tag-long, tag-ended-room)

pub returns : goal.returns
returns c = search (rules, ended_cases, tag-long, tag-ended-room)
