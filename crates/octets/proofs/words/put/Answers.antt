use Rattle.std.proofs.Common.{rules}
use Rattle.octets.specs.Word.{put_on, put-left, put_all}
use Rattle.octets.proofs.words.put.Goals as goal

pub loop-b-preserved : goal.loop-b-preserved
loop-b-preserved c = search (rules, put_on, put-left)

pub returns : goal.returns
returns c = search (rules, put_all)
