use Rattle.begin.specs.Cases.{head-put}
use Rattle.begin.proofs.put_head.Goals as goal

pub returns : goal.returns
returns c = head-put c.args.buf.now _ _ _ _ _ c.requires c.put_word.ensures c.put_word-2.ensures c.put_word-3.ensures c.put_word-4.ensures
