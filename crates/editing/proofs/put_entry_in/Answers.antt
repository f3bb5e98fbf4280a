use Rattle.editing.specs.InPlace.{entry-is}
use Rattle.editing.proofs.put_entry_in.Goals as goal

pub returns : goal.returns
returns c = let p = c.requires in entry-is _ _ _ _ _ _ _ _ _ _ c.args.there p.0 p.1 p.2 p.3 p.4 p.5 p.6 c.word32-size.ensures c.octets_for.ensures _ _ _ _ _ c.replace.ensures c.mark.ensures c.put_word.ensures c.reseal.ensures
