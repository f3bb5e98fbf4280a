use Rattle.text.specs.Cases.{chars-all, chars-empty}
use Rattle.text.proofs.is_utf8.Goals as goal

pub returns-then-s-eq0 : goal.returns-then-s-eq0
returns-then-s-eq0 c = search chars-empty

pub returns : goal.returns
returns c = chars-all _ _ c.chars.ensures.to c.chars.ensures.stop c.if-s-eq0.false
