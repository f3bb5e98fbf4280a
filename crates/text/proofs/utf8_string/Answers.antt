use Rattle.text.specs.Cases.{ends}
use Rattle.text.proofs.utf8_string.Goals as goal

pub returns-then-s-i : goal.returns-then-s-i
returns-then-s-i c = search (ends, c.chars-i.ensures.to)

pub returns-then-s-i-ne0 : goal.returns-then-s-i-ne0
returns-then-s-i-ne0 c = search (ends, c.chars-i.ensures.to, c.chars-i.ensures.stop)

pub returns-then-i-eq0 : goal.returns-then-i-eq0
returns-then-i-eq0 c = search (ends, c.chars-i.ensures.to)

pub returns : goal.returns
returns c = search (ends, c.chars-i.ensures.to)
