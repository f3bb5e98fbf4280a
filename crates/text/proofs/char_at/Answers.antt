use Rattle.std.proofs.Common.{rules}
use Rattle.text.specs.Cases.{ascii, whole}
use Rattle.text.proofs.char_at.Goals as goal

pub returns-then-a-lt128 : goal.returns-then-a-lt128
returns-then-a-lt128 c = (search ascii, search rules)

pub returns : goal.returns
returns c = (search whole, search rules)
