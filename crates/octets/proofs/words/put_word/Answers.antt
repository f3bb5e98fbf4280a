use Rattle.std.proofs.Common.{rules}
use Rattle.octets.specs.Word.{puts}
use Rattle.octets.specs.Stores.{part_word}
use Rattle.octets.proofs.words.put_word.Goals as goal

pub returns-then-i-d : goal.returns-then-i-d
returns-then-i-d c = search (rules, part_word)

pub returns-else-n-d : goal.returns-else-n-d
returns-else-n-d c = search (rules, puts)
