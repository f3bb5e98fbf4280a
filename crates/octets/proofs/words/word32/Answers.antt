use Rattle.std.proofs.Common.{rules}
use Rattle.octets.specs.Word.{words}
use Rattle.octets.proofs.words.word32.Goals as goal

pub returns : goal.returns
returns c = search (rules, words)
