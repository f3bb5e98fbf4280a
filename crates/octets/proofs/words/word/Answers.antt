use Rattle.std.proofs.Common.{rules, arith}
use Rattle.octets.specs.Word.{words, word_in, word_rest}
use Rattle.octets.proofs.words.word.Goals as goal

pub returns-then-s-i : goal.returns-then-s-i
returns-then-s-i c = word_rest _ c.args.n c.args.s.now c.args.i (omega arith) (omega arith) c.get.ensures.0 c.get.ensures.1

pub returns-else-s-i : goal.returns-else-s-i
returns-else-s-i c = search (rules, word_in)

pub returns-else-n-le8 : goal.returns-else-n-le8
returns-else-n-le8 c = search (rules, words)
