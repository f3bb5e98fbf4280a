use Rattle.std.proofs.Common.{rules, tests}
use Rattle.std.proofs.lemmas.Iterator.Adapters.{YieldsList-from_rev_slice}
use Rattle.std.proofs.lemmas.Iterator.Consumers.{fold_from_yields_List}
use Rattle.octets.specs.Word.{taken_in, get_all}
use Rattle.octets.proofs.words.get.Goals as goal

pub returns : goal.returns
returns c =
    get_all _ _ (fold_from_yields_List _ taken_in _ _ c.fold.ensures.ran (YieldsList-from_rev_slice c.args.s.now (cc)) (λ a x b q k. search (rules, tests))) c.requires
    c.type_inv.s
