use Rattle.std.proofs.Common.{◌∙◌, rules, tests}
use Rattle.std.proofs.lemmas.Iterator.{YieldsList-from_slice}
use Rattle.std.proofs.lemmas.Iterator.Search.{position_from_yields_List}
use Rattle.std.specs.Prelude.{eqb}
use Rattle.reason.specs.Why.{upper}
use Rattle.reason.specs.Cases.{half-found}
use Rattle.reason.proofs.find_half.Goals as goal

pub returns : goal.returns
returns c =
    position_from_yields_List (λ x. eqb (upper c.args.tag) (upper x)) _ _ c.position.result c.position.ensures.ran
    (YieldsList-from_slice c.args.tags.now cc) (λ x b q k. search (rules, tests))
    ∙ half-found c.args.tag c.args.tags.now
