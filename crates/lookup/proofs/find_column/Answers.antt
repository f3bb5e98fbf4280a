use Rattle.std.proofs.Common.{◌∙◌, rules, tests}
use Rattle.std.proofs.lemmas.Iterator.{YieldsList-from_slice}
use Rattle.std.proofs.lemmas.Iterator.Search.{position_from_yields_List}
use Rattle.std.specs.Prelude.{eqb}
use Rattle.lookup.specs.Cases.{column-found}
use Rattle.lookup.proofs.find_column.Goals as goal

pub returns : goal.returns
returns c =
    position_from_yields_List (eqb c.args.tag) _ _ c.position.result c.position.ensures.ran
    (YieldsList-from_slice c.args.tags.now cc) (λ x b q k. search (rules, tests))
    ∙ column-found c.args.tag c.args.tags.now
