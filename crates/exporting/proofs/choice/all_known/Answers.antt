use Rattle.std.proofs.Common.{rules, ◌∙◌, sym}
use Rattle.std.proofs.lemmas.Iterator.{YieldsList-from_slice}
use Rattle.std.proofs.lemmas.Iterator.Search.{all_from_yields_List}
use Rattle.table.specs.Found.{is_found}
use Rattle.lookup.specs.Look.{column_in}
use Rattle.exporting.specs.ChoiceCases.{known_each, some-found}
use Rattle.exporting.proofs.choice.all_known.Goals as goal

pub returns : goal.returns
returns c =
    all_from_yields_List (λ t. is_found (column_in t c.args.cols.now)) _ _ c.all.result c.all.ensures.ran
    (YieldsList-from_slice c.args.tags.now cc) (λ x b q k. search (rules, some-found))
    ∙ sym (known_each c.args.cols.now c.args.tags.now)
