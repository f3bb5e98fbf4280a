use Rattle.std.proofs.Common.{rules, tests, ◌%◌, ◌∙◌, sym}
use Rattle.std.proofs.lemmas.Iterator.{YieldsList-from_slice}
use Rattle.std.proofs.lemmas.Iterator.Search.{all_from_yields_List}
use Rattle.sheet.specs.Field.{is_exported}
use Rattle.sheet.specs.Cases.{types_each}
use Rattle.sheet.proofs.types.all_exported.Goals as goal

pub returns : goal.returns
returns c =
    all_from_yields_List (λ t. is_exported (t % 65536)) _ _ c.all.result c.all.ensures.ran
    (YieldsList-from_slice c.args.tags.now cc) (λ x b q k. search (rules, tests))
    ∙ sym (types_each c.args.tags.now)
