use Rattle.std.proofs.Common.{rules, tests, ◌∙◌, sym}
use Rattle.std.proofs.lemmas.Iterator.{YieldsList-from_slice}
use Rattle.std.proofs.lemmas.Iterator.Search.{any_from_yields_List}
use Rattle.sheet.specs.Field.{is_mark}
use Rattle.exporting.specs.FieldCases.{marks_each}
use Rattle.exporting.proofs.strings.has_mark.Goals as goal

pub returns : goal.returns
returns c =
    any_from_yields_List is_mark _ _ c.any.result c.any.ensures.ran (YieldsList-from_slice c.args.s.now cc)
    (λ x b q k. search (rules, tests)) ∙ sym (marks_each c.args.s.now)
