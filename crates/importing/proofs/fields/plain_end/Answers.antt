use Rattle.std.proofs.Common.{rules, tests, ◌-◌, length, take, drop}
use Rattle.std.proofs.lemmas.Iterator.{YieldsList-from_slice}
use Rattle.std.proofs.lemmas.Iterator.Search.{position_from_yields_List}
use Rattle.sheet.specs.Field.{is_mark}
use Rattle.importing.specs.FieldCases.{plain_from}
use Rattle.importing.proofs.fields.plain_end.Goals as goal

pub returns : goal.returns
returns c =
    let s = c.args.s.now in
    let at = c.args.at in
    plain_from s at c.requires c.position.result c.unwrap_or.result c.unwrap_or.ensures
    (position_from_yields_List is_mark _ _ c.position.result c.position.ensures.ran
    (YieldsList-from_slice (take (length s - at) (drop at s)) cc) (λ x b q k. search (rules, tests)))
