use Rattle.correcting.specs.Cases.{in-none, in-column, column-there, stands-there}
use Rattle.correcting.proofs.plan_in.Goals as goal

pub returns-in_default : goal.returns-in_default
returns-in_default c = search in-none

pub plan_column-requires : goal.plan_column-requires
plan_column-requires c = (
  column-there _ _ _ _ _ _ _ c.tags.ensures c.forms-forms.ensures _ c.find_column.ensures c.in-Some.is c.requires.0 c.requires.1,
  stands-there _ _ _ _ _ c.forms-forms.ensures c.requires.1 c.requires.3,
  c.requires.5,
  c.requires.4,
)

pub returns : goal.returns
returns c = search in-column
