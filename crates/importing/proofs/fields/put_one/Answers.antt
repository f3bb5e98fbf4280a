use Rattle.std.proofs.Common.{rules}
use Rattle.importing.specs.FieldCases.{put_one}
use Rattle.importing.proofs.fields.put_one.Goals as goal

pub returns-then-unread : goal.returns-then-unread
returns-then-unread c = search (rules, put_one)

pub bounds-out-at : goal.bounds-out-at
bounds-out-at c = search (rules, put_one)

pub returns : goal.returns
returns c = search (rules, put_one)
