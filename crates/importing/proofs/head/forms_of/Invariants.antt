use Rattle.std.proofs.Common.{◌≡◌, take}
use Rattle.answers.specs.Padded.{padded}
use Rattle.importing.specs.Head.{forms_for}
use Rattle.importing.proofs.head.forms_of.Given as goal

abbrev pub invariant-loop-i : goal.invariant-loop-i
invariant-loop-i l = (l.forms ≡ padded (forms_for (take l.i l.tags)))
