use Rattle.std.proofs.Common.{◌∙◌}
use Rattle.reason.specs.Cases.{absences}
use Rattle.reason.proofs.why_absent.Goals as goal

pub returns-then-value-gt0 : goal.returns-then-value-gt0
returns-then-value-gt0 c = c.refuse.ensures ∙ search absences

pub returns-then-is_listed : goal.returns-then-is_listed
returns-then-is_listed c = search absences

pub returns : goal.returns
returns c = search absences
