use Rattle.entry.specs.Cases.{step-there, step-short, step-absent}
use Rattle.entry.proofs.walk_column.Goals as goal

pub returns-then-is_short : goal.returns-then-is_short
returns-then-is_short c = search step-short

pub returns-then-has : goal.returns-then-has
returns-then-has c = search step-there

pub returns : goal.returns
returns c = search step-absent
