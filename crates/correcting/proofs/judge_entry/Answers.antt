use Rattle.correcting.specs.Cases.{entries}
use Rattle.correcting.proofs.judge_entry.Goals as goal

pub returns-in_default : goal.returns-in_default
returns-in_default c = search entries

pub returns-then-w-value : goal.returns-then-w-value
returns-then-w-value c = search entries

pub returns-then-there : goal.returns-then-there
returns-then-there c = search entries

pub returns-then-is_key : goal.returns-then-is_key
returns-then-is_key c = search entries

pub returns : goal.returns
returns c = search entries
