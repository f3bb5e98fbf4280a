use Rattle.framing.specs.Cases.{opens, idle-keeps}
use Rattle.framing.proofs.judge_open.Goals as goal

pub open_size-k-requires : goal.open_size-k-requires
open_size-k-requires c = idle-keeps _ _ _ c.idle.ensures c.if-idle.true

pub returns-then-st-lt-MOST_OPENED : goal.returns-then-st-lt-MOST_OPENED
returns-then-st-lt-MOST_OPENED c = search opens

pub returns-then-idle : goal.returns-then-idle
returns-then-idle c = search opens

pub returns : goal.returns
returns c = search opens
