use Rattle.inserting.specs.Cases.{offered-broken, offered-head, offered-key, offered-good, offered-longer}
use Rattle.inserting.proofs.judge_offered.Goals as goal

pub returns-in_default : goal.returns-in_default
returns-in_default c = search offered-broken

pub slice_bounds-keys_held-end : goal.slice_bounds-keys_held-end
slice_bounds-keys_held-end c = search offered-head

pub returns-then-keys_held : goal.returns-then-keys_held
returns-then-keys_held c = search offered-good

pub returns-then-word32-new : goal.returns-then-word32-new
returns-then-word32-new c = search offered-key

pub returns : goal.returns
returns c = search offered-longer
