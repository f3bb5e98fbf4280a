use Rattle.std.proofs.Common.{length, ◌-◌, ◌≤◌, ◌<◌, false, ◌≡◌}
use Rattle.table.specs.Repeat.{same_tag, earlier}
use Rattle.table.specs.First.{first, any}
use mathlib.Core.Option.{none}
use Rattle.table.proofs.repeat.first_repeat.Given as goal

abbrev pub invariant-loop-j : goal.invariant-loop-j
invariant-loop-j l = (l.i < length l.tags) × (l.j ≤ l.i) × (any (same_tag l.tags l.i) l.j ≡ false) × (first (earlier l.tags) l.i ≡ none)

abbrev pub invariant-rows : goal.invariant-rows
invariant-rows l = (l.i ≤ length l.tags) × (first (earlier l.tags) l.i ≡ none)

abbrev pub decreases-rows : goal.decreases-rows
decreases-rows l = length l.tags - l.i
