use Rattle.std.proofs.Common.{length, take, drop, ◌≡◌, ◌-◌}
use Rattle.octets.specs.Word.{le_of}
use Rattle.octets.proofs.words.put.Given as goal

abbrev pub invariant-loop-b : goal.invariant-loop-b
invariant-loop-b l =
    (take l.b-index l.d ≡ take l.b-index (le_of (length l.initial.d) l.v))
    × (le_of (length l.initial.d - l.b-index) l.x ≡ drop l.b-index (le_of (length l.initial.d) l.v))
