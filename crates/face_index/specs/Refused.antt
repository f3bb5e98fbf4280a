-- A refused call changes nothing: where the answer isn't 0, every number behind the place is 0, and every octet of the
-- buffer stays. For the lookup this is `refused-lookup` of face_reading.
use Rattle.std.specs.Prelude.{Ok, Err, ℕ, ◌≡◌, refl, List, drop, replicate}
use Rattle.lookup.specs.Looked.{Placed}
use Rattle.index.specs.Index.{make_at, make_answer, make_octets}
use Rattle.face_reading.specs.Refused.{Stays, stays}
use Rattle.face_index.specs.Placing.{placed_number, placed_numbers}

pub refused-index : (xs d : List ℕ) → Stays (make_answer xs d) d (make_octets xs d)
unfolding make_answer make_octets
refused-index xs d = stays (make_at xs d) _ d _

pub refused-entry : (p : Placed) → (placed_number p ≡ 0 → ⊥) → drop 1 (placed_numbers p) ≡ replicate 1 0
refused-entry (Ok n) z = absurd (z refl)
refused-entry (Err r) z = refl
