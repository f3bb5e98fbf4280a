-- A refused call changes nothing: where the answer isn't 0, the number behind the place is 0, and every octet of the
-- buffer stays.
use Rattle.std.specs.Prelude.{ℕ, List}
use Rattle.std.proofs.Math.Option.{Option}
use Rattle.lookup.specs.declared.Which.{Which}
use Rattle.correcting.specs.Correct.{set_at, set_answer, set_octets, insert_at, insert_answer, insert_octets}
use Rattle.correcting.specs.Correct.{delete_at, delete_answer, delete_octets}
use Rattle.face_reading.specs.Refused.{Stays, stays}

module _ (d : List ℕ) (len : ℕ) where
  -- a set, and a clear, which offers nothing
  pub refused-set : (which : Which) (t : ℕ) (e : Option (List ℕ))
      → Stays (set_answer d len which t e) d (set_octets d len which t e)
  unfolding set_answer set_octets
  refused-set which t e = stays (set_at d len which t e) _ d _

  pub refused-insert : (k : ℕ) (new : List ℕ) → Stays (insert_answer d len k new) d (insert_octets d len k new)
  unfolding insert_answer insert_octets
  refused-insert k new = stays (insert_at d len k new) _ d _

  pub refused-delete : (k : ℕ) → Stays (delete_answer d len k) d (delete_octets d len k)
  unfolding delete_answer delete_octets
  refused-delete k = stays (delete_at d len k) _ d _
