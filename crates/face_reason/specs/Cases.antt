-- The ways of the code: a law for each way out of a function, on plain values.
use Rattle.std.specs.Prelude.{Ok, Err, ℕ, ◌≡◌, List, [], ◌∷◌}
use Rattle.answers.specs.declared.Refusal.{Refusal}
use Rattle.reason.specs.Reply.{Reply}
use Rattle.reason.specs.declared.Reason.{Reason}
use Rattle.reason.specs.declared.Reason.TheVariants as reason
use Rattle.face_reading.specs.Lent.{place_alone}
use Rattle.face_reason.specs.Reasons.{reason_numbers}

module _ (a : Reply) where
  module _ (r : Reason) (z : a ≡ Ok r) where
    pub numbers-other : (u p : ℕ) → r ≡ reason.OtherType u p
        → ◌≡◌ {A = List ℕ} (0 ∷ 1 ∷ p ∷ u ∷ []) (reason_numbers a)
    numbers-other u p q = rw (z, q)

    pub numbers-none : r ≡ reason.NoColumn → ◌≡◌ {A = List ℕ} (0 ∷ 2 ∷ 0 ∷ 0 ∷ []) (reason_numbers a)
    numbers-none q = rw (z, q)

    pub numbers-listed : (p : ℕ) → r ≡ reason.Listed p → ◌≡◌ {A = List ℕ} (0 ∷ 3 ∷ p ∷ 0 ∷ []) (reason_numbers a)
    numbers-listed p q = rw (z, q)

    pub numbers-not-listed : (p : ℕ) → r ≡ reason.NotListed p
        → ◌≡◌ {A = List ℕ} (0 ∷ 4 ∷ p ∷ 0 ∷ []) (reason_numbers a)
    numbers-not-listed p q = rw (z, q)

  pub numbers-refused : (s : Refusal) → a ≡ Err s → place_alone 3 s ≡ reason_numbers a
  numbers-refused s q = rw q

pub ruleset numbers = (numbers-other, numbers-none, numbers-listed, numbers-not-listed, numbers-refused)
