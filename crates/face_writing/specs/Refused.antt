-- A refused call changes nothing: where the answer isn't 0, the place alone of the ten numbers is another, and every
-- octet of the buffer stays.
use Rattle.std.specs.Prelude.{Ok, ℕ, ◌≡◌, refl, List, [], ◌∷◌, drop, set}
use Rattle.answers.specs.Verdict.{Verdict}
use Rattle.answers.specs.Verdict.{Refused}
use Rattle.answers.specs.Verdict.{kept}
use Rattle.writing.specs.declared.Writing.{Writing}
use Rattle.writing.specs.declared.Outcome.{Outcome}
use Rattle.writing.specs.State.{settled}
use Rattle.framing.specs.Frame.{open_at, open_outcome, open_octets, close_at, close_outcome, close_octets, finish_at}
use Rattle.framing.specs.Frame.{finish_outcome, finish_octets}
use Rattle.giving.specs.Give.{Given, give_at, give_outcome, give_octets, element_at, element_outcome, element_octets}
use Rattle.begin.specs.Begin.{begin_at, begin_outcome, begin_octets}
use Rattle.face_writing.specs.Calling.{state_of, outcome_number, state_left}

-- a call on the numbers xs and the buffer d, which leaves the buffer e
abbrev pub Stays : List ℕ → Outcome → List ℕ → List ℕ → Type 0
Stays xs o d e = (outcome_number o ≡ 0 → ⊥) → (drop 1 (state_left xs o) ≡ drop 1 xs) × (e ≡ d)

behind-place : (xs : List ℕ) (p : ℕ) → drop 1 (set xs 0 p) ≡ drop 1 xs
behind-place [] p = refl
behind-place (x ∷ xs) p = refl

-- every call is settled by a verdict
stays : (xs : List ℕ) (v : Verdict) (before next : Writing) (d new : List ℕ)
    → Stays xs (settled v before next) d (kept v d new)
unfolding outcome_number state_left
stays xs (Ok _) before next d new n = absurd (n refl)
stays xs (Refused r) before next d new n = (behind-place xs r.place, refl)

module _ (xs d : List ℕ) where
  pub refused-begin : (ht hf ts fs : List ℕ)
      → Stays xs (begin_outcome (state_of xs) ht hf ts fs d) d (begin_octets ht hf ts fs d)
  unfolding begin_outcome begin_octets
  refused-begin ht hf ts fs = stays xs (begin_at ht hf ts fs _) _ _ d _

  pub refused-open : Stays xs (open_outcome (state_of xs) d) d (open_octets (state_of xs) d)
  unfolding open_outcome open_octets
  refused-open = stays xs (open_at (state_of xs) _) _ _ d _

  pub refused-give : (t : ℕ) (v : Given) → Stays xs (give_outcome (state_of xs) d t v) d (give_octets (state_of xs) d t v)
  unfolding give_outcome give_octets
  refused-give t v = stays xs (give_at (state_of xs) d t v) _ _ d _

  pub refused-add : (v : Given) → Stays xs (element_outcome (state_of xs) d v) d (element_octets (state_of xs) d v)
  unfolding element_outcome element_octets
  refused-add v = stays xs (element_at (state_of xs) d v) _ _ d _

  pub refused-close : Stays xs (close_outcome (state_of xs) d) d (close_octets (state_of xs) d)
  unfolding close_outcome close_octets
  refused-close = stays xs (close_at (state_of xs) d) _ _ d _

  pub refused-finish : Stays xs (finish_outcome (state_of xs) d) d (finish_octets (state_of xs) d)
  unfolding finish_outcome finish_octets
  refused-finish = stays xs (finish_at (state_of xs) _) _ _ d _
