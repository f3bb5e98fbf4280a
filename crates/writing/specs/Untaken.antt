-- States that no call but begin takes up in a buffer of n octets (decision 13): those after the finish, and those whose
-- written octets the buffer can't hold.
use Rattle.std.specs.Prelude.{ℕ, ◌<◌, ◌≡◌, refl, Bool, true, false, cond, eqb}
use Rattle.std.proofs.Common.{lt-ltb, ne_eqb}
use Rattle.writing.specs.declared.Writing.{Writing}
use Rattle.writing.specs.State.{sane_of, idle_of, within_of, in_progress}

shut : (t x : Bool) → x ≡ false → cond t x false ≡ false
shut true x e = e
shut false x e = refl

pub ended-untaken : (st : Writing) (n : ℕ) → (st.stage ≡ in_progress → ⊥) → sane_of st n ≡ false
unfolding sane_of
ended-untaken st n h = rw (ne_eqb st.stage in_progress h)

pub short-untaken : (st : Writing) (n : ℕ) → n < st.written → sane_of st n ≡ false
unfolding sane_of
short-untaken st n h = rw (lt-ltb n st.written h) (shut (eqb st.stage in_progress) false refl)

module _ (st : Writing) (n : ℕ) (e : sane_of st n ≡ false) where
  pub untaken-idle : idle_of st n ≡ false
  unfolding idle_of
  untaken-idle = shut (eqb st.start 0) (sane_of st n) e

  pub untaken-within : within_of st n ≡ false
  unfolding within_of
  untaken-within = rw e
