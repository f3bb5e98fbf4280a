-- The ten numbers carry a writing from call to call: the next call takes up the state that a call left. Where the form
-- or the stage is no octet, and behind the finish, every call but begin is out of turn.
use Rattle.std.specs.Prelude.{Ok, ℕ, ◌≤◌, ◌<◌, ◌≡◌, refl, Bool, true, false, cond, List, [], ◌∷◌, eqb, ltb, length, get_or, set}
use Rattle.std.proofs.Common.{arith, lt-ltb, le-ltb, ne_eqb}
use Rattle.answers.specs.Numbers.{out_of_turn}
use Rattle.answers.specs.Verdict.{Verdict}
use Rattle.answers.specs.Verdict.{Refused}
use Rattle.writing.specs.declared.Writing.{Writing}
use Rattle.writing.specs.declared.Outcome.{Outcome}
use Rattle.writing.specs.State.{settled, refused_with, sane_of, idle_of, within_of}
use Rattle.writing.specs.Column.{column_for}
use Rattle.framing.specs.Frame.{open_at, open_outcome, close_at, close_outcome, finish_at, finish_next, finish_outcome}
use Rattle.giving.specs.Give.{Given, give_at, give_outcome, element_at, element_outcome}
use Rattle.face_writing.specs.Calling.{form_from, stage_from, state_of, fields_of, state_left}

-- ---- from call to call

pub back_done : (st : Writing) → st.form ≤ 255 → st.stage ≤ 255 → state_of (fields_of st) ≡ st
unfolding state_of form_from stage_from
back_done st f s = rw (le-ltb 255 st.form f, le-ltb 255 st.stage s)

pub back-refused : (xs : List ℕ) (p : ℕ) → state_of (set xs 0 p) ≡ state_of xs
unfolding state_of
back-refused [] p = refl
back-refused (x ∷ xs) p = refl

-- every call's outcome is settled by a verdict
pub carried : (xs : List ℕ) (v : Verdict) (next : Writing) → next.form ≤ 255 → next.stage ≤ 255
    → state_of (state_left xs (settled v (state_of xs) next)) ≡ (settled v (state_of xs) next).state
unfolding state_left
carried xs (Ok _) next f s = back_done next f s
carried xs (Refused r) next f s = back-refused xs r.place

-- ---- a form or a stage that is no octet; behind the finish

pub wide_form : (xs : List ℕ) → 255 < get_or xs 8 0 → (state_of xs).stage ≡ 2
unfolding state_of stage_from
wide_form xs h = rw (lt-ltb 255 (get_or xs 8 0) h)

same : (t : Bool) (x : ℕ) → cond t x x ≡ x
same true x = refl
same false x = refl

pub wide-stage : (xs : List ℕ) → 255 < get_or xs 9 0 → (state_of xs).stage ≡ 2
unfolding state_of stage_from
wide-stage xs h = rw (lt-ltb 255 (get_or xs 9 0) h) (same (ltb 255 (get_or xs 8 0)) 2)

pub behind-finish : (st : Writing) → (finish_next st).stage ≡ 0 → ⊥
behind-finish st z = omega arith

-- no call but begin takes up a state whose stage isn't 0
abbrev pub no_turn : Writing → Outcome
no_turn st = refused_with (record { number = out_of_turn; place = 0 }) st

closed : (t x : Bool) → x ≡ false → cond t x false ≡ false
closed true x e = e
closed false x e = refl

module _ (st : Writing) (z : st.stage ≡ 0 → ⊥) where
  unsane : (n : ℕ) → sane_of st n ≡ false
  unfolding sane_of
  unsane n = rw (ne_eqb st.stage 0 z)

  unidle : (n : ℕ) → idle_of st n ≡ false
  unfolding idle_of
  unidle n = closed (eqb st.start 0) (sane_of st n) (unsane n)

  outside : (n : ℕ) → within_of st n ≡ false
  unfolding within_of
  outside n = rw (unsane n)

  pub no-open : (d : List ℕ) → open_outcome st d ≡ no_turn st
  unfolding open_outcome open_at
  no-open d = rw (unidle (length d))

  pub no-close : (d : List ℕ) → close_outcome st d ≡ no_turn st
  unfolding close_outcome close_at
  no-close d = rw (outside (length d))

  pub no_finish : (d : List ℕ) → finish_outcome st d ≡ no_turn st
  unfolding finish_outcome finish_at
  no_finish d = rw (unidle (length d))

  pub no-give : (d : List ℕ) (t : ℕ) (v : Given) → give_outcome st d t v ≡ no_turn st
  unfolding give_outcome give_at column_for
  no-give d t v = rw (outside (length d))

  pub no_add : (d : List ℕ) (v : Given) → element_outcome st d v ≡ no_turn st
  unfolding element_outcome element_at
  no_add d v = rw (outside (length d))
