-- The ways of the code: a law for each way out of a function, on plain values.
use Rattle.std.specs.Prelude.{Ok, Err, ℕ, ◌≤◌, ◌<◌, ◌≡◌, List, get_or, set}
use borrow.Author.Tests.{lt-ltb, le-ltb}
use Rattle.answers.specs.declared.Refusal.{Refusal}
use Rattle.writing.specs.declared.Writing.{Writing}
use Rattle.writing.specs.declared.Outcome.{Outcome}
use Rattle.face_writing.specs.Calling.{form_from, stage_from, state_of, fields_of, outcome_number, state_left}

-- ---- the state of a writing

pub form-wide : (f : ℕ) → 255 < f → 0 ≡ form_from f
unfolding form_from
form-wide f h = rw (lt-ltb 255 f h)

pub form-octet : (f : ℕ) → f ≤ 255 → f ≡ form_from f
unfolding form_from
form-octet f h = rw (le-ltb 255 f h)

module _ (f s : ℕ) where
  pub stage-formless : 255 < f → 2 ≡ stage_from f s
  unfolding stage_from
  stage-formless h = rw (lt-ltb 255 f h)

  pub stage-wide : f ≤ 255 → 255 < s → 2 ≡ stage_from f s
  unfolding stage_from
  stage-wide h k = rw (le-ltb 255 f h, lt-ltb 255 s k)

  pub stage-octet : f ≤ 255 → s ≤ 255 → s ≡ stage_from f s
  unfolding stage_from
  stage-octet h k = rw (le-ltb 255 f h, le-ltb 255 s k)

pub ruleset fields = (form-wide, form-octet, stage-formless, stage-wide, stage-octet)

pub taken-up : (xs : List ℕ) (f g : ℕ) → f ≡ form_from (get_or xs 8 0) → g ≡ stage_from (get_or xs 8 0) (get_or xs 9 0)
    → ◌≡◌ {A = Writing} (record {
      written = get_or xs 1 0;
      header = get_or xs 2 0;
      address = get_or xs 3 0;
      opened = get_or xs 4 0;
      start = get_or xs 5 0;
      next = get_or xs 6 0;
      left = get_or xs 7 0;
      form = f;
      stage = g;
    }) (state_of xs)
unfolding state_of
taken-up xs f g p q = rw (p, q)

-- ---- what a call leaves

module _ (o : Outcome) where
  pub number-done : (n : ℕ) → o.answer ≡ Ok n → 0 ≡ outcome_number o
  unfolding outcome_number
  number-done n q = rw q

  pub number-refused : (r : Refusal) → o.answer ≡ Err r → r.number ≡ outcome_number o
  unfolding outcome_number
  number-refused r q = rw q

  pub left-done : (xs d : List ℕ) (n : ℕ) → o.answer ≡ Ok n → d ≡ fields_of o.state → d ≡ state_left xs o
  unfolding state_left
  left-done xs d n q e = rw q e

  pub left-refused : (xs : List ℕ) (r : Refusal) → o.answer ≡ Err r → set xs 0 r.place ≡ state_left xs o
  unfolding state_left
  left-refused xs r q = rw q
