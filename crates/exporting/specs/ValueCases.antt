-- The ways of the code that measures and writes the field of a value, on plain values.
use Rattle.std.specs.Prelude.{ℕ, ◌+◌, ◌-◌, ◌^◌, ◌≤◌, ◌<◌, ◌≡◌, refl, Bool, true, false, cond, List, [], ◌∷◌, eqb, length, take, get_or, set}
use Rattle.std.proofs.Common.{arith, add-zero, sym, lt-ltb, le-ltb, ne_eqb}
use Rattle.std.proofs.Math.Nat.{sub-zero}
use Rattle.octets.specs.Splice.{splice, splice-nil}
use Rattle.whole.specs.Number.{Number}
use Rattle.whole.specs.Number.{Some, Broken}
use Rattle.whole.specs.Number.{number_of}
use Rattle.sheet.specs.Digits.{digits_of, places_of, decimal, places-some, decimal-long}
use Rattle.sheet.specs.Field.{is_mark, marked, spelt, whole_in, content_of}
use Rattle.sheet.specs.Marks.{decimal-plain, spelt-none, spelt-plain}
use Rattle.exporting.specs.Steps.{field_for}
use Rattle.octets.specs.Stores.{splice-one}

-- ---- the field of a value

field-none : (code : ℕ) (v : List ℕ) → length v < 1 → field_for code v ≡ []
unfolding field_for content_of
field-none code v h = rw (lt-ltb (length v) 1 h) spelt-none

field-number : (code : ℕ) (v : List ℕ) → code ≡ 3 → 1 ≤ length v → field_for code v ≡ decimal (whole_in v)
unfolding field_for content_of
field-number code v e h = rw (le-ltb (length v) 1 h, e) (spelt-plain (decimal (whole_in v)) (decimal-plain (whole_in v)))

truth-plain : (b : Bool) → spelt (cond b 48 49 ∷ []) ≡ cond b 48 49 ∷ []
unfolding spelt marked is_mark
truth-plain true = refl
truth-plain false = refl

field-truth : (code : ℕ) (v : List ℕ) → code ≡ 11 → 1 ≤ length v
    → field_for code v ≡ cond (eqb (get_or v 0 0) 0) 48 49 ∷ []
unfolding field_for content_of
field-truth code v e h = rw (le-ltb (length v) 1 h, e) (truth-plain (eqb (get_or v 0 0) 0))

field-string : (code : ℕ) (v : List ℕ) → (code ≡ 3 → ⊥) → (code ≡ 11 → ⊥) → 1 ≤ length v
    → field_for code v ≡ spelt (take (length v - 1 - 0) v)
unfolding field_for content_of
field-string code v e f h = rw (le-ltb (length v) 1 h, ne_eqb code 3 e, ne_eqb code 11 f, sub-zero (length v - 1))

-- ---- the number that a value says

pub number-says : (r : Number) (v : List ℕ) (n w : ℕ) → r ≡ Some (n, w) → r ≡ number_of v → n ≡ whole_in v
number-says r v n w e q = rw (← q, e)

pub number-none : (r : Number) (v : List ℕ) → r ≡ Broken → r ≡ number_of v → 0 ≡ whole_in v
number-none r v e q = rw (← q, e)

pub ruleset number_cases = (number-says, number-none)

pub truth-zero : (x : ℕ) → x ≡ 0 → ◌≡◌ {A = ℕ} 48 (cond (eqb x 0) 48 49)
truth-zero x e = rw e

pub truth-one : (x : ℕ) → (x ≡ 0 → ⊥) → ◌≡◌ {A = ℕ} 49 (cond (eqb x 0) 48 49)
truth-one x e = rw (ne_eqb x 0 e)

pub ruleset truth_cases = (truth-zero, truth-one)

-- ---- its size

module _ (code : ℕ) (v : List ℕ) where
  pub size_none : length v < 1 → 0 ≡ length (field_for code v)
  size_none h = rw (field-none code v h)

  module _ (h : 1 ≤ length v) where
    pub size_number : (r n : ℕ) → code ≡ 3 → r ≡ places_of n → n ≡ whole_in v → r ≡ length (field_for code v)
    size_number r n e p q = rw (field-number code v e h, decimal-long (whole_in v), ← q) p

    pub size-truth : code ≡ 11 → 1 ≡ length (field_for code v)
    size-truth e = rw (field-truth code v e h)

    pub size-string : (r : ℕ) → (code ≡ 3 → ⊥) → (code ≡ 11 → ⊥) → r ≡ length (spelt (take (length v - 1 - 0) v))
        → r ≡ length (field_for code v)
    size-string r e f q = rw (field-string code v e f h) q

pub size_few : (r n : ℕ) → r ≡ places_of n → n < 2 ^ 32 → r < 2 ^ 34
size_few r n e h = let p = places-some n in omega (arith, p.1)

pub ruleset size_cases = (size_none, size_number, size-truth, size-string, size_few)

-- ---- its octets

pub number_fits : (d : List ℕ) (at n k : ℕ) → k ≡ places_of n → at + places_of n ≤ length d → at + k ≤ length d
number_fits d at n k e h = rw e h

pub number_put : (d out : List ℕ) (at n k : ℕ) → k ≡ places_of n → out ≡ splice d at (digits_of 10 k n)
    → out ≡ splice d at (decimal n)
unfolding decimal
number_put d out at n k e q = rw e at q

pub number_at : (at n k : ℕ) → k ≡ places_of n → at + k ≡ at + places_of n
number_at at n k e = rw e

pub ruleset number_puts = (number_fits, number_put, number_at)

module _ (d : List ℕ) (at code : ℕ) (v : List ℕ) where
  pub put-none : length v < 1 → d ≡ splice d at (field_for code v)
  put-none h = rw (field-none code v h) (sym (splice-nil d at))

  pub put-none-at : length v < 1 → at ≡ at + length (field_for code v)
  put-none-at h = rw (field-none code v h) (sym (add-zero at))

  module _ (h : 1 ≤ length v) where
    pub put-number-room : (n : ℕ) → code ≡ 3 → n ≡ whole_in v → at + length (field_for code v) ≤ length d
        → at + places_of n ≤ length d
    put-number-room n e q l = rw (field-number code v e h, decimal-long (whole_in v), ← q) at l

    pub put-number-at : (r n : ℕ) → code ≡ 3 → n ≡ whole_in v → r ≡ at + places_of n → r ≡ at + length (field_for code v)
    put-number-at r n e q p = rw (field-number code v e h, decimal-long (whole_in v), ← q) p

    pub put-number : (out : List ℕ) (n : ℕ) → code ≡ 3 → n ≡ whole_in v → out ≡ splice d at (decimal n)
        → out ≡ splice d at (field_for code v)
    put-number out n e q p = rw (field-number code v e h, ← q) p

    pub put-truth-room : code ≡ 11 → at + length (field_for code v) ≤ length d → at < length d
    put-truth-room e l = let y = rw (field-truth code v e h) at l in omega arith

    pub put-truth-at : code ≡ 11 → at + 1 ≡ at + length (field_for code v)
    put-truth-at e = rw (field-truth code v e h)

    pub put-truth : (r : ℕ) → code ≡ 11 → r ≡ cond (eqb (get_or v 0 0) 0) 48 49 → at + length (field_for code v) ≤ length d
        → set d at r ≡ splice d at (field_for code v)
    put-truth r e q l = rw (field-truth code v e h, ← q) (splice-one d at r (put-truth-room e l))

    pub put-string-room : (code ≡ 3 → ⊥) → (code ≡ 11 → ⊥) → at + length (field_for code v) ≤ length d
        → at + length (spelt (take (length v - 1 - 0) v)) ≤ length d
    put-string-room e f l = rw (field-string code v e f h) at l

    pub put-string-at : (r : ℕ) → (code ≡ 3 → ⊥) → (code ≡ 11 → ⊥) → r ≡ at + length (spelt (take (length v - 1 - 0) v))
        → r ≡ at + length (field_for code v)
    put-string-at r e f q = rw (field-string code v e f h) q

    pub put-string : (out : List ℕ) → (code ≡ 3 → ⊥) → (code ≡ 11 → ⊥)
        → out ≡ splice d at (spelt (take (length v - 1 - 0) v)) → out ≡ splice d at (field_for code v)
    put-string out e f q = rw (field-string code v e f h) q

pub ruleset put_cases = (
  put-none,
  put-none-at,
  put-number-room,
  put-number-at,
  put-number,
  put-truth-room,
  put-truth-at,
  put-truth,
  put-string-room,
  put-string-at,
  put-string,
)
