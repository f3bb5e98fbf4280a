-- The ways of the code that judges a field, on plain values.
use Rattle.std.specs.Prelude.{ℕ, zero, suc, ◌+◌, ◌-◌, ◌*◌, ◌^◌, ◌≤◌, ◌<◌, ◌≡◌, Bool, true, false, eqb, ltb, take, drop, get_or}
use Rattle.std.proofs.Common.{mul-le-mul_right, pow-suc, sym, ap, ◌∙◌, drop_of_length-le, Fits, lt-ltb, le-ltb, ne_eqb}
use native.Mathlib.Omega.{arith}
use Rattle.std.proofs.Math.Path.{refl}
use Rattle.std.proofs.Math.Bool.{cond}
use mathlib.Core.List.{List, [], ◌∷◌, ◌++◌}
use Rattle.std.proofs.Math.ListN.{length}
use Rattle.std.specs.Int.{w8}
use Rattle.octets.specs.Octets.{Octets, octet_at, octets-from, drop-next, no-octets}
use Rattle.answers.specs.Walk.{ends_at}
use Rattle.text.specs.Utf8.{text_of}
use Rattle.sheet.specs.Digits.{number_from, number_in}
use Rattle.scanning.specs.Scan.{fits}
use Rattle.scanning.specs.Inner.{inner_of}

-- ---- numbers

grows : (a : ℕ) (ds : List ℕ) → a ≤ number_from a ds
grows a [] = omega arith
grows a (d ∷ ds) = let g = grows (a * 10 + (d - 48)) ds in omega arith

-- k octets say less than this
few-small : (k a : ℕ) (ds : List ℕ) → Octets ds → length ds ≤ k → number_from a ds + 23 ≤ (a + 23) * 10 ^ k
few-small zero a [] o h = omega arith
few-small zero a (d ∷ ds) o h = absurd (omega arith)
few-small (suc k) a [] o h =
    let p = pow-suc 10 k in
    let ih = few-small k a [] o (omega arith) in
    let e : (a + 23) * (10 ^ k * 10) ≡ (a + 23) * 10 ^ k * 10 = omega arith in
    rw p (omega arith)
few-small (suc k) a (d ∷ ds) o h =
    let p = pow-suc 10 k in
    let l = o 0 in
    let ih = few-small k (a * 10 + (d - 48)) ds (λ i. o (suc i)) (omega arith) in
    let m : (a * 10 + (d - 48) + 23) * 10 ^ k ≤ (a + 23) * 10 * 10 ^ k = mul-le-mul_right (10 ^ k) (omega arith) in
    let e : (a + 23) * (10 ^ k * 10) ≡ (a + 23) * 10 * 10 ^ k = omega arith in
    rw p (omega arith)

pub small-few : (s : List ℕ) → length s < 9 → ((i : ℕ) → Fits w8 (get_or s i 0)) → true ≡ ltb (number_in s) 4294967296
small-few s h f =
    let l = few-small 8 0 s (octets-from s f) (omega arith) in
    sym (lt-ltb (number_in s) 4294967296 (omega arith))

module _ (s : List ℕ) (i a : ℕ) (inv : number_from a (drop i s) ≡ number_in s) where
  module _ (h : i < length s) (d : ℕ) (e : d ≡ get_or s i 0 - 48) where
    pub small-next : number_from (a * 10 + d) (drop (i + 1) s) ≡ number_in s
    small-next = rw e (rw (drop-next s i h) at inv)

    pub small-not : 4294967295 < a * 10 + d → false ≡ ltb (number_in s) 4294967296
    small-not l =
        let g = grows (a * 10 + d) (drop (i + 1) s) in
        let n = small-next in
        sym (le-ltb (number_in s) 4294967296 (omega arith))

  pub small-end : length s ≤ i → a ≤ 4294967295 → true ≡ ltb (number_in s) 4294967296
  small-end h l =
      let n = rw (drop_of_length-le s {i = i} h) at inv in sym (lt-ltb (number_in s) 4294967296 (omega arith))

pub ruleset small_cases = (small-few, small-next, small-not, small-end)

-- ---- between quotes

module _ (f : List ℕ) where
  pub inner-none : length f < 1 → f ≡ inner_of f
  unfolding inner_of
  inner-none h = go f h
    where
      go : (f : List ℕ) → length f < 1 → f ≡ cond (eqb (octet_at f 0) 34) (take (length f - 2) (drop 1 f)) f
      go [] h = refl
      go (x ∷ f) h = absurd (omega arith)

  pub inner-plain : 1 ≤ length f → (get_or f 0 0 ≡ 34 → ⊥) → f ≡ inner_of f
  unfolding inner_of
  inner-plain h n = rw (ne_eqb (get_or f 0 0) 34 n)

  pub inner-one : get_or f 0 0 ≡ 34 → length f < 2 → [] ≡ inner_of f
  unfolding inner_of
  inner-one e h = let z : length f - 2 ≡ 0 = omega arith in rw (e, z)

  pub inner-quoted : get_or f 0 0 ≡ 34 → 2 ≤ length f → take (length f - 1 - 1) (drop 1 f) ≡ inner_of f
  unfolding inner_of
  inner-quoted e h = let z : length f - 1 - 1 ≡ length f - 2 = omega arith in rw (e, z)

pub ruleset inner_cases = (inner-none, inner-plain, inner-one, inner-quoted)

-- ---- a field

module _ (code : ℕ) (t : List ℕ) where
  fits-none : length t < 1 → fits code t ≡ true
  unfolding fits
  fits-none h = rw (no-octets t (omega arith))

  -- of a field that holds something
  abbrev fitting : Bool
  fitting =
      cond (eqb code 3) (ltb (number_in t) 4294967296)
      (cond (eqb code 31) (ends_at (text_of (t ++ (0 ∷ []))) (length t + 1)) true)

  fits-some : 1 ≤ length t → fits code t ≡ fitting
  unfolding fits
  fits-some h = go t h
    where
      go : (u : List ℕ) → 1 ≤ length u
          → fits code u
          ≡ cond (eqb code 3) (ltb (number_in u) 4294967296)
          (cond (eqb code 31) (ends_at (text_of (u ++ (0 ∷ []))) (length u + 1)) true)
      go [] h = absurd (omega arith)
      go (x ∷ u) h = refl

module _ (code : ℕ) (f g : List ℕ) (e : g ≡ inner_of f) where
  pub field-none : length g < 1 → true ≡ fits code (inner_of f)
  field-none h = sym (ap (fits code) (sym e) ∙ fits-none code g h)

  module _ (h : 1 ≤ length g) where
    field_is_lem : fits code (inner_of f) ≡ fitting code g
    field_is_lem = ap (fits code) (sym e) ∙ fits-some code g h

    pub field-number : (r : Bool) → code ≡ 3 → r ≡ ltb (number_in g) 4294967296 → r ≡ fits code (inner_of f)
    field-number r c q = q ∙ sym (field_is_lem ∙ rw c)

    pub field-text : (r : Bool) → (code ≡ 3 → ⊥) → code ≡ 31 → r ≡ ends_at (text_of (g ++ (0 ∷ []))) (length g + 1)
        → r ≡ fits code (inner_of f)
    field-text r n c q = q ∙ sym (field_is_lem ∙ rw c)

    pub field-other : (code ≡ 3 → ⊥) → (code ≡ 31 → ⊥) → true ≡ fits code (inner_of f)
    field-other n m = sym (field_is_lem ∙ rw (ne_eqb code 3 n, ne_eqb code 31 m))

pub ruleset held_cases = (field-none, field-number, field-text, field-other)
