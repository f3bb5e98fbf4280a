-- The ways of the code that walks over values and searches the table of types, on plain values.
use Rattle.std.specs.Prelude.{ℕ, zero, suc, ◌+◌, ◌-◌, ◌^◌, ◌≤◌, ◌<◌, ◌≡◌, refl, List, [], ◌∷◌, length, take, drop, get_or}
use native.Mathlib.Omega.{arith}
use Rattle.std.proofs.Math.Numerals.{add-one}
use Rattle.std.proofs.Common.{sym, ◌∙◌, length-drop, drop_of_length-le, drop-drop, Fits}
use Rattle.std.specs.Int.{w64}
use borrow.Author.Tests.{lt-ltb, le-ltb, le-leb, lt-leb, eq-eqb, ne_eqb}
use Rattle.octets.specs.Octets.{rest_of}
use Rattle.answers.specs.Walk.{Walk}
use Rattle.answers.specs.Walk.{Ends, Broken}
use Rattle.answers.specs.Walk.{broken, onto}
use Rattle.whole.specs.Number.{Number}
use Rattle.whole.specs.Number.{Some, Broken as NoNumber}
use Rattle.whole.specs.Number.{number_of as whole_of}
use Rattle.text.specs.Narrow.{narrow_of}
use Rattle.text.specs.Utf8.{text_of}
use Rattle.value.specs.Types.{Kind, number, truth, narrow, text, kind_number, list_form, forms_end}
use Rattle.value.specs.Types.{unknown_form, kind_at, form_at, Row, types, form_in, number_of}
use Rattle.value.specs.Value.{numeric_of, truth_of, binary_of, element_of, list_from, list_of, value_of}
use Rattle.value.specs.Within.{element-within}

-- ---- the table, as the array of the code

abbrev table_of : List Row → List (ℕ × ℕ)
table_of [] = []
table_of (r ∷ rs) = (r.code, r.form) ∷ table_of rs

-- row i of the array, a row of zeros past its end
abbrev pub row_of : ℕ → ℕ × ℕ
row_of i = get_or (table_of types) i (0, 0)

rows_next : (rs : List Row) (i : ℕ) → i < length rs
    → drop i rs
    ≡ record { code = (get_or (table_of rs) i (0, 0)).0; form = (get_or (table_of rs) i (0, 0)).1 } ∷ drop (suc i) rs
rows_next [] i h = absurd (omega arith)
rows_next (r ∷ rs) zero h = refl
rows_next (r ∷ rs) (suc i) h = rows_next rs i (omega arith)

types-next : (i : ℕ) → i < 10
    → drop i types ≡ record { code = (row_of i).0; form = (row_of i).1 } ∷ drop (suc i) types
types-next i h = rows_next types i h

module _ (code i : ℕ) (inv : form_in code (drop i types) ≡ number_of code) where
  pub type-here : i < 10 → (row_of i).0 ≡ code → (row_of i).1 ≡ number_of code
  unfolding form_in
  type-here h e = rw (types-next i h, eq-eqb (row_of i).0 code e) at inv

  pub type-next : i < 10 → ((row_of i).0 ≡ code → ⊥) → form_in code (drop (i + 1) types) ≡ number_of code
  unfolding form_in
  type-next h e = rw add-one (rw (types-next i h, ne_eqb (row_of i).0 code e) at inv)

  pub type-none : 10 ≤ i → unknown_form ≡ number_of code
  unfolding form_in
  type-none h = rw (drop_of_length-le types {i = i} h) at inv

pub type-start : (code : ℕ) → form_in code types ≡ number_of code
unfolding number_of
type-start code = refl

pub ruleset searches = (type-start, type-here, type-next, type-none)

-- ---- single values

pub numeric-is : (r : Number) (s : List ℕ) (n w : ℕ) → r ≡ Some (n, w) → r ≡ whole_of s → Ends w ≡ numeric_of s
unfolding numeric_of
numeric-is r s n w e q = rw (← q, e)

pub numeric-no : (r : Number) (s : List ℕ) → r ≡ NoNumber → r ≡ whole_of s → broken ≡ numeric_of s
unfolding numeric_of
numeric-no r s e q = rw (← q, e)

module _ (s : List ℕ) where
  pub truth-none : length s < 1 → broken ≡ truth_of s
  unfolding truth_of
  truth-none h = simp (lt-ltb (length s) 1 h)

  pub truth-is : 1 ≤ length s → get_or s 0 0 < 2 → Ends 1 ≡ truth_of s
  unfolding truth_of
  truth-is h i = simp (le-ltb (length s) 1 h, lt-ltb (get_or s 0 0) 2 i)

  pub truth-no : 1 ≤ length s → 2 ≤ get_or s 0 0 → broken ≡ truth_of s
  unfolding truth_of
  truth-no h i = simp (le-ltb (length s) 1 h, le-ltb (get_or s 0 0) 2 i)

module _ (r : Number) (s : List ℕ) where
  pub binary-no : r ≡ NoNumber → r ≡ whole_of s → broken ≡ binary_of s
  unfolding binary_of
  binary-no e q = rw (← q, e)

  module _ (n w : ℕ) (e : r ≡ Some (n, w)) (q : r ≡ whole_of s) where
    pub binary-none : n < 1 → broken ≡ binary_of s
    unfolding binary_of
    binary-none h = rw (← q, e) (simp (lt-ltb n 1 h))

    pub binary-is : 1 ≤ n → n ≤ length s - w → Ends (w + n) ≡ binary_of s
    unfolding binary_of
    binary-is h i = rw (← q, e) (simp (le-ltb n 1 h, le-leb n (length s - w) i))

    pub binary-short : 1 ≤ n → length s - w < n → broken ≡ binary_of s
    unfolding binary_of
    binary-short h i = rw (← q, e) (simp (le-ltb n 1 h, lt-leb n (length s - w) i))

pub ruleset singles =
    (numeric-is, numeric-no, truth-none, truth-is, truth-no, binary-no, binary-none, binary-is, binary-short)

-- ---- an element, by the number of its kind

module _ (k : ℕ) {r : Walk} (s : List ℕ) where
  pub element-number : k ≡ kind_number number → r ≡ numeric_of s → r ≡ element_of (kind_at k) s
  unfolding element_of
  element-number e q = rw e q

  pub element-truth : k ≡ kind_number truth → r ≡ truth_of s → r ≡ element_of (kind_at k) s
  unfolding element_of
  element-truth e q = rw e q

  pub element-narrow : k ≡ kind_number narrow → r ≡ narrow_of s → r ≡ element_of (kind_at k) s
  unfolding element_of
  element-narrow e q = rw e q

  pub element-text : k ≡ kind_number text → r ≡ text_of s → r ≡ element_of (kind_at k) s
  unfolding element_of
  element-text e q = rw e q

  pub element-binary : (k ≡ kind_number number → ⊥) → (k ≡ kind_number truth → ⊥) → (k ≡ kind_number narrow → ⊥)
      → (k ≡ kind_number text → ⊥) → r ≡ binary_of s → r ≡ element_of (kind_at k) s
  unfolding element_of
  element-binary h₁ h₂ h₃ h₄ q =
      rw (
        ne_eqb k (kind_number number) h₁,
        ne_eqb k (kind_number truth) h₂,
        ne_eqb k (kind_number narrow) h₃,
        ne_eqb k (kind_number text) h₄,
      ) q

pub ruleset elements = (element-number, element-truth, element-narrow, element-text, element-binary)

-- ---- a list

module _ (k : Kind) (r : Number) (s : List ℕ) where
  pub list-no : r ≡ NoNumber → r ≡ whole_of s → broken ≡ list_of k s
  unfolding list_of
  list-no e q = rw (← q, e)

  module _ (n w : ℕ) (e : r ≡ Some (n, w)) (q : r ≡ whole_of s) where
    pub list-none : n < 1 → broken ≡ list_of k s
    unfolding list_of
    list-none h = rw (← q, e) (simp (lt-ltb n 1 h))

    pub list-start : 1 ≤ n → list_from k (n - 0) w (drop w s) ≡ list_of k s
    unfolding list_of
    list-start h = let z : n - 0 ≡ n = omega arith in rw (z, ← q, e) (simp (le-ltb n 1 h))

list-step : (k : Kind) (n i : ℕ) (xs : List ℕ) → 0 < n
    → list_from k n i xs ≡ onto (element_of k xs) i (λ w. list_from k (n - 1) (i + w) (drop w xs))
unfolding list_from
list-step k zero i xs h = absurd (omega arith)
list-step k (suc n) i xs h = let e : suc n - 1 ≡ n = omega arith in simp e

-- m of n elements are walked over
module _ (k : Kind) (s : List ℕ) (n m i : ℕ) (inv : list_from k (n - m) i (drop i s) ≡ list_of k s) where
  pub list-end : n ≤ m → Ends i ≡ list_of k s
  unfolding list_from
  list-end h = let z : n - m ≡ 0 = omega arith in rw z at inv

  module _ (r : Walk) (q : r ≡ element_of k (take (length s - i) (drop i s))) (h : m < n) where
    left : 0 < n - m
    left = omega arith

    pub list-broken : (p : ℕ) → r ≡ Broken p → Broken i ≡ list_of k s
    list-broken p e =
        let z : element_of k (drop i s) ≡ Broken p = rw rest_of at (sym q) ∙ e in
        simp (list-step k (n - m) i (drop i s) left, z) at inv

    pub list-next : (w : ℕ) → r ≡ Ends w → list_from k (n - (m + 1)) (i + w) (drop (i + w) s) ≡ list_of k s
    list-next w e =
        let z : element_of k (drop i s) ≡ Ends w = rw rest_of at (sym q) ∙ e in
        let l : n - m - 1 ≡ n - (m + 1) = omega arith in
        simp (list-step k (n - m) i (drop i s) left, z, drop-drop, l) at inv

module _ (k : Kind) (s : List ℕ) (i : ℕ) (r : Walk) (q : r ≡ element_of k (take (length s - i) (drop i s)))
    (h : i ≤ length s) (w : ℕ) (e : r ≡ Ends w) where
  pub list-in : i + w ≤ length s
  list-in =
      let z : element_of k (drop i s) ≡ Ends w = rw rest_of at (sym q) ∙ e in
      omega (arith, simp length-drop at (element-within k (drop i s) w z))

  pub list-fits : length s < 2 ^ 64 → Fits w64 (i + w)
  list-fits b = record { fits = let l = list-in in omega arith }

pub ruleset lists = (list-no, list-none, list-start, list-end, list-broken, list-next, list-in, list-fits)

-- ---- a value, by the number of its form

module _ (f : ℕ) {r : Walk} (s : List ℕ) where
  pub value-single : f < list_form → r ≡ element_of (kind_at f) s → r ≡ value_of (form_at f) s
  unfolding form_at value_of
  value-single h q = rw (lt-ltb f list_form h) q

  pub value-list : list_form ≤ f → f < forms_end → r ≡ list_of (kind_at (f - list_form)) s → r ≡ value_of (form_at f) s
  unfolding form_at value_of
  value-list h i q = rw (le-ltb f list_form h, lt-ltb f forms_end i) q

pub value_none : (f : ℕ) (s : List ℕ) → list_form ≤ f → forms_end ≤ f → broken ≡ value_of (form_at f) s
unfolding form_at value_of
value_none f s h i = rw (le-ltb f list_form h, le-ltb f forms_end i)

pub ruleset values = (value-single, value-list, value_none)
