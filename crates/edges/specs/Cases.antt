-- The ways of the code that lays down edges and cuts between them, on plain values.
use Prim.Native.Nat.{ℕ, suc, ◌+◌, ◌-◌, ◌≤◌, ◌<◌}
use native.Mathlib.Omega.{arith}
use Rattle.std.proofs.Common.{refl, add-zero, sym, ap, ◌∙◌, length-set, drop_of_length-le}
use Rattle.std.proofs.Math.Numerals.{add-one}
use Rattle.std.specs.Result.{result_unwrap_or}
use Rattle.std.specs.Prelude.{◌≡◌, Bool, true, false, not, cond, leb, take, drop, set}
use mathlib.Core.List.{List, [], ◌∷◌}
use Rattle.std.proofs.Math.ListN.{length, get_or, length-drop, get_or-eq_default}
use Rattle.std.proofs.Math.Seq.{drop-drop}
use borrow.Author.Tests.{le-leb, lt-leb, lt-ltb, le-ltb, eq-eqb, ne_eqb, not-true, not-false}
use Rattle.octets.specs.Octets.{rest_of, drop-next}
use Rattle.octets.specs.Splice.{splice, stored, stored-in, stored-out, stored-nil}
use Rattle.octets.specs.Stores.{splice-one, laid_one}
use Rattle.octets.specs.Word.{word_of}
use Rattle.presence.specs.Presence.{room, is_set}
use Rattle.answers.specs.Walk.{Walk}
use Rattle.answers.specs.Walk.{Ends, Broken}
use Rattle.value.specs.Types.{form_at}
use Rattle.whole.specs.Number.{Number}
use Rattle.whole.specs.Number.{Some, Broken as NoNumber}
use Rattle.whole.specs.Number.{number_of}
use Rattle.text.specs.Narrow.{narrow_of}
use Rattle.value.specs.Value.{numeric_of, element_of, value_of}
use Rattle.value.specs.Short.{short_of, short-is}
use Rattle.entry.specs.Slots.{step_of}
use Rattle.entry.specs.Read.{width_of}
use Rattle.entry.specs.Record.{present_in, values_in}
use Rattle.entry.specs.Cases.{present-in}
use Rattle.edges.specs.Passed.{passed_form, passed, passed-long}
use Rattle.edges.specs.Edges.{edges_from, edges_in, cell_in, edges-long, width-in}

-- ---- pass_form

pub pass-text : (f : ℕ) → f ≡ 3 → ◌≡◌ {A = ℕ} 2 (passed_form f)
unfolding passed_form
pass-text f e = rw (eq-eqb f 3 e)

pub pass-texts : (f : ℕ) → (f ≡ 3 → ⊥) → f ≡ 5 + 3 → ◌≡◌ {A = ℕ} (5 + 2) (passed_form f)
unfolding passed_form
pass-texts f e q = rw (ne_eqb f 3 e, eq-eqb f 8 q)

pub pass-other : (f : ℕ) → (f ≡ 3 → ⊥) → (f ≡ 5 + 3 → ⊥) → f ≡ passed_form f
unfolding passed_form
pass-other f e q = rw (ne_eqb f 3 e, ne_eqb f 8 q)

pub ruleset passings = (pass-text, pass-texts, pass-other)

-- ---- pass_value

pub pass-narrow : (f : ℕ) (ys : List ℕ) (r : Walk) → f ≡ 2 → r ≡ narrow_of ys → r ≡ value_of (form_at f) ys
unfolding form_at value_of element_of
pass-narrow f ys r e q = rw e q

module _ (f : ℕ) (ys : List ℕ) (e : f ≡ 0) (r : Number) (q : r ≡ number_of ys) where
  pub pass-number : (n w : ℕ) → r ≡ Some (n, w) → Ends w ≡ value_of (form_at f) ys
  unfolding form_at value_of element_of numeric_of
  pass-number n w z = rw (e, ← q, z)

  pub pass-broken : r ≡ NoNumber → Broken 0 ≡ value_of (form_at f) ys
  unfolding form_at value_of element_of numeric_of
  pass-broken z = rw (e, ← q, z)

pub ruleset passes = (pass-narrow, pass-number, pass-broken)

-- ---- column_width

-- a width lies in the octets
width_fits : (p : List ℕ) (i f : ℕ) (ys : List ℕ) (w : ℕ) → w ≡ width_of (step_of p i (form_at f) ys) → w ≤ length ys
width_fits p i f ys w e = rw e (width-in p i (form_at f) ys)

module _ (p : List ℕ) (i f : ℕ) (ys : List ℕ) (t : Bool) (e : t ≡ is_set p i) where
  pub width-absent : not t ≡ true → 0 ≡ width_of (step_of p i (form_at f) ys)
  unfolding step_of
  width-absent z = rw (← e, not-true t z)

  module _ (z : not t ≡ false) where
    step_is : step_of p i (form_at f) ys ≡ value_of (form_at f) ys
    unfolding step_of
    step_is = rw (← e, not-false t z)

    pub width-short : (u : Bool) → u ≡ short_of f ys → u ≡ true → 1 ≡ width_of (step_of p i (form_at f) ys)
    width-short u q y = rw (step_is, short-is f ys (sym q ∙ y))

    pub short-fits : (u : Bool) → u ≡ short_of f ys → u ≡ true → 1 ≤ length ys
    short-fits u q y = width_fits p i f ys 1 (width-short u q y)

    module _ (r : Walk) (q : r ≡ value_of (form_at f) ys) where
      pub width-ends : (w : ℕ) → r ≡ Ends w → w ≡ width_of (step_of p i (form_at f) ys)
      width-ends w y = rw (step_is, ← q, y)

      pub ends-fit : (w : ℕ) → r ≡ Ends w → w ≤ length ys
      ends-fit w y = width_fits p i f ys w (width-ends w y)

      pub width-breaks : (k : ℕ) → r ≡ Broken k → 0 ≡ width_of (step_of p i (form_at f) ys)
      width-breaks k y = rw (step_is, ← q, y)

      pub width-passed : (w : ℕ) → w ≡ result_unwrap_or r 0 → w ≡ width_of (step_of p i (form_at f) ys)
      width-passed w y = rw (step_is, ← q, y) (same r)
        where
          same : (r : Walk) → result_unwrap_or r 0 ≡ width_of r
          same (Ends w) = refl
          same (Broken k) = refl

      pub passed-fits : (w : ℕ) → w ≡ result_unwrap_or r 0 → w ≤ length ys
      passed-fits w y = width_fits p i f ys w (width-passed w y)

pub ruleset widths = (
  width-absent,
  width-short,
  short-fits,
  width-ends,
  ends-fit,
  width-breaks,
  width-passed,
  passed-fits,
)

-- ---- fill_edges

pub edges-start : (d forms p s : List ℕ) (at : ℕ)
    → splice d 0 (edges_from (passed (drop 0 forms)) 0 p (at + 0) (drop 0 s))
    ≡ splice d 0 (edges_from (passed forms) 0 p at s)
edges-start d forms p s at = rw (add-zero at)

module _ (d e forms p s : List ℕ) (at j i : ℕ)
    (inv : splice e j (edges_from (passed (drop j forms)) j p (at + i) (drop i s))
    ≡ splice d 0 (edges_from (passed forms) 0 p at s))
    (long : length e ≡ length d) (room : length forms < length d) where
  module _ (g : j < length forms) (f : ℕ) (y : f ≡ passed_form (get_or forms j 0)) (w : ℕ)
      (q : w ≡ width_of (step_of p j (form_at f) (take (length s - i) (drop i s)))) where
    abbrev later : List ℕ
    later = edges_from (passed (drop (j + 1) forms)) (j + 1) p (at + (i + w)) (drop (i + w) s)

    turn : edges_from (passed (drop j forms)) j p (at + i) (drop i s) ≡ (at + i) ∷ later
    unfolding edges_from
    turn =
        let v : width_of (step_of p j (form_at (passed_form (get_or forms j 0))) (drop i s)) ≡ w =
        rw (y, rest_of s i) at (sym q) in
        let a : at + i + w ≡ at + (i + w) = omega arith in
        rw (drop-next forms j g, v, a, drop-drop w i s, ← add-one j)

    pub edges_step : splice (set e j (at + i)) (j + 1) later ≡ splice d 0 (edges_from (passed forms) 0 p at s)
    edges_step =
        let n = edges-long (passed (drop (j + 1) forms)) (j + 1) p (at + (i + w)) (drop (i + w) s) in
        let k = passed-long (drop (j + 1) forms) in
        let m = length-drop (j + 1) forms in
        laid_one e (at + i) later j (omega arith) ∙ ap (splice e j) (sym turn) ∙ inv

  pub edges-end : length forms ≤ j → j ≤ length forms
      → set e (length forms) (at + i) ≡ splice d 0 (edges_from (passed forms) 0 p at s)
  unfolding edges_from
  edges-end h k =
      let q : length forms ≡ j = omega arith in
      rw q (splice-one e j (at + i) (omega arith) ∙ rw (drop_of_length-le forms {i = j} h) at inv)

pub edges-kept : (d e : List ℕ) (i r : ℕ) → length e ≡ length d → length (set e i r) ≡ length d
edges-kept d e i r q = length-set e i r ∙ q

pub ruleset fillings = (edges-start, edges_step, edges-end, edges-kept)

-- ---- edges_inside

-- of the record t, which stands at `at`
unfoldable pub edges_inside : List ℕ → ℕ → List ℕ → List ℕ
edges_inside forms at t =
    edges_from (passed forms) 0 (take (room (length forms)) (drop 4 t)) (at + 4 + room (length forms))
    (drop (4 + room (length forms)) t)

pub inside_is : (d forms t : List ℕ) (at m : ℕ) (r : List ℕ) → m ≡ room (length forms)
    → r ≡ splice d 0
    (edges_from (passed forms) 0 (take (4 + m - 4) (drop 4 t)) (at + (4 + m))
    (take (length t - (4 + m)) (drop (4 + m) t)))
    → r ≡ splice d 0 (edges_inside forms at t)
unfolding edges_inside
inside_is d forms t at m r e q =
    let a : 4 + m - 4 ≡ m = omega arith in
    let b : at + (4 + m) ≡ at + 4 + m = omega arith in
    rw (← e) (rw (a, b, rest_of t (4 + m)) at q)

inside-long : (forms : List ℕ) (at : ℕ) (t : List ℕ) → length (edges_inside forms at t) ≡ suc (length forms)
unfolding edges_inside
inside-long forms at t =
    edges-long (passed forms) 0 (take (room (length forms)) (drop 4 t)) (at + 4 + room (length forms))
    (drop (4 + room (length forms)) t)
    ∙ ap suc (passed-long forms)

-- ---- put_edges

none-laid : (d es : List ℕ) (b c : Bool) → length d < length es → d ≡ stored d 0 (cond b (cond c es []) [])
none-laid d es true true h = sym (stored-out d 0 es (omega arith))
none-laid d es true false h = sym (stored-nil d 0)
none-laid d es false c h = sym (stored-nil d 0)

module _ (d forms b : List ℕ) (at : ℕ) where
  pub put-few : length d ≤ length forms → d ≡ stored d 0 (edges_in forms at (drop at b))
  unfolding edges_in
  put-few h =
      let es : List ℕ =
      edges_from (passed forms) 0 (present_in (length forms) (drop at b)) (at + 4 + room (length forms))
      (values_in (length forms) (drop at b)) in
      let k = passed-long forms in
      let l =
      edges-long (passed forms) 0 (present_in (length forms) (drop at b)) (at + 4 + room (length forms))
      (values_in (length forms) (drop at b)) in
      none-laid d es (leb (4 + room (length forms)) (word_of 4 (drop at b)))
      (leb (word_of 4 (drop at b)) (length (drop at b))) (omega arith)

  pub put-far : length b < at → d ≡ stored d 0 (edges_in forms at (drop at b))
  unfolding edges_in word_of
  put-far h =
      rw (drop_of_length-le b {i = at} (omega arith), lt-leb (4 + room (length forms)) 0 (omega arith))
      (sym (stored-nil d 0))

  module _ (w m : ℕ) (q : w ≡ word_of 4 (drop at b)) (z : m ≡ room (length forms)) where
    pub put_small : w < 4 + m → d ≡ stored d 0 (edges_in forms at (drop at b))
    unfolding edges_in
    put_small h = rw (← q, ← z, lt-leb (4 + m) w h) (sym (stored-nil d 0))

    module _ (h : 4 + m ≤ w) where
      pub put-cut : length b - at < w → d ≡ stored d 0 (edges_in forms at (drop at b))
      unfolding edges_in
      put-cut k =
          rw (length-drop at b, ← q, ← z, le-leb (4 + m) w h, lt-leb w (length b - at) k) (sym (stored-nil d 0))

      there-is : w ≤ length b - at
          → edges_in forms at (drop at b) ≡ edges_inside forms at (take (at + w - at) (drop at b))
      unfolding edges_in edges_inside
      there-is k =
          let y : at + w - at ≡ w = omega arith in
          let l : length (drop at b) ≡ length b - at = length-drop at b in
          let p = present-in m w (drop at b) h (omega arith) in
          rw (y, length-drop at b, ← q, ← z, le-leb (4 + m) w h, le-leb w (length b - at) k, p)

      pub put-there : (r : List ℕ) → w ≤ length b - at → length forms < length d
          → r ≡ splice d 0 (edges_inside forms at (take (at + w - at) (drop at b)))
          → r ≡ stored d 0 (edges_in forms at (drop at b))
      put-there r k f e =
          let n = inside-long forms at (take (at + w - at) (drop at b)) in
          rw (there-is k)
          (e ∙ sym (stored-in d 0 (edges_inside forms at (take (at + w - at) (drop at b))) (omega arith)))

pub ruleset puttings = (put-few, put-far, put_small, put-cut, put-there)

-- ---- cell

module _ (b es : List ℕ) (c : ℕ) where
  pub cell-none : length es ≤ c + 1 → [] ≡ cell_in b es c
  unfolding cell_in
  cell-none h =
      let z : get_or es (c + 1) 0 ≡ 0 = get_or-eq_default es 0 h in
      let y : 0 - get_or es c 0 ≡ 0 = omega arith in
      rw (z, le-ltb (length b) 0 (omega arith), y)

  pub cell-not : length es ≤ c → [] ≡ cell_in b es c
  cell-not h = cell-none (omega arith)

  pub cell-past : length b < get_or es (c + 1) 0 → [] ≡ cell_in b es c
  unfolding cell_in
  cell-past h = rw (lt-ltb (length b) (get_or es (c + 1) 0) h)

  module _ (h : get_or es (c + 1) 0 ≤ length b) where
    pub cell-back : get_or es (c + 1) 0 < get_or es c 0 → [] ≡ cell_in b es c
    unfolding cell_in
    cell-back l =
        let e : get_or es (c + 1) 0 - get_or es c 0 ≡ 0 = omega arith in
        rw (le-ltb (length b) (get_or es (c + 1) 0) h, e)

    pub cell-there : take (get_or es (c + 1) 0 - get_or es c 0) (drop (get_or es c 0) b) ≡ cell_in b es c
    unfolding cell_in
    cell-there = rw (le-ltb (length b) (get_or es (c + 1) 0) h)

pub ruleset cell_cases = (cell-none, cell-not, cell-past, cell-back, cell-there)
