-- The ways of the code that scans strings, on plain values.
use Rattle.std.specs.Prelude.{ℕ, ◌+◌, ◌≤◌, ◌<◌, ◌≡◌, Bool, true, false, cond, List, eqb, length, drop, get_or}
use native.Mathlib.Omega.{arith}
use Rattle.std.proofs.Common.{◌∙◌, drop_of_length-le}
use borrow.Author.Tests.{eq-eqb, ne_eqb}
use Rattle.octets.specs.Octets.{drop-next}
use Rattle.answers.specs.Walk.{Walk}
use Rattle.answers.specs.Walk.{Ends as WalkEnds, Broken as WalkBroken}
use Rattle.sheet.specs.Field.{is_mark}
use Rattle.scanning.specs.Passing.{is_plain, pass_from, quoted_from, string_from}

module _ (x : ℕ) where
  pub plain-far : 44 < x → true ≡ is_plain x
  unfolding is_plain is_mark
  plain-far h =
      rw (
        ne_eqb x 44 (omega arith),
        ne_eqb x 34 (omega arith),
        ne_eqb x 13 (omega arith),
        ne_eqb x 10 (omega arith),
        ne_eqb x 0 (omega arith),
      )

  pub plain-comma : x ≡ 44 → false ≡ is_plain x
  unfolding is_plain is_mark
  plain-comma e = rw e

  pub plain-quote : x ≡ 34 → false ≡ is_plain x
  unfolding is_plain is_mark
  plain-quote e = rw e

  pub plain-cr : x ≡ 13 → false ≡ is_plain x
  unfolding is_plain is_mark
  plain-cr e = rw e

  pub plain-lf : x ≡ 10 → false ≡ is_plain x
  unfolding is_plain is_mark
  plain-lf e = rw e

  pub plain-zero : x ≡ 0 → false ≡ is_plain x
  unfolding is_plain is_mark
  plain-zero e = rw e

  pub plain_other : (x ≡ 44 → ⊥) → (x ≡ 34 → ⊥) → (x ≡ 13 → ⊥) → (x ≡ 10 → ⊥) → (x ≡ 0 → ⊥) → true ≡ is_plain x
  unfolding is_plain is_mark
  plain_other a b c d e = rw (ne_eqb x 44 a, ne_eqb x 34 b, ne_eqb x 13 c, ne_eqb x 10 d, ne_eqb x 0 e)

pub ruleset plain_cases = (plain-far, plain-comma, plain-quote, plain-cr, plain-lf, plain-zero, plain_other)

-- ---- octets that are passed

module _ (plain : ℕ → Bool) (e : ℕ) (text : List ℕ) (at i : ℕ)
    (inv : pass_from plain e i (drop i text) ≡ pass_from plain e at (drop at text)) where
  module _ (h : i < length text) (p : Bool) (q : p ≡ plain (get_or text i 0)) where
    turn : cond p (pass_from plain e (i + 1) (drop (i + 1) text))
        (cond (eqb (get_or text i 0) e) (WalkEnds i) (WalkBroken i))
        ≡ pass_from plain e at (drop at text)
    unfolding pass_from
    turn = rw (drop-next text i h, ← q) at inv

    pub walk-on : p ≡ true → pass_from plain e (i + 1) (drop (i + 1) text) ≡ pass_from plain e at (drop at text)
    walk-on z = rw z at turn

    pub walk_ends : p ≡ false → get_or text i 0 ≡ e → WalkEnds i ≡ pass_from plain e at (drop at text)
    walk_ends z y = rw (z, eq-eqb (get_or text i 0) e y) at turn

    pub walk-broken : p ≡ false → (get_or text i 0 ≡ e → ⊥) → WalkBroken i ≡ pass_from plain e at (drop at text)
    walk-broken z y = rw (z, ne_eqb (get_or text i 0) e y) at turn

  pub walk-over : length text ≤ i → WalkBroken i ≡ pass_from plain e at (drop at text)
  unfolding pass_from
  walk-over h = rw (drop_of_length-le text {i = i} h) at inv

pub ruleset walk_cases = (walk-on, walk_ends, walk-broken, walk-over)

-- ---- inside quotes

module _ (e : ℕ) (text : List ℕ) (at i : ℕ)
    (inv : quoted_from false e i (drop i text) ≡ quoted_from false e at (drop at text)) where
  module _ (h : i < length text) where
    module _ (n : get_or text i 0 ≡ 34 → ⊥) where
      pub inner-zero : get_or text i 0 ≡ 0 → WalkBroken i ≡ quoted_from false e at (drop at text)
      unfolding quoted_from
      inner-zero z = rw (drop-next text i h, z) at inv

      pub inner-on : (get_or text i 0 ≡ 0 → ⊥)
          → quoted_from false e (i + 1) (drop (i + 1) text) ≡ quoted_from false e at (drop at text)
      unfolding quoted_from
      inner-on z = rw (drop-next text i h, ne_eqb (get_or text i 0) 34 n, ne_eqb (get_or text i 0) 0 z) at inv

    module _ (z : get_or text i 0 ≡ 34) where
      behind : quoted_from true e (i + 1) (drop (i + 1) text) ≡ quoted_from false e at (drop at text)
      unfolding quoted_from
      behind = rw (drop-next text i h, z) at inv

      pub behind-none : length text ≤ i + 1 → WalkBroken (i + 1) ≡ quoted_from false e at (drop at text)
      unfolding quoted_from
      behind-none l = rw (drop_of_length-le text {i = i + 1} l) at behind

      module _ (l : i + 1 < length text) where
        pub behind-ends : get_or text (i + 1) 0 ≡ e → WalkEnds (i + 1) ≡ quoted_from false e at (drop at text)
        unfolding quoted_from
        behind-ends y = rw (drop-next text (i + 1) l, eq-eqb (get_or text (i + 1) 0) e y) at behind

        module _ (n : get_or text (i + 1) 0 ≡ e → ⊥) where
          pub behind-broken : (get_or text (i + 1) 0 ≡ 34 → ⊥)
              → WalkBroken (i + 1) ≡ quoted_from false e at (drop at text)
          unfolding quoted_from
          behind-broken y =
              rw
              (drop-next text (i + 1) l, ne_eqb (get_or text (i + 1) 0) e n, ne_eqb (get_or text (i + 1) 0) 34 y) at behind

          pub behind-two : get_or text (i + 1) 0 ≡ 34
              → quoted_from false e (i + 2) (drop (i + 2) text) ≡ quoted_from false e at (drop at text)
          unfolding quoted_from
          behind-two y =
              let k : i + 1 + 1 ≡ i + 2 = omega arith in
              rw
              (drop-next text (i + 1) l, ne_eqb (get_or text (i + 1) 0) e n, eq-eqb (get_or text (i + 1) 0) 34 y, k)
              at behind

  pub inner-over : length text ≤ i → WalkBroken i ≡ quoted_from false e at (drop at text)
  unfolding quoted_from
  inner-over h = rw (drop_of_length-le text {i = i} h) at inv

pub ruleset quoted_cases =
    (inner-zero, inner-on, behind-none, behind-ends, behind-broken, behind-two, inner-over)

-- the same octet by octet; b: a quote has been read that closes or is the first of two
module _ (e : ℕ) (text : List ℕ) (at i : ℕ) (b : Bool)
    (inv : quoted_from b e i (drop i text) ≡ quoted_from false e at (drop at text)) where
  module _ (h : i < length text) where
    module _ (z : b ≡ true) where
      pub turn-ends : get_or text i 0 ≡ e → WalkEnds i ≡ quoted_from false e at (drop at text)
      unfolding quoted_from
      turn-ends y = rw (z, drop-next text i h, eq-eqb (get_or text i 0) e y) at inv

      module _ (n : get_or text i 0 ≡ e → ⊥) where
        pub turn-broken : (get_or text i 0 ≡ 34 → ⊥) → WalkBroken i ≡ quoted_from false e at (drop at text)
        unfolding quoted_from
        turn-broken y =
            rw (z, drop-next text i h, ne_eqb (get_or text i 0) e n, ne_eqb (get_or text i 0) 34 y) at inv

        pub turn-second : get_or text i 0 ≡ 34
            → quoted_from false e (i + 1) (drop (i + 1) text) ≡ quoted_from false e at (drop at text)
        unfolding quoted_from
        turn-second y =
            rw (z, drop-next text i h, ne_eqb (get_or text i 0) e n, eq-eqb (get_or text i 0) 34 y) at inv

    module _ (z : b ≡ false) where
      pub turn-first : get_or text i 0 ≡ 34
          → quoted_from true e (i + 1) (drop (i + 1) text) ≡ quoted_from false e at (drop at text)
      unfolding quoted_from
      turn-first y = rw (z, drop-next text i h, eq-eqb (get_or text i 0) 34 y) at inv

      module _ (n : get_or text i 0 ≡ 34 → ⊥) where
        pub turn-zero : get_or text i 0 ≡ 0 → WalkBroken i ≡ quoted_from false e at (drop at text)
        unfolding quoted_from
        turn-zero y = rw (z, drop-next text i h, ne_eqb (get_or text i 0) 34 n, eq-eqb (get_or text i 0) 0 y) at inv

        pub turn-on : (get_or text i 0 ≡ 0 → ⊥)
            → quoted_from b e (i + 1) (drop (i + 1) text) ≡ quoted_from false e at (drop at text)
        unfolding quoted_from
        turn-on y =
            rw z (rw (z, drop-next text i h, ne_eqb (get_or text i 0) 34 n, ne_eqb (get_or text i 0) 0 y) at inv)

  pub turn-over : length text ≤ i → WalkBroken i ≡ quoted_from false e at (drop at text)
  unfolding quoted_from
  turn-over h = go b inv
    where
      go : (c : Bool) → quoted_from c e i (drop i text) ≡ quoted_from false e at (drop at text)
          → WalkBroken i ≡ quoted_from false e at (drop at text)
      go true q = rw (drop_of_length-le text {i = i} h) at q
      go false q = rw (drop_of_length-le text {i = i} h) at q

pub ruleset turn_cases = (turn-ends, turn-broken, turn-second, turn-first, turn-zero, turn-on, turn-over)

-- ---- either

module _ (e : ℕ) (text : List ℕ) (at : ℕ) where
  pub string-none : length text ≤ at → WalkBroken at ≡ string_from e at (drop at text)
  unfolding string_from
  string-none h = rw (drop_of_length-le text {i = at} h)

  module _ (h : at < length text) (r : Walk) where
    pub string-quoted : get_or text at 0 ≡ 34 → r ≡ quoted_from false e (at + 1) (drop (at + 1) text)
        → r ≡ string_from e at (drop at text)
    unfolding string_from
    string-quoted z q = rw (drop-next text at h, z) q

    pub string-plain : (get_or text at 0 ≡ 34 → ⊥) → r ≡ pass_from is_plain e at (drop at text)
        → r ≡ string_from e at (drop at text)
    unfolding string_from
    string-plain z q = q ∙ rw (drop-next text at h, ne_eqb (get_or text at 0) 34 z)

pub ruleset string_cases = (string-quoted, string-plain, string-none)
