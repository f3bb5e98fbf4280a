-- The ways of the code that measures and writes a field, on plain values.
use Rattle.std.specs.Prelude.{ℕ, zero, suc, ◌+◌, ◌-◌, ◌*◌, ◌/◌, ◌%◌, ◌^◌, ◌≤◌, ◌<◌, ◌≡◌, refl, Bool, true, false, cond, List, [], ◌∷◌, ◌++◌, eqb, length, drop, get_or, set}
use Rattle.std.specs.List.{list_any, count_by}
use Rattle.std.proofs.lemmas.List.Sums.{sum_by-cons}
use native.Mathlib.Omega.{arith}
use Rattle.std.proofs.Common.{mod-lt, pow-suc, add-one, ap, ◌∙◌, ◌||◌, length-append, drop_of_length-le, Fits, lt-ltb, le-ltb, eq-eqb, ne_eqb}
use Rattle.std.proofs.Math.Path.{sym}
use Rattle.std.proofs.Math.ListN.{length-set}
use Rattle.std.specs.Int.{w64}
use Rattle.octets.specs.Octets.{drop-next}
use Rattle.octets.specs.Splice.{splice, splice-nil, stored, stored-in}
use Rattle.sheet.specs.Digits.{digit_of, digits_of, places_of, digits_long, places-few, places-between}
use Rattle.sheet.specs.Field.{is_mark, marked, twice, doubled, quoted, spelt}
use Rattle.sheet.specs.Marks.{spelt-plain, spelt-quoted, quoted-long}
use Rattle.octets.specs.Stores.{splice-one, splice-last, laid, laid_one, laid-long}

-- ---- digits

pub digit_low : (d : ℕ) → d < 10 → 48 + d ≡ digit_of d
unfolding digit_of
digit_low d h = rw (lt-ltb d 10 h)

pub digit-high : (d : ℕ) → 10 ≤ d → 55 + d ≡ digit_of d
unfolding digit_of
digit-high d h = rw (le-ltb d 10 h)

pub digits-start : (out : List ℕ) (at base k n : ℕ)
    → splice out at (digits_of base k n) ≡ splice out at (digits_of base k n)
digits-start out at base k n = refl

digits-turn : (base x j : ℕ) → 0 < j → digits_of base j x ≡ digits_of base (j - 1) (x / base) ++ (digit_of (x % base) ∷ [])
unfolding digits_of
digits-turn base x zero h = absurd (omega arith)
digits-turn base x (suc j) h = let e : suc j - 1 ≡ j = omega arith in rw e

module _ (out d : List ℕ) (at base k n x j : ℕ)
    (inv : splice out at (digits_of base j x) ≡ splice d at (digits_of base k n)) where
  pub digits_step : (r : ℕ) → 0 < j → j ≤ k → length out ≡ length d → at + k ≤ length d → r ≡ digit_of (x % base)
      → splice (set out (at + (j - 1)) r) at (digits_of base (j - 1) (x / base)) ≡ splice d at (digits_of base k n)
  digits_step r h l m q e =
      let z : length (digits_of base (j - 1) (x / base)) ≡ j - 1 = digits_long base (j - 1) (x / base) in
      let y = splice-last out (digits_of base (j - 1) (x / base)) at (digit_of (x % base)) (omega arith) in
      rw e (rw z at y) ∙ ap (splice out at) (sym (digits-turn base x j h)) ∙ inv

  pub digits-end : j ≤ 0 → out ≡ splice d at (digits_of base k n)
  unfolding digits_of
  digits-end h =
      let z : j ≡ 0 = omega arith in
      sym (splice-nil out at) ∙ rw z at inv

pub digit-below : (x base : ℕ) → 2 ≤ base → base ≤ 16 → x % base < 16
digit-below x base h l = let m = mod-lt x {m = base} (omega arith) in omega arith

pub digits-kept : (out d : List ℕ) (i r : ℕ) → length out ≡ length d → length (set out i r) ≡ length d
digits-kept out d i r e = length-set out i r ∙ e

pub ruleset digit_cases = (digit_low, digit-high, digits-start, digits_step, digits-end, digits-kept, digit-below)

pub places-one : (n : ℕ) → n < 10 → 1 ≡ places_of n
places-one n h = sym (places-few n h)

pub places-start : (n : ℕ) → 10 ≤ n → 10 ^ (2 - 1) ≤ n
places-start n h = h

module _ (n k least : ℕ) (inv : least ≡ 10 ^ k) where
  pub places-more-than : least ≤ n → 10 ^ (k + 1 - 1) ≤ n
  places-more-than h = let e : k + 1 - 1 ≡ k = omega arith in rw (e, ← inv) h

  pub places-step : least * 10 ≡ 10 ^ (k + 1)
  places-step = rw (inv, add-one k) (sym (pow-suc 10 k))

  pub places-end : 1 ≤ k → 10 ^ (k - 1) ≤ n → n < least → k ≡ places_of n
  places-end s h l =
      let e : suc (k - 1) ≡ k = omega arith in
      sym (places-between (k - 1) n h (rw (e, ← inv) l) ∙ e)

-- by the logarithm of base ten
pub places_log : (n k : ℕ) → 10 ^ k ≤ n → n < 10 * 10 ^ k → k + 1 ≡ places_of n
places_log n k h l = let p = pow-suc 10 k in add-one k ∙ sym (places-between k n h (omega arith))

pub ruleset place_cases = (places-one, places-start, places-more-than, places-step, places-end)

-- ---- marks

module _ (s : List ℕ) (i : ℕ) (inv : marked (drop i s) ≡ marked s) where
  module _ (h : i < length s) (r : Bool) (e : r ≡ is_mark (get_or s i 0)) where
    pub marks-here : r ≡ true → true ≡ marked s
    unfolding marked
    marks-here z = rw (drop-next s i h, ← e, z) at inv

    pub marks-next : r ≡ false → marked (drop (i + 1) s) ≡ marked s
    unfolding marked
    marks-next z = rw (drop-next s i h, ← e, z) at inv

  pub marks-none : length s ≤ i → false ≡ marked s
  unfolding marked
  marks-none h = rw (drop_of_length-le s {i = i} h) at inv

pub ruleset marks_cases = (marks-here, marks-next, marks-none)

-- each octet by the same test
pub marks_each : (s : List ℕ) → marked s ≡ list_any is_mark s
unfolding marked
marks_each [] = refl
marks_each (x ∷ s) = go (is_mark x) ∙ ap (λ b. is_mark x || b) (marks_each s)
  where
    go : (b : Bool) → cond b true (marked s) ≡ (b || marked s)
    go true = refl
    go false = refl

-- ---- doubled quotes

pub twice_two : (x : ℕ) → x ≡ 34 → 2 ≡ length (twice x)
twice_two x e = rw (eq-eqb x 34 e)

pub twice-one : (x : ℕ) → (x ≡ 34 → ⊥) → 1 ≡ length (twice x)
twice-one x e = rw (ne_eqb x 34 e)

doubled-next : (s : List ℕ) (i : ℕ) → i < length s → doubled (drop i s) ≡ twice (get_or s i 0) ++ doubled (drop (i + 1) s)
unfolding doubled
doubled-next s i h = rw (drop-next s i h)

doubled-longer : (s : List ℕ) (i : ℕ) → i < length s
    → length (doubled (drop i s)) ≡ length (twice (get_or s i 0)) + length (doubled (drop (i + 1) s))
doubled-longer s i h = ap length (doubled-next s i h) ∙ length-append (twice (get_or s i 0)) (doubled (drop (i + 1) s))

doubled-last : (s : List ℕ) (i : ℕ) → length s ≤ i → doubled (drop i s) ≡ []
unfolding doubled
doubled-last s i h = rw (drop_of_length-le s {i = i} h)

module _ (s : List ℕ) (i k : ℕ) (inv : k + length (doubled (drop i s)) ≡ length (doubled s)) where
  pub doubled-size-step : (r : ℕ) → i < length s → r ≡ length (twice (get_or s i 0))
      → k + r + length (doubled (drop (i + 1) s)) ≡ length (doubled s)
  doubled-size-step r h e = let z = doubled-longer s i h in omega arith

  pub doubled-size-end : length s ≤ i → k ≡ length (doubled s)
  doubled-size-end h = let z = ap length (doubled-last s i h) in omega arith

-- an octet more for each quote
pub doubled_count : (s : List ℕ) → length (doubled s) ≡ length s + count_by (λ x. eqb x 34) s
unfolding doubled
doubled_count [] = refl
doubled_count (x ∷ s) =
    let z = sum_by-cons (λ y. cond (eqb y 34) 1 0) x s in
    go (eqb x 34) (doubled_count s) ∙ ap (λ n. suc (length s) + n) (sym z)
  where
    go : (b : Bool) → length (doubled s) ≡ length s + count_by (λ y. eqb y 34) s
        → length (cond b (34 ∷ 34 ∷ []) (x ∷ []) ++ doubled s)
        ≡ suc (length s) + (cond b 1 0 + count_by (λ y. eqb y 34) s)
    go true e = omega arith
    go false e = omega arith

pub ruleset doubled_sizes = (twice_two, twice-one, doubled-size-step, doubled-size-end)

module _ (s : List ℕ) (b : Bool) (e : b ≡ marked s) where
  in-quotes : b ≡ true → spelt s ≡ quoted s
  in-quotes z = spelt-quoted s (sym e ∙ z)

  plain : b ≡ false → spelt s ≡ s
  plain z = spelt-plain s (sym e ∙ z)

  pub string-size-quoted : (k : ℕ) → b ≡ true → k ≡ length (doubled s) → k + 2 ≡ length (spelt s)
  string-size-quoted k z q = rw (in-quotes z, quoted-long s, q)

  pub string-size-plain : b ≡ false → length s ≡ length (spelt s)
  string-size-plain z = rw (plain z)

  pub put-string-room : (at : ℕ) (d : List ℕ) → b ≡ true → at + length (spelt s) ≤ length d
      → at + length (quoted s) ≤ length d
  put-string-room at d z h = rw (in-quotes z) at h

  pub put-string-end : (at r : ℕ) → b ≡ true → r ≡ at + length (quoted s) → r ≡ at + length (spelt s)
  put-string-end at r z q = rw (in-quotes z) q

  pub put-string-quoted : (d out : List ℕ) (at : ℕ) → b ≡ true → out ≡ splice d at (quoted s)
      → out ≡ splice d at (spelt s)
  put-string-quoted d out at z q = rw (in-quotes z) q

  pub put-string-fits : (at : ℕ) (d : List ℕ) → b ≡ false → at + length (spelt s) ≤ length d → length d < 2 ^ 64
      → Fits w64 (at + length s)
  put-string-fits at d z h l = record { fits = let y = rw (plain z) at h in omega arith }

  pub put-string-plain : (d out : List ℕ) (at : ℕ) → b ≡ false → at + length (spelt s) ≤ length d → out ≡ stored d at s
      → out ≡ splice d at (spelt s)
  put-string-plain d out at z h q = rw (plain z) (q ∙ stored-in d at s (rw (plain z) at h))

  pub put-string-length : (at : ℕ) → b ≡ false → at + length s ≡ at + length (spelt s)
  put-string-length at z = rw (plain z)

pub ruleset string_cases = (
  string-size-quoted,
  string-size-plain,
  put-string-room,
  put-string-end,
  put-string-quoted,
  put-string-fits,
  put-string-plain,
  put-string-length,
)

-- ---- stores of strings

pub twice-room : (d : List ℕ) (at x : ℕ) → at + length (twice x) ≤ length d → at < length d
twice-room d at x h = let z = twice-some x in omega arith
  where
    twice-some : (x : ℕ) → 1 ≤ length (twice x)
    twice-some x = go (eqb x 34)
      where
        go : (b : Bool) → 1 ≤ length (cond b (34 ∷ 34 ∷ []) (x ∷ []))
        go true = omega arith
        go false = omega arith

pub twice-room-two : (d : List ℕ) (at x : ℕ) → x ≡ 34 → at + length (twice x) ≤ length d → at + 1 < length d
twice-room-two d at x e h = let z = twice_two x e in omega arith

pub twice-put-one : (d : List ℕ) (at x : ℕ) → (x ≡ 34 → ⊥) → at + length (twice x) ≤ length d
    → set d at x ≡ splice d at (twice x)
twice-put-one d at x e h = rw (ne_eqb x 34 e) (splice-one d at x (twice-room d at x h))

pub twice-put-two : (d : List ℕ) (at x : ℕ) → x ≡ 34 → at + length (twice x) ≤ length d
    → set (set d at x) (at + 1) 34 ≡ splice d at (twice x)
twice-put-two d at x e h =
    let k = twice-room-two d at x e h in
    let l = length-set d at x in
    rw (eq-eqb x 34 e)
    (splice-one (set d at x) (at + 1) 34 (omega arith) ∙ laid_one d x (34 ∷ []) at (omega arith)
    ∙ ap (λ (y : ℕ). splice d at (y ∷ 34 ∷ [])) e)

pub ruleset twice_cases = (twice-one, twice_two, twice-room, twice-room-two, twice-put-one, twice-put-two)

-- s is put behind what stands before at; i octets of it are done, up to k
module _ (out d s : List ℕ) (at i k : ℕ) (inv : splice out k (doubled (drop i s)) ≡ splice d at (doubled s))
    (many : k + length (doubled (drop i s)) ≡ at + length (doubled s))
    (long : length out ≡ length d) (room : at + length (doubled s) ≤ length d) where
  module _ (h : i < length s) where
    pub doubled-room : k + length (twice (get_or s i 0)) ≤ length out
    doubled-room = let z = doubled-longer s i h in omega arith

    module _ (new : List ℕ) (q : new ≡ splice out k (twice (get_or s i 0))) (r : ℕ)
        (e : r ≡ length (twice (get_or s i 0))) where
      pub doubled-step : splice new (k + r) (doubled (drop (i + 1) s)) ≡ splice d at (doubled s)
      doubled-step =
          let z = doubled-longer s i h in
          laid out new (twice (get_or s i 0)) (doubled (drop (i + 1) s)) k (k + r) q (ap (λ (x : ℕ). k + x) e)
          (omega arith) ∙ ap (splice out k) (sym (doubled-next s i h)) ∙ inv

      pub doubled-kept : length new ≡ length d
      doubled-kept = laid-long out new (twice (get_or s i 0)) k q doubled-room ∙ long

    pub doubled_fits : (r : ℕ) → r ≡ length (twice (get_or s i 0)) → length d < 2 ^ 64 → Fits w64 (k + r)
    doubled_fits r e l = record { fits = let z = doubled-longer s i h in omega arith }

    pub doubled-many : (r : ℕ) → r ≡ length (twice (get_or s i 0))
        → k + r + length (doubled (drop (i + 1) s)) ≡ at + length (doubled s)
    doubled-many r e = let z = doubled-longer s i h in omega arith

  pub doubled-done : length s ≤ i → out ≡ splice d at (doubled s)
  doubled-done h = sym (splice-nil out k) ∙ rw (doubled-last s i h) at inv

  pub doubled-end : length s ≤ i → k ≡ at + length (doubled s)
  doubled-end h = let z = ap length (doubled-last s i h) in omega arith

pub ruleset doubled_cases =
    (doubled-room, doubled-step, doubled-kept, doubled_fits, doubled-many, doubled-done, doubled-end)

module _ (d s : List ℕ) (at : ℕ) (room : at + length (quoted s) ≤ length d) where
  pub quoted-first : at < length d
  quoted-first = let z = quoted-long s in omega arith

  pub quoted-room : at + 1 + length (doubled s) ≤ length (set d at 34)
  quoted-room = let z = quoted-long s in let l = length-set d at 34 in omega arith

  pub quoted-fits : length d < 2 ^ 64 → Fits w64 (at + 1)
  quoted-fits l = record { fits = let z = quoted-long s in omega arith }

  module _ (new : List ℕ) (end : ℕ) (q : new ≡ splice (set d at 34) (at + 1) (doubled s))
      (e : end ≡ at + 1 + length (doubled s)) where
    pub quoted-kept : length new ≡ length d
    quoted-kept = laid-long (set d at 34) new (doubled s) (at + 1) q quoted-room ∙ length-set d at 34

    pub quoted-last : end < length new
    quoted-last = let z = quoted-long s in let l = quoted-kept in omega arith

    pub quoted-put : set new end 34 ≡ splice d at (quoted s)
    unfolding quoted
    quoted-put =
        let z = quoted-long s in
        let l = length-set d at 34 in
        splice-one new end 34 quoted-last ∙ laid (set d at 34) new (doubled s) (34 ∷ []) (at + 1) end q e (omega arith)
        ∙ laid_one d 34 (doubled s ++ (34 ∷ [])) at (rw (length-append (doubled s) (34 ∷ [])) (omega arith))

  pub quoted-end : (end : ℕ) → end ≡ at + 1 + length (doubled s) → end + 1 ≡ at + length (quoted s)
  quoted-end end e = let z = quoted-long s in omega arith

  pub quoted-end-fits : (end : ℕ) → end ≡ at + 1 + length (doubled s) → length d < 2 ^ 64 → Fits w64 (end + 1)
  quoted-end-fits end e l = record { fits = let z = quoted-long s in omega arith }

pub ruleset quoted_cases =
    (quoted-first, quoted-room, quoted-fits, quoted-kept, quoted-last, quoted-put, quoted-end, quoted-end-fits)
