-- The ways of the code that walks over strings, on plain values. Each is one step of the definition at what is left of the list.
use Rattle.std.specs.Prelude.{ℕ, zero, suc, ◌+◌, ◌-◌, ◌≤◌, ◌<◌, eqb, ◌≡◌, refl, List, [], ◌∷◌, ◌++◌, length, get_or, drop, true, false, cond, Bool, not, ltb}
use Rattle.std.proofs.Common.{add-zero, arith, ap, ◌∙◌, drop_of_length-le, length-append, length-drop, drop-drop, get_or-drop, get_or-append-add}
use Rattle.std.proofs.Math.Path.{sym}
use Rattle.std.proofs.Math.ListN.{get_or-append, get_or-eq_default}
use borrow.Author.Tests.{lt-ltb, eq-eqb, ne_eqb}
use Rattle.std.specs.List.{position, position_or_len, list_any}
use Rattle.std.specs.Prelude.{Option, Some, None, ◌||◌}
use Rattle.std.proofs.lemmas.Bool.{eqb-false}
use Rattle.std.proofs.Common.{eqb-true, le-ltb, zero-add}
use Rattle.octets.specs.Cases.{split}
use Rattle.octets.specs.Octets.{octet_at, drop-next, no-octets}
use Rattle.answers.specs.Walk.{Walk}
use Rattle.answers.specs.Walk.{Ends}
use Rattle.answers.specs.Walk.{broken, ends_at}
use Rattle.text.specs.Narrow.{narrow_from, narrow_of}
use Rattle.text.specs.Utf8.{low_of, high_of, width_of, char_width, text_from, text_of}
use Rattle.text.specs.Char.{char-sound}
use Rattle.text.specs.Text.{skip}

module _ (s : List ℕ) (i : ℕ) (inv : narrow_from i (drop i s) ≡ narrow_of s) where
  pub ended : length s ≤ i → broken ≡ narrow_of s
  unfolding narrow_from
  ended h = rw (drop_of_length-le s h) at inv

  pub empty : i < length s → get_or s i 0 ≡ 0 → i ≡ 0 → broken ≡ narrow_of s
  unfolding narrow_from
  empty h z e = simp (drop-next s i h, eq-eqb (get_or s i 0) 0 z, eq-eqb i 0 e) at inv

  pub found : i < length s → get_or s i 0 ≡ 0 → (i ≡ 0 → ⊥) → Ends (i + 1) ≡ narrow_of s
  unfolding narrow_from
  found h z e = simp (drop-next s i h, eq-eqb (get_or s i 0) 0 z, ne_eqb i 0 e) at inv

  pub next : i < length s → (get_or s i 0 ≡ 0 → ⊥) → narrow_from (i + 1) (drop (i + 1) s) ≡ narrow_of s
  unfolding narrow_from
  next h z = simp (drop-next s i h, ne_eqb (get_or s i 0) 0 z) at inv

-- the width that `char_at` answers, from the octets that it read
pub whole : {r : ℕ} (s : List ℕ) (i a b c d lo hi : ℕ) → r ≡ width_of a b c d lo hi
    → a ≡ octet_at s i → b ≡ octet_at s (i + 1) → c ≡ octet_at s (i + 2) → d ≡ octet_at s (i + 3) → lo ≡ low_of a → hi ≡ high_of a
    → r ≡ char_width s i
unfolding char_width
whole s i a b c d lo hi q ea eb ec ed el eh = rw (el, eh, ea, eb, ec, ed) at q

-- one octet below 128 is a character, whatever follows
pub ascii : (s : List ℕ) (i a : ℕ) → a < 128 → a ≡ octet_at s i → 1 ≡ char_width s i
unfolding char_width width_of
ascii s i a h e = rw (← e, lt-ltb a 128 h)

-- The ways of `utf8_string`.
char-drop : (s : List ℕ) (i : ℕ) → char_width (drop i s) 0 ≡ char_width s i
unfolding char_width
char-drop s i = simp (get_or-drop, add-zero)

module _ (s : List ℕ) (i : ℕ) (inv : text_from 0 i (drop i s) ≡ text_of s) where
  pub u-ended : length s ≤ i → broken ≡ text_of s
  unfolding text_from
  u-ended h = rw (drop_of_length-le s h) at inv

  module _ (h : i < length s) where
    -- one turn
    turn : text_from 0 i (drop i s)
        ≡ cond (eqb (get_or s i 0) 0) (cond (eqb i 0) broken (Ends (i + 1)))
        (cond (eqb (char_width s i) 0) broken (text_from (char_width s i - 1) (i + 1) (drop (i + 1) s)))
    unfolding text_from
    turn = rw (← char-drop s i, drop-next s i h)

    pub u_empty : get_or s i 0 ≡ 0 → i ≡ 0 → broken ≡ text_of s
    u_empty z e = simp (turn, eq-eqb (get_or s i 0) 0 z, eq-eqb i 0 e) at inv

    pub u-found : get_or s i 0 ≡ 0 → (i ≡ 0 → ⊥) → Ends (i + 1) ≡ text_of s
    u-found z e = simp (turn, eq-eqb (get_or s i 0) 0 z, ne_eqb i 0 e) at inv

    module _ (z : get_or s i 0 ≡ 0 → ⊥) (k : ℕ) (w : k ≡ char_width s i) where
      pub u-broken : k ≡ 0 → broken ≡ text_of s
      u-broken e = simp (turn, ne_eqb (get_or s i 0) 0 z, ← w, eq-eqb k 0 e) at inv

      pub u-next : (k ≡ 0 → ⊥) → text_from 0 (i + k) (drop (i + k) s) ≡ text_of s
      u-next e =
          let a : i + 1 + (k - 1) ≡ i + k = omega arith in
          let q = simp (turn, ne_eqb (get_or s i 0) 0 z, ← w, ne_eqb k 0 e) at inv in
          sym (simp (drop-drop, a) at (skip (k - 1) (i + 1) (drop (i + 1) s))) ∙ q

-- ---- octets handed over without the 0 behind them

abbrev pub closed : List ℕ → List ℕ
closed s = s ++ (0 ∷ [])

closed_at : (s : List ℕ) (i : ℕ) → octet_at (closed s) i ≡ octet_at s i
closed_at s i =
    split i (length s) (λ h. get_or-append s (0 ∷ []) 0 i h)
    (λ h. let e : length s + (i - length s) ≡ i = omega arith in
    rw e at (get_or-append-add s (0 ∷ []) (i - length s) 0) ∙ none (i - length s) ∙ sym (get_or-eq_default s 0 {n = i} h))
  where
    none : (j : ℕ) → octet_at (0 ∷ []) j ≡ 0
    none zero = refl
    none (suc j) = refl

closed-width : (s : List ℕ) (i : ℕ) → char_width (closed s) i ≡ char_width s i
unfolding char_width
closed-width s i = simp (closed_at)

closed-length : (s : List ℕ) → length (closed s) ≡ length s + 1
closed-length s = length-append s (0 ∷ [])

module _ (s : List ℕ) where
  closed-zero : (i : ℕ) → i < length s → ends_at (cond (eqb i 0) broken (Ends (i + 1))) (length s + 1) ≡ false
  closed-zero zero h = refl
  closed-zero (suc i) h = rw (ne_eqb (suc i) 0 (λ e. omega arith)) (ne_eqb (suc i + 1) (length s + 1) (λ e. omega arith))

  closed-end : (i : ℕ) → (length s ≡ 0 → ⊥) → i ≡ length s → cond (eqb i 0) broken (Ends (i + 1)) ≡ Ends (length s + 1)
  closed-end i n e = rw (e, ne_eqb (length s) 0 n)

  pub bare-empty : length s ≡ 0 → false ≡ ends_at (narrow_of (closed s)) (length s + 1)
  unfolding narrow_from
  bare-empty e = rw (no-octets s e)

  pub chars-empty : length s ≡ 0 → false ≡ ends_at (text_of (closed s)) (length s + 1)
  unfolding text_from
  chars-empty e = rw (no-octets s e)

  module _ (i : ℕ) (inv : narrow_from i (drop i (closed s)) ≡ narrow_of (closed s)) where
    bare-turn : i < length s + 1 → narrow_of (closed s) ≡ cond (eqb (octet_at s i) 0) (cond (eqb i 0) broken (Ends (i + 1))) (narrow_from (i + 1) (drop (i + 1) (closed s)))
    unfolding narrow_from
    bare-turn h =
        let l = closed-length s in
        sym inv ∙ rw (drop-next (closed s) i (omega arith), closed_at s i)

    pub bare-zero : i < length s → get_or s i 0 ≡ 0 → false ≡ ends_at (narrow_of (closed s)) (length s + 1)
    bare-zero h z = rw (bare-turn (omega arith), eq-eqb (get_or s i 0) 0 z, closed-zero i h)

    pub bare-next : i < length s → (get_or s i 0 ≡ 0 → ⊥) → narrow_from (i + 1) (drop (i + 1) (closed s)) ≡ narrow_of (closed s)
    bare-next h z = sym (rw (ne_eqb (get_or s i 0) 0 z) at (bare-turn (omega arith)))

    pub bare-end : (length s ≡ 0 → ⊥) → i ≤ length s → length s ≤ i → true ≡ ends_at (narrow_of (closed s)) (length s + 1)
    bare-end n h k =
        rw (bare-turn (omega arith), get_or-eq_default s 0 {n = i} k, closed-end i n (omega arith), eq-eqb (length s + 1) (length s + 1) refl)

  module _ (i : ℕ) (inv : text_from 0 i (drop i (closed s)) ≡ text_of (closed s)) where
    chars-turn : i < length s + 1 → text_of (closed s) ≡ cond (eqb (octet_at s i) 0) (cond (eqb i 0) broken (Ends (i + 1)))
        (cond (eqb (char_width s i) 0) broken (text_from (char_width s i - 1) (i + 1) (drop (i + 1) (closed s))))
    chars-turn h =
        let l = closed-length s in
        sym inv ∙ rw (← closed_at s i, ← closed-width s i) (turn (closed s) i inv (omega arith))

    pub chars-zero : i < length s → get_or s i 0 ≡ 0 → false ≡ ends_at (text_of (closed s)) (length s + 1)
    chars-zero h z = rw (chars-turn (omega arith), eq-eqb (get_or s i 0) 0 z, closed-zero i h)

    module _ (h : i < length s) (z : get_or s i 0 ≡ 0 → ⊥) (k : ℕ) (w : k ≡ char_width s i) where
      pub chars-broken : k ≡ 0 → false ≡ ends_at (text_of (closed s)) (length s + 1)
      chars-broken e = rw (chars-turn (omega arith), ne_eqb (get_or s i 0) 0 z, ← w, eq-eqb k 0 e)

      pub chars-next : (k ≡ 0 → ⊥) → text_from 0 (i + k) (drop (i + k) (closed s)) ≡ text_of (closed s)
      chars-next e =
          let l = closed-length s in
          u-next (closed s) i inv (omega arith) (λ q. z (sym (closed_at s i) ∙ q)) k (w ∙ sym (closed-width s i)) e

    pub chars-end : (length s ≡ 0 → ⊥) → i ≤ length s → length s ≤ i → true ≡ ends_at (text_of (closed s)) (length s + 1)
    chars-end n h k =
        rw (chars-turn (omega arith), get_or-eq_default s 0 {n = i} k, closed-end i n (omega arith), eq-eqb (length s + 1) (length s + 1) refl)

-- a character that begins in the octets ends in them
pub chars-in : (s : List ℕ) (i k : ℕ) → i < length s → (get_or s i 0 ≡ 0 → ⊥) → k ≡ char_width s i → (k ≡ 0 → ⊥) → i + k ≤ length s
chars-in s i k h z w e =
    let x : octet_at (drop i s) 0 ≡ octet_at s i = simp (get_or-drop, add-zero) in
    let t = char-sound (drop i s) k (omega (arith, x)) (char-drop s i ∙ sym w) e in
    let l = simp length-append at (ap length t.reads) in
    omega (arith, l, t.wide, length-drop i s)

-- ---- the walk over characters, which a string with its 0 and one without share

-- i octets at the front are characters, none of them a 0
pub record CharsTo (s : List ℕ) (i : ℕ) : Type 0 where
  pub within : i ≤ length s
  pub ended : text_from 0 i (drop i s) ≡ text_of s
  pub bare : text_from 0 i (drop i (closed s)) ≡ text_of (closed s)

-- and no character stands behind them
abbrev pub CharsStop : List ℕ → ℕ → Type 0
CharsStop s i = i < length s → (get_or s i 0 ≡ 0 → ⊥) → char_width s i ≡ 0

pub chars-start : (s : List ℕ) → CharsTo s 0
chars-start s = record { within = omega arith; ended = refl; bare = refl }

module _ (s : List ℕ) (i : ℕ) (c : CharsTo s i) where
  pub chars-on : i < length s → (get_or s i 0 ≡ 0 → ⊥) → (k : ℕ) → k ≡ char_width s i → (k ≡ 0 → ⊥) → CharsTo s (i + k)
  chars-on h z k w e = record {
    within = chars-in s i k h z w e;
    ended = u-next s i c.ended h z k w e;
    bare = chars-next s i c.bare h z k w e;
  }

  pub ends-none : length s ≤ i → broken ≡ text_of s
  ends-none h = u-ended s i c.ended h

  pub ends-broken : i < length s → (get_or s i 0 ≡ 0 → ⊥) → CharsStop s i → broken ≡ text_of s
  ends-broken h z stop = u-broken s i c.ended h z _ refl (stop h z)

  pub ends-first : i < length s → get_or s i 0 ≡ 0 → i ≡ 0 → broken ≡ text_of s
  ends-first h z e = u_empty s i c.ended h z e

  pub ends-found : i < length s → get_or s i 0 ≡ 0 → (i ≡ 0 → ⊥) → Ends (i + 1) ≡ text_of s
  ends-found h z e = u-found s i c.ended h z e

  -- octets without their 0 are a string where all of them are characters
  pub chars-all : CharsStop s i → (length s ≡ 0 → ⊥) → eqb i (length s) ≡ ends_at (text_of (closed s)) (length s + 1)
  chars-all stop n =
      split i (length s) (λ h. rw (ne_eqb i (length s) (λ e. omega arith)) (by h (get_or s i 0) refl))
      (λ h. let w = c.within in let e : i ≡ length s = omega arith in
      rw (eq-eqb i (length s) e) (chars-end s i c.bare n w h))
    where
      by : i < length s → (x : ℕ) → get_or s i 0 ≡ x → false ≡ ends_at (text_of (closed s)) (length s + 1)
      by h zero z = chars-zero s i c.bare h z
      by h (suc x) z = let d : get_or s i 0 ≡ 0 → ⊥ = λ y. omega (arith, y, z) in
          chars-broken s i c.bare h d _ refl (stop h d)

pub ruleset ends = (ends-none, ends-broken, ends-first, ends-found)

pub ruleset bare = (bare-empty, bare-zero, bare-next, bare-end)

pub ruleset chars = (chars-empty, chars-zero, chars-broken, chars-next, chars-end, chars-in)

-- ---- by the place of the first 0

-- what a walk answers whose first 0 stands p octets on, of n octets, where i have gone before
abbrev answer : ℕ → ℕ → ℕ → Walk
answer i p n = cond (ltb p n) (cond (eqb (i + p) 0) broken (Ends (i + p + 1))) broken

ltb_suc : (p n : ℕ) → ltb (1 + p) (suc n) ≡ ltb p n
ltb_suc p n = split p n (λ h. rw (lt-ltb p n h, lt-ltb (1 + p) (suc n) (omega arith))) (λ h. rw (le-ltb p n h, le-ltb (1 + p) (suc n) (omega arith)))

narrow_at : (i : ℕ) (xs : List ℕ) → narrow_from i xs ≡ answer i (position_or_len (λ x. eqb x 0) xs) (length xs)
unfolding narrow_from
narrow_at i [] = refl
narrow_at i (x ∷ xs) = go (narrow_at (i + 1) xs) (eqb x 0)
  where
    go : narrow_from (i + 1) xs ≡ answer (i + 1) (position_or_len (λ y. eqb y 0) xs) (length xs) → (t : Bool)
        → cond t (cond (eqb i 0) broken (Ends (i + 1))) (narrow_from (i + 1) xs)
        ≡ answer i (cond (not t) (1 + position_or_len (λ y. eqb y 0) xs) 0) (suc (length xs))
    go h true = rw (lt-ltb 0 (suc (length xs)) (omega arith), add-zero)
    go h false =
        let p : ℕ = position_or_len (λ y. eqb y 0) xs in
        let e : i + (1 + p) ≡ i + 1 + p = omega arith in
        h ∙ rw (e, ltb_suc p (length xs))

abbrev ended_at : Option ℕ → Walk
ended_at None = broken
ended_at (Some p) = cond (eqb p 0) broken (Ends (p + 1))

narrow-place : (s : List ℕ) → narrow_of s ≡ ended_at (position (λ x. eqb x 0) s)
narrow-place s = rw (zero-add) at (narrow_at 0 s) ∙ go (ltb (position_or_len (λ x. eqb x 0) s) (length s))
  where
    go : (t : Bool) → cond t (ended_at (Some (position_or_len (λ x. eqb x 0) s))) broken ≡ ended_at (cond t (Some (position_or_len (λ x. eqb x 0) s)) None)
    go true = refl
    go false = refl

module _ (s : List ℕ) (o : Option ℕ) (e : o ≡ position (λ x. eqb x 0) s) where
  pub zero_found : (i : ℕ) → o ≡ Some i → 0 < i → Ends (i + 1) ≡ narrow_of s
  zero_found i f h = sym (rw (ne_eqb i 0 (omega arith)) at (rw (← e, f) at (narrow-place s)))

  pub zero_first : (i : ℕ) → o ≡ Some i → i ≤ 0 → broken ≡ narrow_of s
  zero_first i f h = sym (rw (eq-eqb i 0 (omega arith)) at (rw (← e, f) at (narrow-place s)))

  pub zero_missing : o ≡ None → broken ≡ narrow_of s
  zero_missing f = sym (rw (← e, f) at (narrow-place s))

-- ---- by whether there is a 0

closed_is : (i : ℕ) (xs : List ℕ) → 1 ≤ i + length xs
    → ends_at (narrow_from i (xs ++ (0 ∷ []))) (i + length xs + 1) ≡ not (list_any (λ y. eqb y 0) xs)
unfolding narrow_from
closed_is i [] h = rw (ne_eqb i 0 (omega arith), eq-eqb (i + 1) (i + 0 + 1) (omega arith))
closed_is i (x ∷ xs) h = go (closed_is (i + 1) xs (omega arith)) (eqb x 0)
  where
    here : (t : Bool) → ends_at (cond t broken (Ends (i + 1))) (i + suc (length xs) + 1) ≡ false
    here true = refl
    here false = ne_eqb (i + 1) (i + suc (length xs) + 1) (λ e. omega arith)

    go : ends_at (narrow_from (i + 1) (xs ++ (0 ∷ []))) (i + 1 + length xs + 1) ≡ not (list_any (λ y. eqb y 0) xs) → (t : Bool)
        → ends_at (cond t (cond (eqb i 0) broken (Ends (i + 1))) (narrow_from (i + 1) (xs ++ (0 ∷ [])))) (i + suc (length xs) + 1)
        ≡ not (t || list_any (λ y. eqb y 0) xs)
    go q true = here (eqb i 0)
    go q false =
        let e : i + suc (length xs) ≡ i + 1 + length xs = omega arith in
        rw e q

turned : (t u : Bool) → not t ≡ u → t ≡ not u
turned true u f = ap not f
turned false u f = ap not f

module _ (s : List ℕ) (r : Bool) (e : r ≡ eqb (length s) 0) where
  pub bare_none : not r ≡ false → not r ≡ ends_at (narrow_of (closed s)) (length s + 1)
  bare_none q = q ∙ bare-empty s (eqb-true (length s) 0 (sym e ∙ turned r false q))

  pub bare_some : (a : Bool) → a ≡ list_any (λ y. eqb y 0) s → not r ≡ true → not a ≡ ends_at (narrow_of (closed s)) (length s + 1)
  bare_some a f q =
      let n : length s ≡ 0 → ⊥ = eqb-false (length s) 0 (sym e ∙ turned r true q) in
      ap not f ∙ sym (rw zero-add at (closed_is 0 s (omega arith)))
