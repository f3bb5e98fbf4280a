-- The ways of the code that finds the entry of a column, on plain values; and that the entry stands in its record.
use Rattle.std.specs.Prelude.{ℕ, zero, suc, ◌+◌, ◌-◌, ◌^◌, ◌≤◌, ◌<◌, ◌≡◌, refl, Bool, true, false, cond, get_or}
use native.Mathlib.Omega.{arith}
use Rattle.std.proofs.Common.{add-zero, add-one, ◌∙◌, drop-drop, length-take-le, Fits}
use Rattle.std.proofs.Math.Nat.{sub-zero}
use Rattle.std.proofs.Math.Path.{sym, ap, ap₂}
use mathlib.Core.List.{List, [], ◌∷◌}
use Rattle.std.proofs.Math.ListN.{length, take, drop, length-drop}
use Rattle.std.specs.Int.{w64}
use Rattle.octets.specs.Octets.{rest_of}
use Rattle.octets.specs.Word.{word_of}
use Rattle.std.specs.Result.{result_unwrap_or}
use Rattle.answers.specs.Walk.{Walk}
use Rattle.answers.specs.Walk.{Ends, Broken}
use Rattle.presence.specs.Presence.{room, is_set}
use Rattle.value.specs.Types.{form_at}
use Rattle.value.specs.Value.{value_of}
use Rattle.value.specs.Within.{value-within}
use Rattle.entry.specs.Record.{Slot, present_in, values_in}
use Rattle.entry.specs.Slots.{slots_from, slots-many, slots_next, step_of}
use Rattle.entry.specs.Cases.{step-within}
use Rattle.editing.specs.Put.{Spot, spot_on, spot_from, spot_in}
use Rattle.editing.specs.InPlace.{part_of}
use Rattle.editing.specs.Stands.{Stands}
use Rattle.editing.specs.declared.Cell.{Cell}
use Rattle.correcting.specs.declared.Stretch.{Stretch}

-- ---- find_value

unfoldable pub as_stretch : Spot → Stretch
as_stretch s = record { start = s.start; long = s.long }

-- a column is one step, and so is the last one
spot-step : (s : Slot) (ss : List Slot) (c i : ℕ) (p : List ℕ) (at : ℕ) (ys : List ℕ)
    → spot_from (s ∷ ss) (suc c) i p at ys ≡ spot_on (step_of p i s.form ys) (λ w. spot_from ss c (suc i) p (at + w) (drop w ys)) at
unfolding spot_from step_of
spot-step s ss c i p at ys = go (is_set p i)
  where
    go : (b : Bool) → cond b (spot_on (value_of s.form ys) (λ w. spot_from ss c (suc i) p (at + w) (drop w ys)) at) (spot_from ss c (suc i) p at ys)
        ≡ spot_on (cond b (value_of s.form ys) (Ends 0)) (λ w. spot_from ss c (suc i) p (at + w) (drop w ys)) at
    go true = refl
    go false = rw (add-zero at)

spot-last : (s : Slot) (ss : List Slot) (i : ℕ) (p : List ℕ) (at : ℕ) (ys : List ℕ)
    → spot_from (s ∷ ss) zero i p at ys ≡ spot_on (step_of p i s.form ys) (λ w. record { start = at; long = w }) at
unfolding spot_from step_of
spot-last s ss i p at ys = go (is_set p i)
  where
    go : (b : Bool) → ◌≡◌ {A = Spot} (cond b (spot_on (value_of s.form ys) (λ w. record { start = at; long = w }) at) (record { start = at; long = 0 }))
        (spot_on (cond b (value_of s.form ys) (Ends 0)) (λ w. record { start = at; long = w }) at)
    go true = refl
    go false = refl

pub find-start : (forms p s : List ℕ) (c at : ℕ) → spot_from (drop 0 (slots_from forms [])) (c - 0) 0 p (at + 0) (drop 0 s) ≡ spot_from (slots_from forms []) c 0 p at s
find-start forms p s c at = rw (sub-zero c, add-zero at)

module _ (forms p s : List ℕ) (c at i j : ℕ) (inv : spot_from (drop j (slots_from forms [])) (c - j) j p (at + i) (drop i s) ≡ spot_from (slots_from forms []) c 0 p at s) where
  module _ (r : Walk) (e : r ≡ step_of p j (form_at (get_or forms j 0)) (take (length s - i) (drop i s))) where
    step_is : step_of p j (form_at (get_or forms j 0)) (drop i s) ≡ r
    step_is = rw (rest_of s i) at (sym e)

    pub find-in : i ≤ length s → (w : ℕ) → r ≡ Ends w → i + w ≤ length s
    find-in h w z = omega (arith, rw (length-drop i s) at (step-within p j (form_at (get_or forms j 0)) (drop i s) w (step_is ∙ z)))

    pub find-fits : i ≤ length s → (w : ℕ) → r ≡ Ends w → length s < 2 ^ 64 → Fits w64 (i + w)
    find-fits h w z k = record { fits = let l = find-in h w z in omega arith }

    module _ (h : j < c) (k : c < length forms) where
      one-step : spot_from (drop j (slots_from forms [])) (c - j) j p (at + i) (drop i s)
          ≡ spot_on r (λ w. spot_from (drop (j + 1) (slots_from forms [])) (c - (j + 1)) (suc j) p (at + i + w) (drop w (drop i s))) (at + i)
      one-step =
          let n : c - j ≡ suc (c - (j + 1)) = omega arith in
          rw (slots_next forms [] j (omega arith), n, spot-step _ _ (c - (j + 1)) j p (at + i) (drop i s), step_is)

      pub find-broken : (q : ℕ) → r ≡ Broken q → ◌≡◌ {A = Stretch} (record { start = at + i; long = 0 }) (as_stretch (spot_from (slots_from forms []) c 0 p at s))
      unfolding as_stretch
      find-broken q z = ap as_stretch (rw (one-step, z) at inv)

      pub find-next : (w : ℕ) → r ≡ Ends w → spot_from (drop (j + 1) (slots_from forms [])) (c - (j + 1)) (j + 1) p (at + (i + w)) (drop (i + w) s) ≡ spot_from (slots_from forms []) c 0 p at s
      find-next w z =
          let a : at + i + w ≡ at + (i + w) = omega arith in
          rw (one-step, z, drop-drop w i s, ← add-one j, a) at inv

  module _ (h : c ≤ j) (l : j ≤ c) (k : c < length forms) (r : Walk) (e : r ≡ step_of p c (form_at (get_or forms c 0)) (take (length s - i) (drop i s))) where
    last_step : spot_on r (λ w. record { start = at + i; long = w }) (at + i) ≡ spot_from (slots_from forms []) c 0 p at s
    last_step =
        let m : j ≡ c = omega arith in
        let n : c - c ≡ 0 = omega arith in
        let f : step_of p c (form_at (get_or forms c 0)) (drop i s) ≡ r = rw (rest_of s i) at (sym e) in
        rw (m, n, slots_next forms [] c k, spot-last _ _ c p (at + i) (drop i s), f) at inv

    pub find-lost : (q : ℕ) → r ≡ Broken q
        → ◌≡◌ {A = Stretch} (record { start = at + i; long = 0 }) (as_stretch (spot_from (slots_from forms []) c 0 p at s))
    unfolding as_stretch
    find-lost q z = ap as_stretch (rw z at last_step)

    pub find-found : (w : ℕ) → r ≡ Ends w
        → ◌≡◌ {A = Stretch} (record { start = at + i; long = w }) (as_stretch (spot_from (slots_from forms []) c 0 p at s))
    unfolding as_stretch
    find-found w z = ap as_stretch (rw z at last_step)

    pub find-last : (w : ℕ) → w ≡ result_unwrap_or r 0
        → ◌≡◌ {A = Stretch} (record { start = at + i; long = w }) (as_stretch (spot_from (slots_from forms []) c 0 p at s))
    unfolding as_stretch
    find-last w z = by r refl
      where
        by : (t : Walk) → r ≡ t
            → ◌≡◌ {A = Stretch} (record { start = at + i; long = w }) (as_stretch (spot_from (slots_from forms []) c 0 p at s))
        by (Ends v) q = rw (z, q) (ap as_stretch (rw q at last_step))
        by (Broken v) q = rw (z, q) (ap as_stretch (rw q at last_step))

-- ---- find_cell

-- column c of the record at `at` of b
unfoldable pub cell_at : List Slot → ℕ → ℕ → List ℕ → Cell
cell_at ss c at b = record { place = at; columns = length ss; column = c; start = (spot_in ss c at (drop at b)).start; long = (spot_in ss c at (drop at b)).long }

module _ (forms b : List ℕ) (c at m w : ℕ) (st : Stands (length forms) at b) (mz : m ≡ room (length forms)) (wz : w ≡ word_of 4 (drop at b)) where
  pub cell-is : (s : Stretch)
      → s ≡ as_stretch (spot_from (slots_from forms []) c 0 (take (at + 4 + m - (at + 4)) (drop (at + 4) b)) (at + 4 + m) (take (at + w - (at + 4 + m)) (drop (at + 4 + m) b)))
      → ◌≡◌ {A = Cell} (record { place = at; columns = length forms; column = c; start = s.start; long = s.long }) (cell_at (slots_from forms []) c at b)
  unfolding cell_at as_stretch spot_in
  cell-is s e =
      let h = st.head in
      let k = st.whole in
      let d : length (drop at b) ≡ length b - at = length-drop at b in
      let p : take (at + 4 + m - (at + 4)) (drop (at + 4) b) ≡ present_in (length forms) (drop at b) =
      rw (drop-drop 4 at b) (ap (λ (n : ℕ). take n (drop (at + 4) b)) octets) in
      let v : take (at + w - (at + 4 + m)) (drop (at + 4 + m) b) ≡ values_in (length forms) (drop at b) =
      ap₂ (λ (n i : ℕ). take n (drop i b)) less more ∙ ap (take (w - (4 + m))) (sym (drop-drop (4 + m) at b)) ∙ sym (part_of (drop at b) (4 + m) w (omega arith) (omega arith))
      ∙ ap₂ (λ (i n : ℕ). drop (4 + i) (take n (drop at b))) mz wz in
      rw (e, p, v, slots-many forms [], mz)
    where
      octets : at + 4 + m - (at + 4) ≡ room (length forms)
      octets = omega arith

      less : at + w - (at + 4 + m) ≡ w - (4 + m)
      less = omega arith

      more : at + 4 + m ≡ at + (4 + m)
      more = omega arith

-- keys play no part
spot-free : (forms flags : List ℕ) (c i : ℕ) (p : List ℕ) (at : ℕ) (ys : List ℕ) → spot_from (slots_from forms flags) c i p at ys ≡ spot_from (slots_from forms []) c i p at ys
unfolding spot_from
spot-free [] flags c i p at ys = refl
spot-free (f ∷ forms) flags zero i p at ys = refl
spot-free (f ∷ forms) flags (suc c) i p at ys = go (is_set p i) (value_of (form_at f) ys) (λ at zs. spot-free forms (drop 1 flags) c (suc i) p at zs)
  where
    go : (b : Bool) (r : Walk) → ((at : ℕ) (zs : List ℕ) → spot_from (slots_from forms (drop 1 flags)) c (suc i) p at zs ≡ spot_from (slots_from forms []) c (suc i) p at zs)
        → cond b (spot_on r (λ w. spot_from (slots_from forms (drop 1 flags)) c (suc i) p (at + w) (drop w ys)) at) (spot_from (slots_from forms (drop 1 flags)) c (suc i) p at ys)
        ≡ cond b (spot_on r (λ w. spot_from (slots_from forms []) c (suc i) p (at + w) (drop w ys)) at) (spot_from (slots_from forms []) c (suc i) p at ys)
    go true (Ends w) ih = ih (at + w) (drop w ys)
    go true (Broken q) ih = refl
    go false r ih = ih at ys

pub cell_free : (forms flags : List ℕ) (c at : ℕ) (b : List ℕ) → cell_at (slots_from forms flags) c at b ≡ cell_at (slots_from forms []) c at b
unfolding cell_at spot_in
cell_free forms flags c at b =
    rw (slots-many forms flags, slots-many forms [], spot-free forms flags c 0 (present_in (length forms) (drop at b)) (at + 4 + room (length forms)) (values_in (length forms) (drop at b)))

-- ---- the entry stands in its record

spot-lies : (ss : List Slot) (c i : ℕ) (p : List ℕ) (at : ℕ) (ys : List ℕ) → (at ≤ (spot_from ss c i p at ys).start) × ((spot_from ss c i p at ys).start + (spot_from ss c i p at ys).long ≤ at + length ys)
unfolding spot_from
spot-lies [] c i p at ys = (omega arith, omega arith)
spot-lies (s ∷ ss) zero i p at ys = go (is_set p i) (value_of s.form ys) refl
  where
    go : (b : Bool) (r : Walk) → value_of s.form ys ≡ r
        → (at ≤ (cond b (spot_on r (λ w. record { start = at; long = w }) at) (record { start = at; long = 0 })).start)
        × ((cond b (spot_on r (λ w. record { start = at; long = w }) at) (record { start = at; long = 0 })).start
        + (cond b (spot_on r (λ w. record { start = at; long = w }) at) (record { start = at; long = 0 })).long ≤ at + length ys)
    go true (Ends w) z = let l = value-within s.form ys w z in (omega arith, omega arith)
    go true (Broken q) z = (omega arith, omega arith)
    go false r z = (omega arith, omega arith)
spot-lies (s ∷ ss) (suc c) i p at ys = go (is_set p i) (value_of s.form ys) refl (λ at zs. spot-lies ss c (suc i) p at zs)
  where
    go : (b : Bool) (r : Walk) → value_of s.form ys ≡ r
        → ((at : ℕ) (zs : List ℕ) → (at ≤ (spot_from ss c (suc i) p at zs).start) × ((spot_from ss c (suc i) p at zs).start + (spot_from ss c (suc i) p at zs).long ≤ at + length zs))
        → (at ≤ (cond b (spot_on r (λ w. spot_from ss c (suc i) p (at + w) (drop w ys)) at) (spot_from ss c (suc i) p at ys)).start)
        × ((cond b (spot_on r (λ w. spot_from ss c (suc i) p (at + w) (drop w ys)) at) (spot_from ss c (suc i) p at ys)).start
        + (cond b (spot_on r (λ w. spot_from ss c (suc i) p (at + w) (drop w ys)) at) (spot_from ss c (suc i) p at ys)).long ≤ at + length ys)
    go true (Ends w) z ih =
        let l = value-within s.form ys w z in
        let d = length-drop w ys in
        let k = ih (at + w) (drop w ys) in
        (omega (arith, k.0), omega (arith, k.1))
    go true (Broken q) z ih = (omega arith, omega arith)
    go false r z ih = ih at ys

pub record Lies (c : Cell) (n at : ℕ) (b : List ℕ) : Type 0 where
  pub place : c.place ≡ at
  pub columns : c.columns ≡ n
  pub behind : at + 4 + room n ≤ c.start
  pub before : c.start + c.long ≤ at + word_of 4 (drop at b)

pub cell_lies : (ss : List Slot) (c at : ℕ) (b : List ℕ) → Stands (length ss) at b → Lies (cell_at ss c at b) (length ss) at b
unfolding cell_at spot_in
cell_lies ss c at b st =
    let xs : List ℕ = drop at b in
    let h = st.head in
    let k = st.whole in
    let d : length xs ≡ length b - at = length-drop at b in
    let t : length (take (word_of 4 xs) xs) ≡ word_of 4 xs = length-take-le (word_of 4 xs) xs (omega arith) in
    let v : length (values_in (length ss) xs) ≡ word_of 4 xs - (4 + room (length ss)) = length-drop (4 + room (length ss)) (take (word_of 4 xs) xs) ∙ ap (λ (n : ℕ). n - (4 + room (length ss))) t in
    let l = spot-lies ss c 0 (present_in (length ss) xs) (at + 4 + room (length ss)) (values_in (length ss) xs) in
    record { place = refl; columns = refl; behind = l.0; before = omega (arith, l.1) }
