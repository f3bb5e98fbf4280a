-- The ways of the code that goes over a field and lays its value down, on plain values.
use Rattle.std.specs.Prelude.{ℕ, zero, suc, ◌+◌, ◌-◌, ◌*◌, ◌/◌, ◌%◌, ◌≤◌, ◌<◌, ◌≡◌, refl, Bool, not, eqb, length, take, drop, get_or, set}
use Rattle.std.specs.List.{position_or_len}
use Rattle.std.specs.Option.{unwrap_or}
use Rattle.std.proofs.lemmas.List.Sums.{prefix_len-le-length}
use Rattle.std.proofs.Common.{Option, Some, None, ltb, lt-ltb, le-ltb, add-zero, zero-add, arith, sym, ◌∙◌, length-append, length-drop, drop_of_length-le, take_all, drop-drop, get_or-drop}
use Rattle.std.proofs.Math.Path.{ap}
use Rattle.std.proofs.Math.Bool.{true, false, cond}
use Rattle.std.proofs.Math.Option.{none, some}
use mathlib.Core.List.{List, [], ◌∷◌, ◌++◌}
use Rattle.std.proofs.Math.Arith.{digits_mod}
use borrow.Author.Tests.{eq-eqb, ne_eqb, eqb-true}
use Rattle.octets.specs.Cases.{split}
use Rattle.octets.specs.Octets.{octet_at, drop-next}
use Rattle.octets.specs.Splice.{splice, splice-nil, stored, stored-in}
use Rattle.octets.specs.Stores.{splice-one, laid, laid-long}
use Rattle.whole.specs.Number.{encode_number}
use Rattle.entry.specs.Values.{entry_octets}
use Rattle.sheet.specs.Digits.{number_from, number_in}
use Rattle.sheet.specs.Field.{is_mark}
use Rattle.sheet.specs.Marks.{mark-quote, no-mark}
use Rattle.sheet.specs.Reading.{unquoted, content_in}
use Rattle.importing.specs.Fields.{ends_by, inside_by, plain_long, quoted_long, field_long, is_quoted, unread_by, read_by}
use Rattle.importing.specs.Fields.{laid_from}

-- ---- the end of a field

mark-stops : (x : ℕ) (xs : List ℕ) → is_mark x ≡ true → plain_long (x ∷ xs) ≡ 0
unfolding plain_long
mark-stops x xs e = rw e

mark_on : (x : ℕ) (xs : List ℕ) → is_mark x ≡ false → plain_long (x ∷ xs) ≡ suc (plain_long xs)
unfolding plain_long
mark_on x xs e = rw e

quote-stops : (x : ℕ) (xs : List ℕ) → x ≡ 34 → quoted_long (x ∷ xs) ≡ 0
unfolding quoted_long
quote-stops x xs e = rw (eq-eqb x 34 e)

quote-goes : (x : ℕ) (xs : List ℕ) → (x ≡ 34 → ⊥) → quoted_long (x ∷ xs) ≡ suc (quoted_long xs)
unfolding quoted_long
quote-goes x xs e = rw (ne_eqb x 34 e)

none-plain : (s : List ℕ) (i : ℕ) → length s ≤ i → plain_long (drop i s) ≡ 0
unfolding plain_long
none-plain s i h = rw (drop_of_length-le s {i = i} h)

none-quoted : (s : List ℕ) (i : ℕ) → length s ≤ i → quoted_long (drop i s) ≡ 0
unfolding quoted_long
none-quoted s i h = rw (drop_of_length-le s {i = i} h)

module _ (s : List ℕ) (at i : ℕ) (inv : i + plain_long (drop i s) ≡ at + plain_long (drop at s)) where
  module _ (h : i < length s) (t : Bool) (e : t ≡ is_mark (get_or s i 0)) where
    pub plain-stops : t ≡ true → i ≡ at + plain_long (drop at s)
    plain-stops z =
        let a = ap plain_long (drop-next s i h) ∙ mark-stops (get_or s i 0) (drop (i + 1) s) (sym e ∙ z) in
        omega arith

    pub plain-goes : t ≡ false → i + 1 + plain_long (drop (i + 1) s) ≡ at + plain_long (drop at s)
    plain-goes z =
        let a = ap plain_long (drop-next s i h) ∙ mark_on (get_or s i 0) (drop (i + 1) s) (sym e ∙ z) in
        omega arith

  pub plain-ends : length s ≤ i → i ≡ at + plain_long (drop at s)
  plain-ends h = let a = none-plain s i h in omega arith

-- the first place at which a test passes
pub first_place : (p : ℕ → Bool) (xs : List ℕ) (r : Option ℕ)
    → r ≡ cond (ltb (position_or_len p xs) (length xs)) (Some (position_or_len p xs)) None
    → unwrap_or r (length xs) ≡ position_or_len p xs
first_place p xs r e =
    let l = prefix_len-le-length (λ x. not (p x)) xs in
    split (position_or_len p xs) (length xs) (λ h. rw (e, lt-ltb (position_or_len p xs) (length xs) h))
    (λ h. rw (e, le-ltb (position_or_len p xs) (length xs) h) (omega arith))

pub plain_place : (xs : List ℕ) → plain_long xs ≡ position_or_len is_mark xs
unfolding plain_long
plain_place [] = refl
plain_place (x ∷ xs) = go (is_mark x) (plain_place xs)
  where
    go : (b : Bool) → plain_long xs ≡ position_or_len is_mark xs
        → cond b 0 (suc (plain_long xs)) ≡ cond (not b) (1 + position_or_len is_mark xs) 0
    go true e = refl
    go false e = omega arith

pub quoted_place : (xs : List ℕ) → quoted_long xs ≡ position_or_len (λ x. eqb x 34) xs
unfolding quoted_long
quoted_place [] = refl
quoted_place (x ∷ xs) = go (eqb x 34) (quoted_place xs)
  where
    go : (b : Bool) → quoted_long xs ≡ position_or_len (λ y. eqb y 34) xs
        → cond b 0 (suc (quoted_long xs)) ≡ cond (not b) (1 + position_or_len (λ y. eqb y 34) xs) 0
    go true e = refl
    go false e = omega arith

module _ (s : List ℕ) (at : ℕ) (h : at ≤ length s) (r : Option ℕ) (u : ℕ)
    (e : u ≡ unwrap_or r (length (take (length s - at) (drop at s)))) where
  place-from : (p : ℕ → Bool) (long : List ℕ → ℕ) → ((xs : List ℕ) → long xs ≡ position_or_len p xs)
      → r ≡ cond (ltb (position_or_len p (take (length s - at) (drop at s))) (length (take (length s - at) (drop at s))))
      (Some (position_or_len p (take (length s - at) (drop at s)))) None
      → (at + u ≡ at + long (drop at s)) × (at + u ≤ length s)
  place-from p long is q =
      let l = length-drop at s in
      let a : take (length s - at) (drop at s) ≡ drop at s = take_all (length s - at) (drop at s) (omega arith) in
      let b : u ≡ position_or_len p (drop at s) = rw a at (e ∙ first_place p _ r q) in
      let c = prefix_len-le-length (λ x. not (p x)) (drop at s) in
      let d = is (drop at s) in
      (omega arith, omega arith)

  pub plain_from : r ≡ cond
      (ltb (position_or_len is_mark (take (length s - at) (drop at s))) (length (take (length s - at) (drop at s))))
      (Some (position_or_len is_mark (take (length s - at) (drop at s)))) None
      → (at + u ≡ at + plain_long (drop at s)) × (at + u ≤ length s)
  plain_from = place-from is_mark plain_long plain_place

  pub quoted_from : r ≡ cond
      (ltb (position_or_len (λ x. eqb x 34) (take (length s - at) (drop at s)))
      (length (take (length s - at) (drop at s))))
      (Some (position_or_len (λ x. eqb x 34) (take (length s - at) (drop at s)))) None
      → (at + u ≡ at + quoted_long (drop at s)) × (at + u ≤ length s)
  quoted_from = place-from (λ x. eqb x 34) quoted_long quoted_place

pub ruleset plain_end = (plain-stops, plain-goes, plain-ends)

module _ (s : List ℕ) (at i : ℕ) (inv : i + quoted_long (drop i s) ≡ at + quoted_long (drop at s)) where
  module _ (h : i < length s) where
    pub quoted-stops : get_or s i 0 ≡ 34 → i ≡ at + quoted_long (drop at s)
    quoted-stops z =
        let a = ap quoted_long (drop-next s i h) ∙ quote-stops (get_or s i 0) (drop (i + 1) s) z in
        omega arith

    pub quoted-goes : (get_or s i 0 ≡ 34 → ⊥) → i + 1 + quoted_long (drop (i + 1) s) ≡ at + quoted_long (drop at s)
    quoted-goes z =
        let a = ap quoted_long (drop-next s i h) ∙ quote-goes (get_or s i 0) (drop (i + 1) s) z in
        omega arith

  pub quoted-ends : length s ≤ i → i ≡ at + quoted_long (drop at s)
  quoted-ends h = let a = none-quoted s i h in omega arith

pub ruleset quote_from = (quoted-stops, quoted-goes, quoted-ends)

-- over what is no mark, and within quotes over what is no quote, a field goes on
over_plain : (xs : List ℕ) → field_long false xs ≡ plain_long xs + field_long false (drop (plain_long xs) xs)
unfolding plain_long field_long ends_by inside_by
over_plain [] = refl
over_plain (x ∷ xs) = go (is_mark x) refl (over_plain xs)
  where
    go : (b : Bool) → is_mark x ≡ b
        → field_long false xs ≡ plain_long xs + field_long false (drop (plain_long xs) xs)
        → field_long false (x ∷ xs) ≡ cond b 0 (suc (plain_long xs))
        + field_long false (drop (cond b 0 (suc (plain_long xs))) (x ∷ xs))
    go true e ih = sym (zero-add (field_long false (x ∷ xs)))
    go false e ih =
        let a : eqb x 34 ≡ false = no-mark x 34 e mark-quote in
        rw (a, e) (let n = plain_long xs in omega arith)

over-quoted : (xs : List ℕ) → field_long true xs ≡ quoted_long xs + field_long true (drop (quoted_long xs) xs)
unfolding quoted_long field_long ends_by inside_by
over-quoted [] = refl
over-quoted (x ∷ xs) = go (eqb x 34) refl (over-quoted xs)
  where
    go : (b : Bool) → eqb x 34 ≡ b
        → field_long true xs ≡ quoted_long xs + field_long true (drop (quoted_long xs) xs)
        → field_long true (x ∷ xs) ≡ cond b 0 (suc (quoted_long xs))
        + field_long true (drop (cond b 0 (suc (quoted_long xs))) (x ∷ xs))
    go true e ih = sym (zero-add (field_long true (x ∷ xs)))
    go false e ih = rw e (omega arith)

-- where the plain run ends stands a mark
mark-there : (xs : List ℕ) → plain_long xs < length xs → is_mark (get_or xs (plain_long xs) 0) ≡ true
unfolding plain_long
mark-there [] h = absurd (omega arith)
mark-there (x ∷ xs) h = go (is_mark x) refl h (λ l. mark-there xs l)
  where
    go : (b : Bool) → is_mark x ≡ b → cond b 0 (suc (plain_long xs)) < suc (length xs)
        → (plain_long xs < length xs → is_mark (get_or xs (plain_long xs) 0) ≡ true)
        → is_mark (get_or (x ∷ xs) (cond b 0 (suc (plain_long xs))) 0) ≡ true
    go true e l f = e
    go false e l f = f (omega arith)

quote-there : (xs : List ℕ) → quoted_long xs < length xs → get_or xs (quoted_long xs) 0 ≡ 34
unfolding quoted_long
quote-there [] h = absurd (omega arith)
quote-there (x ∷ xs) h = go (eqb x 34) refl h (λ l. quote-there xs l)
  where
    go : (b : Bool) → eqb x 34 ≡ b → cond b 0 (suc (quoted_long xs)) < suc (length xs)
        → (quoted_long xs < length xs → get_or xs (quoted_long xs) 0 ≡ 34)
        → get_or (x ∷ xs) (cond b 0 (suc (quoted_long xs))) 0 ≡ 34
    go true e l f = eqb-true x 34 e
    go false e l f = f (omega arith)

-- what is known where a plain run has ended: the field goes on from there, and a mark stands there or nothing
pub record At (s : List ℕ) (at i : ℕ) : Type 0 where
  pub long : i + field_long false (drop i s) ≡ at + field_long false (drop at s)
  pub mark : i < length s → is_mark (get_or s i 0) ≡ true

at_mark : (s : List ℕ) (i r : ℕ) → i ≤ length s → r ≡ i + plain_long (drop i s) → r < length s
    → is_mark (get_or s r 0) ≡ true
at_mark s i r l e h =
    let a = length-drop i s in
    rw e (rw (get_or-drop i s (plain_long (drop i s)) 0) at (mark-there (drop i s) (omega arith)))

on-to : (s : List ℕ) (i r : ℕ) → r ≡ i + plain_long (drop i s)
    → r + field_long false (drop r s) ≡ i + field_long false (drop i s)
on-to s i r e =
    let a = over_plain (drop i s) in
    let b = ap (field_long false) (drop-drop (plain_long (drop i s)) i s) in
    rw e (omega arith)

pub at_first : (s : List ℕ) (at r : ℕ) → at ≤ length s → r ≡ at + plain_long (drop at s) → At s at r
at_first s at r l e = record { long = on-to s at r e; mark = λ h. at_mark s at r l e h }

stop-long : (x : ℕ) (xs : List ℕ) → is_mark x ≡ true → (x ≡ 34 → ⊥) → field_long false (x ∷ xs) ≡ 0
unfolding field_long ends_by
stop-long x xs m n = rw (ne_eqb x 34 n, m)

turn-long : (q : Bool) (x : ℕ) (xs : List ℕ) → x ≡ 34 → field_long q (x ∷ xs) ≡ suc (field_long (not q) xs)
unfolding field_long ends_by inside_by
turn-long q x xs e = rw (eq-eqb x 34 e)

nothing-long : (q : Bool) (s : List ℕ) (i : ℕ) → length s ≤ i → field_long q (drop i s) ≡ 0
unfolding field_long
nothing-long q s i h = rw (drop_of_length-le s {i = i} h)

module _ (s : List ℕ) (at i : ℕ) (k : At s at i) where
  module _ (h : i < length s) where
    pub field-stops : (get_or s i 0 ≡ 34 → ⊥) → i ≡ at + field_long false (drop at s)
    field-stops n =
        let a = ap (field_long false) (drop-next s i h) ∙ stop-long (get_or s i 0) (drop (i + 1) s) (k.mark h) n in
        let b = k.long in
        omega arith

    module _ (q : get_or s i 0 ≡ 34) (c : ℕ) (e : c ≡ i + 1 + quoted_long (drop (i + 1) s)) where
      inner : at + field_long false (drop at s) ≡ c + field_long true (drop c s)
      inner =
          let a = ap (field_long false) (drop-next s i h) ∙ turn-long false (get_or s i 0) (drop (i + 1) s) q in
          let b = k.long in
          let d = over-quoted (drop (i + 1) s) in
          let f = ap (field_long true) (drop-drop (quoted_long (drop (i + 1) s)) (i + 1) s) in
          rw e (omega arith)

      pub field_open : length s ≤ c → c ≡ at + field_long false (drop at s)
      field_open l = let a = inner in let b = nothing-long true s c l in omega arith

      pub field_next : c < length s → (r : ℕ) → r ≡ c + 1 + plain_long (drop (c + 1) s) → At s at r
      field_next l r z =
          let m : quoted_long (drop (i + 1) s) < length (drop (i + 1) s) =
          (let a = length-drop (i + 1) s in omega arith) in
          let g : get_or s c 0 ≡ 34 =
          rw e (rw (get_or-drop (i + 1) s (quoted_long (drop (i + 1) s)) 0) at (quote-there (drop (i + 1) s) m)) in
          let a = ap (field_long true) (drop-next s c l) ∙ turn-long true (get_or s c 0) (drop (c + 1) s) g in
          let b = inner in
          let f = on-to s (c + 1) r z in
          record { long = omega arith; mark = λ x. at_mark s (c + 1) r (omega arith) z x }

  pub field-ends : length s ≤ i → i ≡ at + field_long false (drop at s)
  field-ends h = let a = nothing-long false s i h in let b = k.long in omega arith

pub ruleset field_end = (at_first, field-stops, field_open, field_next, field-ends)

-- ---- what it holds

pub unread-second : (b : Bool) (x : ℕ) → b ≡ true → false ≡ unread_by b x
unfolding unread_by
unread-second b x e = rw e

pub unread-quote : (b : Bool) (x : ℕ) → b ≡ false → eqb x 34 ≡ unread_by b x
unfolding unread_by
unread-quote b x e = rw e

pub ruleset unread_cases = (unread-second, unread-quote)

pub unquoted-next : (b : Bool) (x : ℕ) (xs : List ℕ)
    → unquoted b (x ∷ xs) ≡ read_by (unread_by b x) x ++ unquoted (unread_by b x) xs
unfolding unquoted unread_by read_by
unquoted-next true x xs = refl
unquoted-next false x xs = go (eqb x 34)
  where
    go : (a : Bool) → cond a (unquoted true xs) (x ∷ unquoted false xs) ≡ read_by a x ++ unquoted a xs
    go true = refl
    go false = refl

unquoted-none : (b : Bool) (s : List ℕ) (i : ℕ) → length s ≤ i → unquoted b (drop i s) ≡ []
unfolding unquoted
unquoted-none true s i h = rw (drop_of_length-le s {i = i} h)
unquoted-none false s i h = rw (drop_of_length-le s {i = i} h)

read-long : (u : Bool) (x : ℕ) → length (read_by u x) ≡ cond u 0 1
unfolding read_by
read-long true x = refl
read-long false x = refl

pub counted_none : (u : Bool) → u ≡ true → ◌≡◌ {A = ℕ} 0 (cond u 0 1)
counted_none u e = rw e

pub counted-one : (u : Bool) → u ≡ false → ◌≡◌ {A = ℕ} 1 (cond u 0 1)
counted-one u e = rw e

pub ruleset counted_cases = (counted_none, counted-one)

module _ (s : List ℕ) (i : ℕ) (b : Bool) where
  next-is : i < length s → (u : Bool) → u ≡ unread_by b (get_or s i 0)
      → unquoted b (drop i s) ≡ read_by u (get_or s i 0) ++ unquoted u (drop (i + 1) s)
  next-is h u e = rw e (ap (unquoted b) (drop-next s i h) ∙ unquoted-next b (get_or s i 0) (drop (i + 1) s))

  next-long : i < length s → (u : Bool) → u ≡ unread_by b (get_or s i 0)
      → length (unquoted b (drop i s)) ≡ cond u 0 1 + length (unquoted u (drop (i + 1) s))
  next-long h u e =
      ap length (next-is h u e) ∙ length-append (read_by u (get_or s i 0)) (unquoted u (drop (i + 1) s))
      ∙ ap (λ (n : ℕ). n + length (unquoted u (drop (i + 1) s))) (read-long u (get_or s i 0))

  module _ (k : ℕ) (inv : k + length (unquoted b (drop i s)) ≡ length (unquoted false s)) where
    pub inner-more : i < length s → (u : Bool) (r : ℕ) → u ≡ unread_by b (get_or s i 0) → r ≡ cond u 0 1
        → k + r + length (unquoted u (drop (i + 1) s)) ≡ length (unquoted false s)
    inner-more h u r e z = let a = next-long h u e in omega arith

    pub inner-all : length s ≤ i → k ≡ length (unquoted false s)
    inner-all h = let a = ap length (unquoted-none b s i h) in omega arith

pub inner-starts : (s : List ℕ) → 0 + length (unquoted false (drop 0 s)) ≡ length (unquoted false s)
inner-starts s = omega arith

pub ruleset inner_long = (inner-more, inner-all, inner-starts)

-- quoted or not

pub quoted-none : (f : List ℕ) → length f < 1 → false ≡ is_quoted f
unfolding is_quoted
quoted-none [] h = refl
quoted-none (x ∷ f) h = absurd (omega arith)

pub quoted-some : (f : List ℕ) → 1 ≤ length f → eqb (get_or f 0 0) 34 ≡ is_quoted f
unfolding is_quoted
quoted-some [] h = absurd (omega arith)
quoted-some (x ∷ f) h = refl

pub ruleset quoted_cases = (quoted-none, quoted-some)

content-quoted : (f : List ℕ) → is_quoted f ≡ true → content_in f ≡ unquoted false (take (length f - 1) (drop 1 f))
unfolding content_in is_quoted
content-quoted [] e = absurd (let y : ◌≡◌ {A = ℕ} 0 1 = cc in omega arith)
content-quoted (x ∷ f) e = rw (e, take_all (suc (length f) - 1) f (omega arith))

content-plain : (f : List ℕ) → is_quoted f ≡ false → content_in f ≡ f
unfolding content_in is_quoted
content-plain [] e = refl
content-plain (x ∷ f) e = rw e

quoted-there : (f : List ℕ) → is_quoted f ≡ true → 1 ≤ length f
unfolding is_quoted
quoted-there [] e = absurd (let y : ◌≡◌ {A = ℕ} 0 1 = cc in omega arith)
quoted-there (x ∷ f) e = omega arith

module _ (f : List ℕ) (t : Bool) (e : t ≡ is_quoted f) where
  module _ (z : t ≡ true) where
    pub behind-quote : 1 ≤ length f
    behind-quote = quoted-there f (sym e ∙ z)

    pub long-quoted : (r : ℕ) → r ≡ length (unquoted false (take (length f - 1) (drop 1 f))) → r ≡ length (content_in f)
    long-quoted r q = rw (content-quoted f (sym e ∙ z)) q

    pub room-quoted : (at n : ℕ) → at + length (content_in f) ≤ n
        → at + length (unquoted false (take (length f - 1) (drop 1 f))) ≤ n
    room-quoted at n h = rw (← content-quoted f (sym e ∙ z)) h

    pub put-quoted : (d out : List ℕ) (at : ℕ) → out ≡ splice d at (unquoted false (take (length f - 1) (drop 1 f)))
        → out ≡ splice d at (content_in f)
    put-quoted d out at q = rw (content-quoted f (sym e ∙ z)) q

    pub number-quoted : (r : ℕ) → r ≡ number_in (unquoted false (take (length f - 1) (drop 1 f))) % 4294967296
        → r ≡ number_in (content_in f) % 4294967296
    number-quoted r q = rw (content-quoted f (sym e ∙ z)) q

    pub first-quoted : (r : ℕ) → r ≡ octet_at (unquoted false (take (length f - 1) (drop 1 f))) 0
        → r ≡ octet_at (content_in f) 0
    first-quoted r q = rw (content-quoted f (sym e ∙ z)) q

  module _ (z : t ≡ false) where
    pub long-plain : length f ≡ length (content_in f)
    long-plain = rw (content-plain f (sym e ∙ z))

    pub put-plain : (d out : List ℕ) (at : ℕ) → at + length (content_in f) ≤ length d → out ≡ stored d at f
        → out ≡ splice d at (content_in f)
    put-plain d out at h q =
        let c = content-plain f (sym e ∙ z) in
        rw c (q ∙ stored-in d at f (rw c at h))

    pub number-plain : (r : ℕ) → r ≡ number_in f % 4294967296 → r ≡ number_in (content_in f) % 4294967296
    number-plain r q = rw (content-plain f (sym e ∙ z)) q

    pub first_plain : (r : ℕ) → r ≡ octet_at f 0 → r ≡ octet_at (content_in f) 0
    first_plain r q = rw (content-plain f (sym e ∙ z)) q

pub ruleset content_cases = (behind-quote, long-quoted, room-quoted, put-quoted, number-quoted, first-quoted)

pub ruleset plain_cases = (long-plain, put-plain, number-plain, first_plain)

-- ---- laid down

pub unread-at : (at x : ℕ) (u : Bool) → u ≡ true → at ≡ at + length (read_by u x)
unfolding read_by
unread-at at x u e = rw e (sym (add-zero at))

pub unread-put : (d : List ℕ) (at x : ℕ) (u : Bool) → u ≡ true → d ≡ splice d at (read_by u x)
unfolding read_by
unread-put d at x u e = rw e (sym (splice-nil d at))

pub read_at : (at x : ℕ) (u : Bool) → u ≡ false → at + 1 ≡ at + length (read_by u x)
unfolding read_by
read_at at x u e = rw e

pub read-put : (d : List ℕ) (at x : ℕ) (u : Bool) → u ≡ false → at + length (read_by u x) ≤ length d
    → set d at x ≡ splice d at (read_by u x)
unfolding read_by
read-put d at x u e h = let z = rw e at h in rw e (splice-one d at x (omega arith))

pub one-room : (at n x : ℕ) (u : Bool) → u ≡ false → at + length (read_by u x) ≤ n → at < n
unfolding read_by
one-room at n x u e h = let z = rw e at h in omega arith

pub ruleset put_one = (unread-at, unread-put, read_at, read-put, one-room)

module _ (s : List ℕ) (i k at : ℕ) (b : Bool) (out d : List ℕ)
    (inv : splice out k (unquoted b (drop i s)) ≡ splice d at (unquoted false s))
    (rest : k + length (unquoted b (drop i s)) ≡ at + length (unquoted false s))
    (long : length out ≡ length d) (room : at + length (unquoted false s) ≤ length d) where
  module _ (h : i < length s) (u : Bool) (e : u ≡ unread_by b (get_or s i 0)) where
    pub inner_room : k + length (read_by u (get_or s i 0)) ≤ length out
    inner_room =
        let a = next-long s i b h u e in
        let l = read-long u (get_or s i 0) in
        omega arith

    module _ (m : ℕ) (z : m ≡ k + length (read_by u (get_or s i 0))) where
      pub inner-rest : m + length (unquoted u (drop (i + 1) s)) ≡ at + length (unquoted false s)
      inner-rest = let a = next-long s i b h u e in let l = read-long u (get_or s i 0) in omega arith

      module _ (new : List ℕ) (q : new ≡ splice out k (read_by u (get_or s i 0))) where
        pub inner-length : length new ≡ length d
        inner-length = laid-long out new (read_by u (get_or s i 0)) k q inner_room ∙ long

        pub inner-step : splice new m (unquoted u (drop (i + 1) s)) ≡ splice d at (unquoted false s)
        inner-step =
            let r = inner-rest in
            laid out new (read_by u (get_or s i 0)) (unquoted u (drop (i + 1) s)) k m q z (omega arith)
            ∙ ap (splice out k) (sym (next-is s i b h u e)) ∙ inv

  pub inner-done : length s ≤ i → out ≡ splice d at (unquoted false s)
  inner-done h = sym (splice-nil out k) ∙ ap (splice out k) (sym (unquoted-none b s i h)) ∙ inv

pub ruleset put_inner = (inner_room, inner-length, inner-rest, inner-step, inner-done)

-- ---- numbers and booleans

-- a digit more is told by the low bits alone
low_digit : (a x : ℕ) → (a * 10 + x) % 4294967296 ≡ (a % 4294967296 * 10 + x) % 4294967296
low_digit a x =
    let q = a / 4294967296 in
    let n = a % 4294967296 * 10 + x in
    let r : n % 4294967296 < 4294967296 = omega arith in
    let e : a * 10 + x ≡ (q * 10 + n / 4294967296) * 4294967296 + n % 4294967296 = omega arith in
    ap (λ (m : ℕ). m % 4294967296) e ∙ digits_mod (q * 10 + n / 4294967296) r

number_same : (a b : ℕ) (ds : List ℕ) → a % 4294967296 ≡ b % 4294967296
    → number_from a ds % 4294967296 ≡ number_from b ds % 4294967296
number_same a b [] e = e
number_same a b (d ∷ ds) e =
    number_same (a * 10 + (d - 48)) (b * 10 + (d - 48)) ds
    (low_digit a (d - 48) ∙ ap (λ (n : ℕ). (n * 10 + (d - 48)) % 4294967296) e ∙ sym (low_digit b (d - 48)))

abbrev pub with_digit : ℕ → ℕ → ℕ
with_digit a x = (a * 10 + (x - 48)) % 4294967296

number-digit : (a x : ℕ) (ds : List ℕ)
    → number_from (with_digit a x) ds % 4294967296 ≡ number_from a (x ∷ ds) % 4294967296
number-digit a x ds = number_same (with_digit a x) (a * 10 + (x - 48)) ds (twice-mod (a * 10 + (x - 48)))
  where
    twice-mod : (n : ℕ) → n % 4294967296 % 4294967296 ≡ n % 4294967296
    twice-mod n = omega arith

small-mod : (a : ℕ) → a < 4294967296 → a % 4294967296 ≡ a
small-mod a h = omega arith

module _ (s : List ℕ) (i a : ℕ) (small : a < 4294967296) where
  module _ (inv : number_from a (drop i s) % 4294967296 ≡ number_in s % 4294967296) where
    pub digit-next : i < length s → (r : ℕ) → r ≡ with_digit a (get_or s i 0)
        → number_from r (drop (i + 1) s) % 4294967296 ≡ number_in s % 4294967296
    digit-next h r e =
        rw e (number-digit a (get_or s i 0) (drop (i + 1) s)
        ∙ ap (λ (l : List ℕ). number_from a l % 4294967296) (sym (drop-next s i h)) ∙ inv)

    pub digits-all : length s ≤ i → a % 4294967296 ≡ number_in s % 4294967296
    digits-all h = ap (λ (l : List ℕ). number_from a l % 4294967296) (sym (drop_of_length-le s {i = i} h)) ∙ inv

    pub digits-told : length s ≤ i → a ≡ number_in s % 4294967296
    digits-told h = sym (small-mod a small) ∙ digits-all h

  module _ (b : Bool) (inv : number_from a (unquoted b (drop i s)) % 4294967296
      ≡ number_in (unquoted false s) % 4294967296) where
    pub octet-next : i < length s → (u : Bool) (r : ℕ) → u ≡ unread_by b (get_or s i 0)
        → r ≡ cond u a (with_digit a (get_or s i 0))
        → number_from r (unquoted u (drop (i + 1) s)) % 4294967296 ≡ number_in (unquoted false s) % 4294967296
    unfolding read_by
    octet-next h u r e z =
        go u z ∙ ap (λ (l : List ℕ). number_from a l % 4294967296) (sym (next-is s i b h u e)) ∙ inv
      where
        go : (u : Bool) → r ≡ cond u a (with_digit a (get_or s i 0))
            → number_from r (unquoted u (drop (i + 1) s)) % 4294967296
            ≡ number_from a (read_by u (get_or s i 0) ++ unquoted u (drop (i + 1) s)) % 4294967296
        go true y = rw y
        go false y = rw y (number-digit a (get_or s i 0) (unquoted false (drop (i + 1) s)))

    pub octets-told : length s ≤ i → a ≡ number_in (unquoted false s) % 4294967296
    octets-told h =
        sym (small-mod a small)
        ∙ ap (λ (l : List ℕ). number_from a l % 4294967296) (sym (unquoted-none b s i h)) ∙ inv

pub octet-kept : (a x : ℕ) (u : Bool) → u ≡ true → a ≡ cond u a (with_digit a x)
octet-kept a x u e = rw e

pub octet-added : (a x r : ℕ) (u : Bool) → u ≡ false → r ≡ with_digit a x → r ≡ cond u a (with_digit a x)
octet-added a x r u e z = rw e z

pub ruleset number_cases = (digit-next, digits-told, octet-next, octets-told, octet-kept, octet-added)

pub none-there : (s : List ℕ) (i : ℕ) → length s ≤ i → 0 ≡ octet_at s i
none-there s i h = sym (past s i h)
  where
    past : (s : List ℕ) (i : ℕ) → length s ≤ i → octet_at s i ≡ 0
    past [] i h = refl
    past (x ∷ s) zero h = absurd (omega arith)
    past (x ∷ s) (suc i) h = past s i (omega arith)

inner-one : (s : List ℕ) → octet_at s 0 ≡ 34 → octet_at s 1 ≡ octet_at (unquoted false s) 0
unfolding unquoted
inner-one [] e = refl
inner-one (x ∷ []) e = rw (eq-eqb x 34 e)
inner-one (x ∷ y ∷ s) e = rw (eq-eqb x 34 e)

inner-zero : (s : List ℕ) → (octet_at s 0 ≡ 34 → ⊥) → octet_at s 0 ≡ octet_at (unquoted false s) 0
unfolding unquoted
inner-zero [] e = refl
inner-zero (x ∷ s) e = rw (ne_eqb x 34 e)

pub first-second : (s : List ℕ) (a r : ℕ) → a ≡ octet_at s 0 → a ≡ 34 → r ≡ octet_at s 1
    → r ≡ octet_at (unquoted false s) 0
first-second s a r p e q = q ∙ inner-one s (sym p ∙ e)

pub first-first : (s : List ℕ) (a r : ℕ) → a ≡ octet_at s 0 → (a ≡ 34 → ⊥) → r ≡ octet_at s 0
    → r ≡ octet_at (unquoted false s) 0
first-first s a r p e q = q ∙ inner-zero s (λ z. e (p ∙ z))

pub ruleset first_cases = (none-there, first-second, first-first)

-- ---- the value

module _ (code : ℕ) (t : List ℕ) (k : ℕ) (long : k ≡ length t) where
  laid_none : k ≡ 0 → laid_from code t ≡ none
  unfolding laid_from
  laid_none e = rw (eq-eqb (length t) 0 (sym long ∙ e))

  laid-number : (k ≡ 0 → ⊥) → code ≡ 3 → laid_from code t ≡ some (encode_number (number_in t % 4294967296))
  unfolding laid_from
  laid-number h e = rw (ne_eqb (length t) 0 (λ z. h (long ∙ z)), e)

  laid-truth : (k ≡ 0 → ⊥) → code ≡ 11 → laid_from code t ≡ some ((octet_at t 0 - 48) ∷ [])
  unfolding laid_from
  laid-truth h e = rw (ne_eqb (length t) 0 (λ z. h (long ∙ z)), e)

  laid-string : (k ≡ 0 → ⊥) → (code ≡ 3 → ⊥) → (code ≡ 11 → ⊥) → laid_from code t ≡ some (t ++ (0 ∷ []))
  unfolding laid_from
  laid-string h p q = rw (ne_eqb (length t) 0 (λ z. h (long ∙ z)), ne_eqb code 3 p, ne_eqb code 11 q)

  -- its length
  module _ (e : k ≡ 0) where
    pub none-long : 0 ≡ length (entry_octets (laid_from code t))
    none-long = rw (laid_none e)

    pub none-at : (at : ℕ) → at ≡ at + length (entry_octets (laid_from code t))
    none-at at = rw (laid_none e) (sym (add-zero at))

    pub none-put : (d : List ℕ) (at : ℕ) → d ≡ splice d at (entry_octets (laid_from code t))
    none-put d at = rw (laid_none e) (sym (splice-nil d at))

  module _ (h : k ≡ 0 → ⊥) where
    module _ (e : code ≡ 3) (n : ℕ) (is : n ≡ number_in t % 4294967296) where
      pub number-long : (r : ℕ) → r ≡ length (encode_number n) → r ≡ length (entry_octets (laid_from code t))
      number-long r q = rw (laid-number h e, ← is) q

      pub number_at : (at r : ℕ) → r ≡ length (encode_number n) → at + r ≡ at + length (entry_octets (laid_from code t))
      number_at at r q = ap (λ (m : ℕ). at + m) (number-long r q)

      pub number_put : (d out : List ℕ) (at : ℕ) → at + length (entry_octets (laid_from code t)) ≤ length d
          → out ≡ stored d at (encode_number n) → out ≡ splice d at (entry_octets (laid_from code t))
      number_put d out at room q =
          let l = laid-number h e ∙ ap (λ (m : ℕ). some (encode_number m)) (sym is) in
          rw l (q ∙ stored-in d at (encode_number n) (rw l at room))

    module _ (e : code ≡ 11) where
      pub truth-long : 1 ≡ length (entry_octets (laid_from code t))
      truth-long = rw (laid-truth h e)

      pub truth-at : (at : ℕ) → at + 1 ≡ at + length (entry_octets (laid_from code t))
      truth-at at = ap (λ (m : ℕ). at + m) truth-long

      pub truth-room : (d : List ℕ) (at : ℕ) → at + length (entry_octets (laid_from code t)) ≤ length d → at < length d
      truth-room d at room = let l = truth-long in omega arith

      pub truth-put : (d : List ℕ) (at x : ℕ) → at + length (entry_octets (laid_from code t)) ≤ length d
          → x ≡ octet_at t 0 - 48 → set d at x ≡ splice d at (entry_octets (laid_from code t))
      truth-put d at x room q = rw (laid-truth h e, ← q) (splice-one d at x (truth-room d at room))

    module _ (p : code ≡ 3 → ⊥) (q : code ≡ 11 → ⊥) where
      pub string-long : k + 1 ≡ length (entry_octets (laid_from code t))
      string-long = rw (laid-string h p q) (let l = length-append t (0 ∷ []) in omega arith)

      pub string-at : (at : ℕ) → at + k + 1 ≡ at + length (entry_octets (laid_from code t))
      string-at at = let l = string-long in omega arith

      module _ (d : List ℕ) (at : ℕ) (room : at + length (entry_octets (laid_from code t)) ≤ length d) where
        pub content-room : at + length t ≤ length d
        content-room = let l = string-long in omega arith

        module _ (new : List ℕ) (z : new ≡ splice d at t) where
          pub zero_room : at + k < length new
          zero_room = let l = string-long in let m = laid-long d new t at z content-room in omega arith

          pub string-put : set new (at + k) 0 ≡ splice d at (entry_octets (laid_from code t))
          string-put =
              let l = string-long in
              rw (laid-string h p q)
              (splice-one new (at + k) 0 zero_room
              ∙ laid d new t (0 ∷ []) at (at + k) z (ap (λ (m : ℕ). at + m) long) (omega arith))

pub ruleset value_long = (none-long, number-long, truth-long, string-long)

pub ruleset put_value =
    (none-at, none-put, number_at, number_put, truth-at, truth-room, truth-put, string-at, content-room)

pub ruleset put_string = (zero_room, string-put)
