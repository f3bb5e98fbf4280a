-- The scan of a field in loops of their own: outside quotes a string's plain octets are passed up to a mark or a zero
-- and a number's digits up to another octet, inside quotes a string's octets up to a quote or a zero. It is the
-- machine's scan. Assumes nothing.
use Rattle.std.specs.Prelude.{ℕ, ◌+◌, ◌≤◌, ◌≡◌, Bool}
use Rattle.std.proofs.Common.{arith, ap, ◌∙◌}
use Rattle.std.proofs.Math.Decide.{ℕ_discrete}
use Rattle.std.proofs.Math.Path.{refl}
use Rattle.std.proofs.Math.Bool.{true, false, cond}
use mathlib.Core.List.{List, [], ◌∷◌}
use Rattle.std.proofs.Math.Dec.{eqb}
use borrow.Author.Tests.{le-leb, ne_eqb, eqb-true, eqb-false}
use Rattle.octets.specs.Cases.{same-either}
use Rattle.answers.specs.Walk.{Walk}
use Rattle.answers.specs.Walk.{Ends as WalkEnds, Broken as WalkBroken}
use Rattle.entry.specs.Record.{unlike}
use Rattle.sheet.specs.Field.{numbers, quote, is_mark}
use Rattle.sheet.specs.Marks.{mark-quote, no-mark}
use Rattle.sheet.specs.Values.{is_string}
use Rattle.scanning.specs.declared.Fill.{Fill}
use Rattle.scanning.specs.declared.Fill.TheVariants.{Nothing, More}
use Rattle.scanning.specs.declared.Stage.{Stage}
use Rattle.scanning.specs.declared.Stage.TheVariants.{Outside, Inside, Behind}
use Rattle.scanning.specs.declared.Step.TheVariants.{Goes, Ends, Broken}
use Rattle.scanning.specs.Steps.{spells, is_nothing, is_all, takes, filled, step_of, moved, field_from, digit-plain}
use Rattle.scanning.specs.Steps.{string-takes, string-filled, string-zero}
use Rattle.scanning.specs.FieldBack.{AnEnd}
use Rattle.scanning.specs.Runs.{field_step}

-- no mark and no zero
unfoldable pub is_plain : ℕ → Bool
is_plain x = cond (is_mark x) false (cond (eqb x 0) false true)

-- octets that `plain` tells are passed; the first other one must be the end
unfoldable pub pass_from : (ℕ → Bool) → ℕ → ℕ → List ℕ → Walk
pass_from plain e i [] = WalkBroken i
pass_from plain e i (x ∷ xs) = cond (plain x) (pass_from plain e (i + 1) xs) (cond (eqb x e) (WalkEnds i) (WalkBroken i))

-- behind the quote that opens; b: a quote has been read that closes or is the first of two
unfoldable pub quoted_from : Bool → ℕ → ℕ → List ℕ → Walk
quoted_from b e i [] = WalkBroken i
quoted_from true e i (x ∷ xs) =
    cond (eqb x e) (WalkEnds i) (cond (eqb x quote) (quoted_from false e (i + 1) xs) (WalkBroken i))
quoted_from false e i (x ∷ xs) =
    cond (eqb x quote) (quoted_from true e (i + 1) xs)
    (cond (eqb x 0) (WalkBroken i) (quoted_from false e (i + 1) xs))

unfoldable pub string_from : ℕ → ℕ → List ℕ → Walk
string_from e i [] = WalkBroken i
string_from e i (x ∷ xs) = cond (eqb x quote) (quoted_from false e (i + 1) xs) (pass_from is_plain e i (x ∷ xs))

-- the scan is a passage where an octet does no more than that
module _ (plain : ℕ → Bool) (code e : ℕ) where
  pass_step : (s t : Stage) (i x : ℕ) (xs : List ℕ)
      → step_of code e s x ≡ cond (plain x) (Goes t) (cond (eqb x e) Ends Broken)
      → field_from code e t (i + 1) xs ≡ pass_from plain e (i + 1) xs
      → field_from code e s i (x ∷ xs) ≡ pass_from plain e i (x ∷ xs)
  unfolding field_from pass_from
  pass_step s t i x xs h ih = rw h (go (plain x) (eqb x e))
    where
      go : (b c : Bool)
          → moved (cond b (Goes t) (cond c Ends Broken)) i (λ u. field_from code e u (i + 1) xs) (WalkEnds i)
          ≡ cond b (pass_from plain e (i + 1) xs) (cond c (WalkEnds i) (WalkBroken i))
      go true c = ih
      go false true = refl
      go false false = refl

  passes : (t : Stage) → ((x : ℕ) → step_of code e t x ≡ cond (plain x) (Goes t) (cond (eqb x e) Ends Broken))
      → (xs : List ℕ) (i : ℕ) → field_from code e t i xs ≡ pass_from plain e i xs
  unfolding field_from pass_from
  passes t h [] i = refl
  passes t h (x ∷ xs) i = pass_step t t i x xs (h x) (passes t h xs (i + 1))

module _ (code e : ℕ) (s : is_string code ≡ true) (a : AnEnd e) where
  -- ---- one octet

  inside-octet : (fill : Fill) (x : ℕ) → is_all fill ≡ false
      → step_of code e (Inside fill) x
      ≡ cond (eqb x quote) (Goes Behind) (cond (eqb x 0) Broken (Goes (Inside More)))
  unfolding step_of
  inside-octet fill x n =
      elim (ℕ_discrete x 0) [
        | yes z ↦ rw (z, string-zero code fill s)
        | no z ↦ rw (ne_eqb x 0 z, string-takes code fill x s n z, string-filled code fill x s)
      ]

  behind-octet : (x : ℕ)
      → step_of code e Behind x ≡ cond (eqb x e) Ends (cond (eqb x quote) (Goes (Inside More)) Broken)
  unfolding step_of
  behind-octet x = rw s

  outside-octet : (fill : Fill) (x : ℕ) → is_all fill ≡ false → (is_nothing fill ≡ true → x ≡ quote → ⊥)
      → step_of code e (Outside fill) x ≡ cond (is_plain x) (Goes (Outside More)) (cond (eqb x e) Ends Broken)
  unfolding step_of is_plain
  outside-octet fill x n m = marks (is_mark x) refl
    where
      plain : is_mark x ≡ false → (b : Bool) → eqb x 0 ≡ b
          → cond (takes code fill x) (Goes (Outside (filled code fill x))) Broken
          ≡ cond (cond b false true) (Goes (Outside More)) Broken
      plain p true z = rw (eqb-true x 0 z, string-zero code fill s)
      plain p false z = rw (string-takes code fill x s n (eqb-false x 0 z), string-filled code fill x s)

      late : (b : Bool) → eqb x quote ≡ b → (c : Bool) → is_nothing fill ≡ c
          → cond b (cond c (Goes (Inside Nothing)) Broken) Broken ≡ Broken
      late true p true q = absurd (m q (eqb-true x quote p))
      late true p false q = refl
      late false p c q = refl

      marks : (b : Bool) → is_mark x ≡ b
          → cond (eqb x e) Ends
          (cond (eqb x quote) (cond (is_nothing fill) (Goes (Inside Nothing)) Broken)
          (cond b Broken (cond (takes code fill x) (Goes (Outside (filled code fill x))) Broken)))
          ≡ cond (cond b false (cond (eqb x 0) false true)) (Goes (Outside More)) (cond (eqb x e) Ends Broken)
      marks true p = ap (cond (eqb x e) Ends) (late (eqb x quote) refl (is_nothing fill) refl)
      marks false p = rw (no-mark x e p a.mark, no-mark x quote p mark-quote) (plain p (eqb x 0) refl)

  -- ---- a field

  Quoted : ℕ → List ℕ → Type 0
  Quoted i xs = ((fill : Fill) → is_all fill ≡ false → field_from code e (Inside fill) i xs ≡ quoted_from false e i xs)
      × (field_from code e Behind i xs ≡ quoted_from true e i xs)

  quoted-more : (i x : ℕ) (xs : List ℕ) → Quoted (i + 1) xs → Quoted i (x ∷ xs)
  unfolding Quoted field_from quoted_from
  quoted-more i x xs ih = (
    (λ fill n. rw (inside-octet fill x n) (inner (eqb x quote) (eqb x 0))),
    rw (behind-octet x) (behind (eqb x e) (eqb x quote)),
  )
    where
      inner : (b c : Bool)
          → moved (cond b (Goes Behind) (cond c Broken (Goes (Inside More)))) i (λ t. field_from code e t (i + 1) xs)
          (WalkEnds i)
          ≡ cond b (quoted_from true e (i + 1) xs) (cond c (WalkBroken i) (quoted_from false e (i + 1) xs))
      inner true c = ih.1
      inner false true = refl
      inner false false = ih.0 More refl

      behind : (b c : Bool)
          → moved (cond b Ends (cond c (Goes (Inside More)) Broken)) i (λ t. field_from code e t (i + 1) xs)
          (WalkEnds i)
          ≡ cond b (WalkEnds i) (cond c (quoted_from false e (i + 1) xs) (WalkBroken i))
      behind true c = refl
      behind false true = ih.0 More refl
      behind false false = refl

  quoted-none : (i : ℕ) → Quoted i []
  unfolding Quoted field_from quoted_from
  quoted-none i = ((λ fill n. refl), refl)

  quoted-is : (xs : List ℕ) (i : ℕ) → Quoted i xs
  quoted-is [] i = quoted-none i
  quoted-is (x ∷ xs) i = quoted-more i x xs (quoted-is xs (i + 1))

  open-octet : step_of code e (Outside Nothing) quote ≡ Goes (Inside Nothing)
  unfolding step_of
  open-octet = rw (ne_eqb quote e a.other)

  pub string-is : (i : ℕ) (xs : List ℕ) → field_from code e (Outside Nothing) i xs ≡ string_from e i xs
  unfolding string_from Quoted field_from
  string-is i [] = refl
  string-is i (x ∷ xs) =
      elim (ℕ_discrete x quote) [
        | yes z ↦ rw (z, open-octet) ((quoted-is xs (i + 1)).0 Nothing refl)
        | no z ↦
            rw (ne_eqb x quote z)
            (pass_step is_plain code e (Outside Nothing) (Outside More) i x xs (outside-octet Nothing x refl (λ y. z))
            (passes is_plain code e (Outside More)
            (λ y. outside-octet More y refl (λ w. unlike w)) xs (i + 1)))
      ]

-- ---- a number

pub number-kind : is_string numbers ≡ false
unfolding is_string
number-kind = refl

digit-is : (x : ℕ) → 48 ≤ x → x ≤ 57 → spells numbers x ≡ true
unfolding spells
digit-is x h l = rw (le-leb 48 x h, le-leb x 57 l)

module _ (e : ℕ) (a : AnEnd e) where
  -- behind its first digit
  more-octet : (x : ℕ)
      → step_of numbers e (Outside More) x ≡ cond (spells numbers x) (Goes (Outside More)) (cond (eqb x e) Ends Broken)
  unfolding step_of takes filled
  more-octet x = go (spells numbers x) refl
    where
      go : (b : Bool) → spells numbers x ≡ b
          → cond (eqb x e) Ends
          (cond (eqb x quote) Broken (cond (is_mark x) Broken (cond b (Goes (Outside More)) Broken)))
          ≡ cond b (Goes (Outside More)) (cond (eqb x e) Ends Broken)
      go true h =
          let p = digit-plain numbers x number-kind h in
          rw (p, no-mark x e p a.mark, no-mark x quote p mark-quote)
      go false h =
          rw (same-either (is_mark x) Broken, same-either (eqb x quote) Broken)

  first-octet : (x : ℕ) → 49 ≤ x → x ≤ 57 → step_of numbers e (Outside Nothing) x ≡ Goes (Outside More)
  unfolding step_of takes filled
  first-octet x h l =
      let q : spells numbers x ≡ true = digit-is x (omega arith) l in
      let p = digit-plain numbers x number-kind q in
      rw (p, no-mark x e p a.mark, no-mark x quote p mark-quote, q, ne_eqb x 48 (omega arith))

  pub number_is : (i x : ℕ) (xs : List ℕ) → 49 ≤ x → x ≤ 57
      → field_from numbers e (Outside Nothing) i (x ∷ xs) ≡ pass_from (spells numbers) e (i + 1) xs
  number_is i x xs h l =
      field_step numbers e (Outside Nothing) i x xs (Goes (Outside More)) (first-octet x h l)
      ∙ passes (spells numbers) numbers e (Outside More) more-octet xs (i + 1)
