-- Which row's tag stands in an earlier row of the same table (document 01, number 7): by places in a list of tags, as a search over rows goes, and by
-- the tags seen before, as a table is judged. One law joins the two.
use Rattle.std.specs.Prelude.{ℕ, zero, suc, ◌+◌, ◌*◌, ◌<◌, ◌≤◌, ◌≡◌, refl, Bool, true, false, cond, not, ◌||◌, List, [], ◌∷◌, eqb, get_or, drop}
use native.Mathlib.Omega.{arith}
use Rattle.std.proofs.Common.{mul-zero, mul-suc, add-one, sym, ◌∙◌, drop_of_length-le, drop-cons, eq-eqb, ne_eqb, eqb-true}
use Rattle.std.proofs.Math.Option.{Option, none, some}
use Rattle.std.proofs.Math.ListN.{length}
use Rattle.std.proofs.lemmas.Bool.{eqb-false}
use Rattle.answers.specs.Numbers.{repeated_tag}
use Rattle.answers.specs.Verdict.{Verdict}
use Rattle.answers.specs.Verdict.{clear}
use Rattle.answers.specs.Verdict.{refused, ◌then◌, need}
use Rattle.table.specs.First.{first, any, first_more, first-at, first_below, any-more, any_at}
use Rattle.table.specs.Found.{Found}
use Rattle.table.specs.Found.{At, Nothing}

-- row j has the tag of row i
abbrev pub same_tag : List ℕ → ℕ → ℕ → Bool
same_tag ts i j = eqb (get_or ts j 0) (get_or ts i 0)

-- the tag of row i stands in an earlier row
abbrev pub earlier : List ℕ → ℕ → Bool
earlier ts i = any (same_tag ts i) i

abbrev pub found_of : Option ℕ → Found
found_of (some i) = At i
found_of none = Nothing

-- the first row whose tag stands earlier
unfoldable pub repeat_of : List ℕ → Found
repeat_of ts = found_of (first (earlier ts) (length ts))

-- ---- the loops over rows

module _ (ts : List ℕ) (i : ℕ) (none_yet : first (earlier ts) i ≡ none) where
  pub repeat-none : length ts ≤ i → i ≤ length ts → Nothing ≡ repeat_of ts
  unfolding repeat_of
  repeat-none h k =
      let e : length ts ≡ i = omega arith in
      rw (e, none_yet)

  module _ (j : ℕ) where
    pub repeat-here : get_or ts j 0 ≡ get_or ts i 0 → j < i → i < length ts → At i ≡ repeat_of ts
    unfolding repeat_of
    repeat-here e h k = rw (first-at (earlier ts) i (length ts) none_yet (any_at (same_tag ts i) j i (eq-eqb _ _ e) h) k)

    pub repeat-more : any (same_tag ts i) j ≡ false → j ≤ i → i ≤ j → first (earlier ts) (i + 1) ≡ none
    repeat-more e h k =
        let z : j ≡ i = omega arith in
        first_more (earlier ts) i none_yet (rw z at e)

pub repeat-next : (ts : List ℕ) (i j : ℕ) → any (same_tag ts i) j ≡ false → (get_or ts j 0 ≡ get_or ts i 0 → ⊥) → any (same_tag ts i) (j + 1) ≡ false
repeat-next ts i j e n = any-more (same_tag ts i) j e (ne_eqb _ _ n)

pub ruleset repeats = (repeat-none, repeat-here, repeat-more, repeat-next)

-- what is found is a row
found_some : (o : Option ℕ) (i : ℕ) → found_of o ≡ At i → o ≡ some i
found_some (some j) i e = cc
found_some none i e = cc

found_none : (o : Option ℕ) → found_of o ≡ Nothing → o ≡ none
found_none (some j) e = cc
found_none none e = refl

pub repeat-below : (r : Found) (ts : List ℕ) (i : ℕ) → r ≡ repeat_of ts → r ≡ At i → i < length ts
unfolding repeat_of
repeat-below r ts i e f = first_below (earlier ts) (length ts) i (found_some (first (earlier ts) (length ts)) i (sym e ∙ f))

-- ---- by the tags seen before

-- t stands in the list
abbrev pub memb : ℕ → List ℕ → Bool
memb t [] = false
memb t (x ∷ xs) = cond (eqb t x) true (memb t xs)

-- rows of these tags, the first at `at` and each `step` further; seen are the tags before
unfoldable pub repeat_at : ℕ → List ℕ → ℕ → List ℕ → Verdict
repeat_at step seen at [] = clear
repeat_at step seen at (t ∷ ts) = need (not (memb t seen)) repeated_tag at then repeat_at step (t ∷ seen) (at + step) ts

-- the tags of the rows before row i
seen_to : List ℕ → ℕ → List ℕ
seen_to ts zero = []
seen_to ts (suc i) = get_or ts i 0 ∷ seen_to ts i

eqb_swap : (a b : ℕ) → eqb a b ≡ eqb b a
eqb_swap a b = go (eqb b a) refl
  where
    go : (t : Bool) → eqb b a ≡ t → eqb a b ≡ t
    go true e = eq-eqb a b (sym (eqb-true b a e))
    go false e = ne_eqb a b (λ q. eqb-false b a e (sym q))

seen-any : (ts : List ℕ) (t i : ℕ) → memb t (seen_to ts i) ≡ any (λ j. eqb (get_or ts j 0) t) i
unfolding seen_to
seen-any ts t zero = refl
seen-any ts t (suc i) = rw (seen-any ts t i, eqb_swap t (get_or ts i 0)) (either (eqb (get_or ts i 0) t) (any (λ j. eqb (get_or ts j 0) t) i))
  where
    either : (a b : Bool) → cond a true b ≡ (b || a)
    either true true = refl
    either true false = refl
    either false true = refl
    either false false = refl

-- the verdict on what was found
abbrev pub found_at : ℕ → ℕ → Found → Verdict
found_at step at (At i) = refused repeated_tag (at + step * i)
found_at step at Nothing = clear

from_row : (step : ℕ) (ts : List ℕ) (at m i : ℕ) → i + m ≡ length ts → first (earlier ts) i ≡ none
    → repeat_at step (seen_to ts i) (at + step * i) (drop i ts) ≡ found_at step at (found_of (first (earlier ts) (length ts)))
unfolding repeat_at seen_to
from_row step ts at zero i e n =
    let z : i ≡ length ts = omega arith in
    rw (drop_of_length-le ts {i = i} (omega arith), ← z, n)
from_row step ts at (suc m) i e n = rw (drop-cons ts i 0 (omega arith), seen-any ts (get_or ts i 0) i) (go (earlier ts i) refl (λ f. from_row step ts at m (suc i) (omega arith) f))
  where
    next : at + step * i + step ≡ at + step * suc i
    next = rw (mul-suc step i) (omega arith)

    go : (b : Bool) → earlier ts i ≡ b
        → (first (earlier ts) (suc i) ≡ none → repeat_at step (seen_to ts (suc i)) (at + step * suc i) (drop (suc i) ts) ≡ found_at step at (found_of (first (earlier ts) (length ts))))
        → (need (not b) repeated_tag (at + step * i) then repeat_at step (get_or ts i 0 ∷ seen_to ts i) (at + step * i + step) (drop (suc i) ts)) ≡ found_at step at (found_of (first (earlier ts) (length ts)))
    go true f ih = rw (first-at (earlier ts) i (length ts) n f (omega arith))
    go false f ih = rw next (ih (rw add-one at (first_more (earlier ts) i n f)))

pub repeat-is : (step at : ℕ) (ts : List ℕ) → repeat_at step [] at ts ≡ found_at step at (repeat_of ts)
unfolding repeat_of seen_to
repeat-is step at ts =
    let z : at + step * 0 ≡ at = rw (mul-zero step) (omega arith) in
    rw z at (from_row step ts at (length ts) 0 (omega arith) refl)
