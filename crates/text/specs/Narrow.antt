-- Narrow strings (2.9.6.3): one octet or more that are not 0, and a 0. How one is walked over and written, and the laws that tie the two.
use Rattle.std.specs.Prelude.{ℕ, suc, ◌+◌, ◌≤◌, ◌≡◌, refl, List, [], ◌∷◌, ◌++◌, cond, length, eqb}
use Rattle.std.proofs.Common.{add-zero, arith, ap, ◌∙◌, length-append, ne_eqb, eqb-true}
use Rattle.std.proofs.lemmas.Bool.{eqb-false}
use Rattle.octets.specs.Cases.{taken}
use Rattle.answers.specs.Walk.{Walk}
use Rattle.answers.specs.Walk.{Ends}
use Rattle.answers.specs.Walk.{broken, no_end, break_of, break-either}

-- where i octets that are not 0 have gone before
unfoldable pub narrow_from : ℕ → List ℕ → Walk
narrow_from i [] = broken
narrow_from i (x ∷ xs) = cond (eqb x 0) (cond (eqb i 0) broken (Ends (i + 1))) (narrow_from (i + 1) xs)

abbrev pub narrow_of : List ℕ → Walk
narrow_of xs = narrow_from 0 xs

-- the octets, and a 0
abbrev pub encode_narrow : List ℕ → List ℕ
encode_narrow t = t ++ 0 ∷ []

-- none of the octets is 0
abbrev pub NoZero : List ℕ → Type 0
NoZero [] = Unit {0}
NoZero (x ∷ xs) = (x ≡ 0 → ⊥) × NoZero xs

back_from : (i : ℕ) (t rest : List ℕ) → NoZero t → 1 ≤ i + length t → narrow_from i (encode_narrow t ++ rest) ≡ Ends (i + length t + 1)
unfolding narrow_from
back_from i [] rest z h = simp (ne_eqb i 0 (omega arith), add-zero)
back_from i (x ∷ t) rest z h =
    let e : i + 1 + length t ≡ i + suc (length t) = omega arith in
    simp (ne_eqb x 0 z.0, ← e) (back_from (i + 1) t rest z.1 (omega arith))

pub narrow_back : (t rest : List ℕ) → NoZero t → 1 ≤ length t → narrow_of (encode_narrow t ++ rest) ≡ Ends (length (encode_narrow t))
narrow_back t rest z h =
    let e : 0 + length t + 1 ≡ length (encode_narrow t) = simp (length-append) (omega arith) in
    back_from 0 t rest z (omega arith) ∙ ap Ends e

-- what a string is that ends at w: t, of octets that are not 0
pub record Narrow (i : ℕ) (xs : List ℕ) (w : ℕ) : Type 0 where
  pub octets : List ℕ
  pub no_zero : NoZero octets
  pub some : 1 ≤ i + length octets
  pub ends : w ≡ i + length octets + 1
  pub rest : List ℕ
  pub reads : xs ≡ encode_narrow octets ++ rest

sound-from : (i : ℕ) (xs : List ℕ) (w : ℕ) → narrow_from i xs ≡ Ends w → Narrow i xs w
unfolding narrow_from
sound-from i [] w e = no_end e
sound-from i (x ∷ xs) w e =
    let more = sound-from (i + 1) xs w in
    taken (eqb x 0) _ _ _ e
    (λ t q. taken (eqb i 0) _ _ _ q (λ u q. no_end q)
    (λ u q. let k : i + 1 ≡ w = cc in
    let n = eqb-false i 0 u in
    record { octets = []; no_zero = tt; some = omega arith; ends = omega arith; rest = xs; reads = rw (eqb-true x 0 t) }))
    (λ t q. let r = more q in record {
      octets = x ∷ r.octets;
      no_zero = (eqb-false x 0 t, r.no_zero);
      some = omega arith;
      ends = omega (arith, r.ends);
      rest = r.rest;
      reads = ap (λ (l : List ℕ). x ∷ l) r.reads;
    })

pub narrow-sound : (xs : List ℕ) (w : ℕ) → narrow_of xs ≡ Ends w → Narrow 0 xs w
narrow-sound xs w e = sound-from 0 xs w e

-- a string that is read stands in the list
pub narrow_within : (xs : List ℕ) (w : ℕ) → narrow_of xs ≡ Ends w → w ≤ length xs
narrow_within xs w e =
    let t = narrow-sound xs w e in
    omega (arith, simp length-append at (ap length t.reads), t.ends)

-- a string that breaks its form is at fault at its start
breaks-from : (i : ℕ) (xs : List ℕ) → break_of (narrow_from i xs) ≡ 0
unfolding narrow_from
breaks-from i [] = refl
breaks-from i (x ∷ xs) = break-either (eqb x 0) _ _ (break-either (eqb i 0) _ _ refl refl) (breaks-from (i + 1) xs)

pub narrow-breaks : (xs : List ℕ) → break_of (narrow_of xs) ≡ 0
narrow-breaks xs = breaks-from 0 xs
