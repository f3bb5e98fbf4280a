-- What a table of the digits of each octet has at a place.
use Rattle.std.proofs.Common.{arith, ℕ, zero, suc, ◌+◌, ◌/◌, ◌%◌, ◌<◌, ◌≡◌, true, false, List, [], ◌∷◌, length, slice_index_or, Bor, subst}
use Rattle.std.specs.Prelude.{eqb}
use Rattle.std.proofs.lemmas.Bool.{and_parts, eqb-true}
use Rattle.std.specs.Fmt.{digit_glyph}
use Rattle.lines.specs.Pairs.{two_digits, pairs_from}

false-true : false ≡ true → ⊥
false-true h = cc

are_digits : (xs : List ℕ) (n : ℕ) → two_digits xs n ≡ true
    → xs ≡ digit_glyph true (n / 16) ∷ digit_glyph true (n % 16) ∷ []
are_digits [] n h = absurd (false-true h)
are_digits (a ∷ []) n h = absurd (false-true h)
are_digits (a ∷ b ∷ c ∷ xs) n h = absurd (false-true h)
are_digits (a ∷ b ∷ []) n h =
    let parts = and_parts (eqb a (digit_glyph true (n / 16))) (eqb b (digit_glyph true (n % 16))) h in
    rw (eqb-true a (digit_glyph true (n / 16)) parts.0, eqb-true b (digit_glyph true (n % 16)) parts.1)

place_of : (ts : List (Bor (List ℕ))) (none : Bor (List ℕ)) (n i : ℕ) → pairs_from ts n ≡ true → i < length ts
    → two_digits (slice_index_or ts i none).now (n + i) ≡ true
place_of [] none n i h low = absurd (omega arith)
place_of (t ∷ ts) none n zero h low =
    let e : n + 0 ≡ n = omega arith in
    rw e (and_parts (two_digits t.now n) (pairs_from ts (n + 1)) h).0
place_of (t ∷ ts) none n (suc i) h low =
    let parts = and_parts (two_digits t.now n) (pairs_from ts (n + 1)) h in
    let e : n + suc i ≡ n + 1 + i = omega arith in
    rw e (place_of ts none (n + 1) i parts.1 (omega arith))

pub pairs-are : (ts : List (Bor (List ℕ))) (none : Bor (List ℕ)) (k : ℕ) → k < length ts → pairs_from ts 0 ≡ true
    → (slice_index_or ts k none).now ≡ digit_glyph true (k / 16) ∷ digit_glyph true (k % 16) ∷ []
pairs-are ts none k low h =
    let e : 0 + k ≡ k = omega arith in
    are_digits (slice_index_or ts k none).now k
    (subst (λ x. two_digits (slice_index_or ts k none).now x ≡ true) e (place_of ts none 0 k h low))
