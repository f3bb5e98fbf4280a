-- Values counted by whole octets (02, #104): an octet's count of ones is the sum of its eight bits, and of the last
-- octet only the bits of columns count. Assumes nothing.
use Rattle.std.specs.Prelude.{◌≡◌, refl, List, length, take, get_or, min, ℕ, zero, suc, ◌+◌, ◌-◌, ◌*◌, ◌/◌, ◌%◌, ◌^◌, ◌<◌, ◌≤◌}
use Rattle.std.proofs.Common.{sym, ap, ◌∙◌, add-zero, add-suc, add_assoc, add_comm, div-one, add-one, arith, shr-shr, pow_pos, Fits-le, Fits, take-suc, take_all, le_refl}
use Rattle.std.proofs.Math.Nat.{div-eq_of_lt}
use Rattle.std.specs.Int.Bits.{bit_and}
use Rattle.std.proofs.lemmas.Nat.Bits.{and_high}
use Rattle.std.proofs.lemmas.Nat.{and_le_l, ones_cat, ones-le}
use Rattle.std.specs.Int.Count.{ones, ones_step}
use Rattle.std.proofs.Math.Pow.{shr_mod}
use Rattle.std.specs.Int.{w8}
use Rattle.std.specs.List.{sum_by}
use Rattle.std.proofs.lemmas.List.Sums.{sum_by_push}
use Rattle.std.proofs.Math.ListN.{get_or-eq_default}
use Rattle.octets.specs.Cases.{split}
use Rattle.octets.specs.Octets.{octet_at, Octets, octets-from}
use Rattle.presence.specs.Presence.{bit_of, bit_at, ones_in, bit-lt, low}

-- the sum of an octet's m highest bits
abbrev pub highest : ℕ → ℕ → ℕ
highest x zero = 0
highest x (suc m) = highest x m + bit_of x (7 - m)

-- an octet of whose bits all but the m highest are taken for 0
abbrev pub masked : ℕ → ℕ → ℕ
masked x m = x / 2 ^ (8 - m) * 2 ^ (8 - m)

-- the ones of the first j octets
abbrev pub whole_ones : List ℕ → ℕ → ℕ
whole_ones xs zero = 0
whole_ones xs (suc j) = whole_ones xs j + ones (octet_at xs j)

-- ---- one octet

no_ones : ones 0 ≡ 0
unfolding ones
no_ones = refl

-- one bit more of a number
ones-more : (x k : ℕ) → ones (x / 2 ^ k) ≡ ones (x / 2 ^ (k + 1)) + bit_of x k
unfolding bit_of
ones-more x k = ones_step (x / 2 ^ k) ∙ ap (λ (y : ℕ). x / 2 ^ k % 2 + ones y) (shr-shr x k 1) ∙ add_comm _ _

highest-ones : (x m : ℕ) → x < 256 → m ≤ 8 → ones (x / 2 ^ (8 - m)) ≡ highest x m
highest-ones x zero h l = rw (div-eq_of_lt h) no_ones
highest-ones x (suc m) h l =
    let e : 8 - suc m + 1 ≡ 8 - m = omega arith in
    let b : 8 - suc m ≡ 7 - m = omega arith in
    rw (ones-more x (8 - suc m), e, highest-ones x m h (omega arith), b)

-- an octet's count of ones is the sum of its eight bits
pub octet-ones : (x : ℕ) → x < 256 → ones x ≡ highest x 8
octet-ones x h = rw (div-one x) at (highest-ones x 8 h (omega arith))

pub masked-ones : (x m : ℕ) → x < 256 → m ≤ 8 → ones (masked x m) ≡ highest x m
masked-ones x m h l =
    let y : ℕ = x / 2 ^ (8 - m) in
    let c : ones (y * 2 ^ (8 - m) + 0) ≡ ones y + ones 0 = ones_cat (8 - m) y 0 (pow_pos (8 - m)) in
    rw (add-zero (y * 2 ^ (8 - m)), no_ones, add-zero (ones y)) at c ∙ highest-ones x m h l

-- the mask that the code makes
mask_is : (x m : ℕ) → x < 256 → m < 8 → bit_and x (255 - 255 / 2 ^ m) ≡ masked x m
mask_is x m h l =
    let n : m + (8 - m) ≡ 8 = omega arith in
    let p : 0 < 2 ^ (8 - m) = pow_pos (8 - m) in
    let e : 255 - 255 / 2 ^ m ≡ 2 ^ (m + (8 - m)) - 2 ^ (8 - m) = rw (low m l, n) (omega arith) in
    rw (e, and_high x m (8 - m), shr_mod {n = x} m (8 - m) (rw n h))

-- ---- the columns of an octet

-- the first m columns behind j octets are the m highest bits of the next
ones-behind : (xs : List ℕ) (j m : ℕ) → m ≤ 8 → ones_in xs (j * 8 + m) ≡ ones_in xs (j * 8) + highest (octet_at xs j) m
unfolding bit_at
ones-behind xs j zero h = rw (add-zero (j * 8), add-zero (ones_in xs (j * 8)))
ones-behind xs j (suc m) h =
    let a : (j * 8 + m) / 8 ≡ j = omega arith in
    let b : 7 - (j * 8 + m) % 8 ≡ 7 - m = omega arith in
    rw (add-suc, ones-behind xs j m (omega arith), a, b, add_assoc)

-- ---- the code's own terms, for search

pub count-whole : (xs : List ℕ) (j k x : ℕ) → k ≡ ones_in xs (j * 8) → x ≡ octet_at xs j → x < 256
    → k + ones x ≡ ones_in xs ((j + 1) * 8)
count-whole xs j k x e f h =
    let n : (j + 1) * 8 ≡ j * 8 + 8 = omega arith in
    rw (n, ones-behind xs j 8 (omega arith), octet-ones x h, e, f)

pub count-last : (xs : List ℕ) (n j k x : ℕ) → k ≡ ones_in xs (j * 8) → j ≤ n / 8 → n / 8 ≤ j
    → x ≡ octet_at xs (n / 8) → x < 256 → k + ones (bit_and x (255 - 255 / 2 ^ (n % 8))) ≡ ones_in xs n
count-last xs n j k x e l u f h =
    let i : j ≡ n / 8 = omega arith in
    let m : n / 8 * 8 + n % 8 ≡ n = omega arith in
    let o = ones-behind xs (n / 8) (n % 8) (omega arith) in
    rw (mask_is x (n % 8) h (omega arith), masked-ones x (n % 8) h (omega arith), e, i, f) (sym (rw m at o))

-- of n columns at most n have a value, so the sums fit
pub ones-most : (xs : List ℕ) (n : ℕ) → ones_in xs n ≤ n
unfolding bit_at
ones-most xs zero = omega arith
ones-most xs (suc n) =
    let i : ones_in xs n ≤ n = ones-most xs n in
    let b : bit_of (octet_at xs (n / 8)) (7 - n % 8) < 2 = bit-lt (octet_at xs (n / 8)) (7 - n % 8) in
    omega arith

pub whole-most : (xs : List ℕ) (n j k x : ℕ) → k ≡ ones_in xs (j * 8) → x ≡ octet_at xs j → x < 256
    → j < n / 8 → k + ones x ≤ n
whole-most xs n j k x e f h l =
    let m : ones_in xs ((j + 1) * 8) ≤ (j + 1) * 8 = ones-most xs ((j + 1) * 8) in
    rw (count-whole xs j k x e f h) (omega arith)

pub last-most : (xs : List ℕ) (n j k x : ℕ) → k ≡ ones_in xs (j * 8) → j ≤ n / 8 → n / 8 ≤ j
    → x ≡ octet_at xs (n / 8) → x < 256 → k + ones (bit_and x (255 - 255 / 2 ^ (n % 8))) ≤ n
last-most xs n j k x e l u f h = rw (count-last xs n j k x e l u f h) (ones-most xs n)

pub ones-fit : (x : ℕ) → x < 256 → ones x < 2 ^ 64
ones-fit x h =
    let l : ones x ≤ 8 = ones-le 8 x h in
    omega arith

pub masked-fit : (x y : ℕ) → x < 256 → ones (bit_and x y) < 2 ^ 64
masked-fit x y h =
    let l : bit_and x y ≤ x = and_le_l x y in
    ones-fit (bit_and x y) (omega arith)

pub ruleset counting = (count-whole, count-last, whole-most, last-most, ones-fit, masked-fit, Fits-le)

-- ---- the whole octets and the masked last one

whole-ones : (xs : List ℕ) → Octets xs → (j : ℕ) → whole_ones xs j ≡ ones_in xs (j * 8)
whole-ones xs o zero = refl
whole-ones xs o (suc j) =
    rw (← add-one j) (count-whole xs j (whole_ones xs j) (octet_at xs j) (whole-ones xs o j) refl (o j))

pub by-octets : (xs : List ℕ) (n : ℕ) → Octets xs
    → ones_in xs n ≡ whole_ones xs (n / 8) + ones (masked (octet_at xs (n / 8)) (n % 8))
by-octets xs n o =
    let x : ℕ = octet_at xs (n / 8) in
    let k : whole_ones xs (n / 8) ≡ ones_in xs (n / 8 * 8) = whole-ones xs o (n / 8) in
    let l = count-last xs n (n / 8) (whole_ones xs (n / 8)) x k (omega arith) (omega arith) refl (o (n / 8)) in
    sym (rw (mask_is x (n % 8) (o (n / 8)) (omega arith)) at l)

-- the whole octets that are there
sum-whole : (xs : List ℕ) (j : ℕ) → sum_by ones (take j xs) ≡ whole_ones xs j
sum-whole xs zero = refl
sum-whole xs (suc j) =
    split j (length xs)
    (λ h. rw (take-suc xs j 0 h, sum_by_push ones (take j xs) (get_or xs j 0), sum-whole xs j))
    (λ h. rw (take_all (suc j) xs (omega arith), get_or-eq_default xs 0 h, no_ones, add-zero) (rw (take_all j xs h) at (sum-whole xs j)))

sum-min : (xs : List ℕ) (j : ℕ) → sum_by ones (take (min j (length xs)) xs) ≡ whole_ones xs j
sum-min xs j =
    split j (length xs)
    (λ h. let m : min j (length xs) ≡ j = omega arith in rw m (sum-whole xs j))
    (λ h. let m : min j (length xs) ≡ length xs = omega arith in
    rw (m, take_all (length xs) xs (le_refl (length xs))) (rw (take_all j xs h) at (sum-whole xs j)))

module _ (xs : List ℕ) (n m : ℕ) (f : (i : ℕ) → Fits w8 (get_or xs i 0)) (e : m ≡ min (n / 8) (length xs)) where
  sum-in : sum_by ones (take m xs) ≡ ones_in xs (n / 8 * 8)
  sum-in = rw e (sum-min xs (n / 8)) ∙ whole-ones xs (octets-from xs f) (n / 8)

  pub sum_fits : n < 2 ^ 64 → sum_by ones (take m xs) < 2 ^ 64
  sum_fits h =
      let l : ones_in xs (n / 8 * 8) ≤ n / 8 * 8 = ones-most xs (n / 8 * 8) in
      rw sum-in (omega arith)

  pub sum_count : (k x : ℕ) → k ≡ sum_by ones (take m xs) → x ≡ octet_at xs (n / 8) → x < 256
      → (k + ones (bit_and x (255 - 255 / 2 ^ (n % 8))) ≡ ones_in xs n) × (k + ones (bit_and x (255 - 255 / 2 ^ (n % 8))) ≤ n)
  sum_count k x q g h =
      let p = count-last xs n (n / 8) k x (q ∙ sum-in) (omega arith) (omega arith) g h in
      (p, rw p (ones-most xs n))
