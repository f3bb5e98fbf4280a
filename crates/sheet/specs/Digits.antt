-- The digits of a number, the highest first, in any base up to 16; decimal digits without a leading zero; and the
-- number that digits say. Assumes nothing.
use Rattle.std.specs.Prelude.{ℕ, zero, suc, ◌+◌, ◌-◌, ◌*◌, ◌/◌, ◌%◌, ◌^◌, ◌≤◌, ◌<◌, ◌≡◌, refl, cond, List, [], ◌∷◌, ◌++◌, ltb, length}
use Rattle.std.proofs.Common.{pow-suc, arith, ap, ◌∙◌, length-append, lt-ltb, le-ltb}
use Rattle.octets.specs.Cases.{split}

-- the octet of a digit: 0 to 9, then A to F
unfoldable pub digit_of : ℕ → ℕ
digit_of d = cond (ltb d 10) (48 + d) (55 + d)

-- the k lowest digits of n in the base b
unfoldable pub digits_of : ℕ → ℕ → ℕ → List ℕ
digits_of b zero n = []
digits_of b (suc k) n = digits_of b k (n / b) ++ (digit_of (n % b) ∷ [])

-- the fewest decimal digits that hold n, at most k + 1
unfoldable pub places_to : ℕ → ℕ → ℕ
places_to zero n = 1
places_to (suc k) n = cond (ltb n 10) 1 (suc (places_to k (n / 10)))

unfoldable pub places_of : ℕ → ℕ
places_of n = places_to n n

unfoldable pub decimal : ℕ → List ℕ
decimal n = digits_of 10 (places_of n) n

-- the number that decimal digits say, behind others that say a
abbrev pub number_from : ℕ → List ℕ → ℕ
number_from a [] = a
number_from a (d ∷ ds) = number_from (a * 10 + (d - 48)) ds

abbrev pub number_in : List ℕ → ℕ
number_in ds = number_from 0 ds

-- ---- a digit, and more digits

pub digits_long : (b k n : ℕ) → length (digits_of b k n) ≡ k
unfolding digits_of
digits_long b zero n = refl
digits_long b (suc k) n = let l = digits_long b k (n / b) in length-append (digits_of b k (n / b)) (digit_of (n % b) ∷ [])
    ∙ omega arith

pub digit-few : (d : ℕ) → d < 10 → digit_of d ≡ 48 + d
unfolding digit_of
digit-few d h = rw (lt-ltb d 10 h)

enough : (j k n : ℕ) → n ≤ j → n ≤ k → places_to j n ≡ places_to k n
unfolding places_to
enough zero zero n h l = refl
enough zero (suc k) n h l = rw (lt-ltb n 10 (omega arith))
enough (suc j) zero n h l = rw (lt-ltb n 10 (omega arith))
enough (suc j) (suc k) n h l =
    split n 10 (λ p. rw (lt-ltb n 10 p))
    (λ p. rw (le-ltb n 10 p, enough j k (n / 10) (omega arith) (omega arith)))

pub places-few : (n : ℕ) → n < 10 → places_of n ≡ 1
unfolding places_of places_to
places-few zero h = refl
places-few (suc n) h = rw (lt-ltb (suc n) 10 h)

pub places-more : (n : ℕ) → 10 ≤ n → places_of n ≡ suc (places_of (n / 10))
unfolding places_of places_to
places-more zero h = absurd (omega arith)
places-more (suc n) h = rw (le-ltb (suc n) 10 h)
    (ap suc (enough n (suc n / 10) (suc n / 10) (omega arith) (omega arith)))

ten-some : (k : ℕ) → 1 ≤ 10 ^ k
ten-some zero = omega arith
ten-some (suc k) = let h = ten-some k in let p = pow-suc 10 k in omega arith

-- by the powers of ten between which it lies
pub places-between : (k n : ℕ) → 10 ^ k ≤ n → n < 10 ^ suc k → places_of n ≡ suc k
places-between zero n h l = places-few n (omega arith)
places-between (suc k) n h l =
    let p = pow-suc 10 k in
    let q = pow-suc 10 (suc k) in
    let o = ten-some k in
    places-more n (omega arith) ∙ ap suc (places-between k (n / 10) (omega arith) (omega arith))

pub decimal-few : (n : ℕ) → n < 10 → decimal n ≡ (48 + n) ∷ []
unfolding decimal digits_of
decimal-few n h =
    let e : n % 10 ≡ n = omega arith in
    rw (places-few n h, e, digit-few n h)

pub decimal-more : (n : ℕ) → 10 ≤ n → decimal n ≡ decimal (n / 10) ++ ((48 + n % 10) ∷ [])
unfolding decimal digits_of
decimal-more n h = rw (places-more n h, digit-few (n % 10) (omega arith))

-- what holds of one digit, and of digits with one more behind, holds of every number
pub by_digits : (P : ℕ → Type 0) → ((n : ℕ) → n < 10 → P n) → ((n : ℕ) → 10 ≤ n → P (n / 10) → P n) → (n : ℕ) → P n
by_digits P few more n = go n n (omega arith)
  where
    go : (k n : ℕ) → n ≤ k → P n
    go zero n h = few n (omega arith)
    go (suc k) n h = split n 10 (λ p. few n p) (λ p. more n p (go k (n / 10) (omega arith)))

-- ---- what was written is read back

number-snoc : (a : ℕ) (ds : List ℕ) (d : ℕ) → number_from a (ds ++ (d ∷ [])) ≡ number_from a ds * 10 + (d - 48)
number-snoc a [] d = refl
number-snoc a (e ∷ ds) d = number-snoc (a * 10 + (e - 48)) ds d

pub decimal-back : (n : ℕ) → number_in (decimal n) ≡ n
decimal-back n =
    by_digits (λ m. number_in (decimal m) ≡ m) (λ m h. rw (decimal-few m h) (omega arith))
    (λ m h p. rw (decimal-more m h, number-snoc 0 (decimal (m / 10)) (48 + m % 10), p) (omega arith)) n

-- there is a digit, and there are no more than the number says and one
pub places-some : (n : ℕ) → (1 ≤ places_of n) × (places_of n ≤ n + 1)
places-some n =
    by_digits (λ m. (1 ≤ places_of m) × (places_of m ≤ m + 1)) (λ m h. rw (places-few m h) (omega arith, omega arith))
    (λ m h p. rw (places-more m h) (omega arith, omega (arith, p.1))) n

pub decimal-long : (n : ℕ) → length (decimal n) ≡ places_of n
unfolding decimal
decimal-long n = digits_long 10 (places_of n) n
