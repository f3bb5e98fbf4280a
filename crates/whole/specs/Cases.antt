-- The ways of the code that reads and writes whole numbers, on plain values.
use Rattle.std.specs.Prelude.{ℕ, zero, suc, ◌+◌, ◌-◌, ◌*◌, ◌/◌, ◌%◌, ◌^◌, ◌≤◌, ◌<◌, ◌≡◌, refl, List, length, drop}
use Rattle.std.proofs.Common.{arith, one-mul, pow-suc, ◌∙◌, pow-add, shl_exact, Fits}
use Rattle.std.specs.Int.{w32}
use borrow.Author.Tests.{lt-ltb, le-ltb, le-leb, lt-leb, eq-eqb, ne_eqb}
use Rattle.octets.specs.Cases.{split}
use Rattle.octets.specs.Octets.{octet_at}
use Rattle.octets.specs.Splice.{stored}
use Rattle.octets.specs.Word.{le_of, word_of, narrow_word, length-le_of, word-most}
use Rattle.whole.specs.Number.{Number, Some, Broken, fewest, encode_number, least_of, long_number, number_of}
use Rattle.whole.specs.Laws.{number-long, number_short, fewest-most}

-- ---- read_long

module _ (k : ℕ) (xs : List ℕ) where
  pub long-none : k < 1 → Broken ≡ long_number k xs
  unfolding long_number
  long-none h = rw (lt-ltb k 1 h)

  module _ (h : 1 ≤ k) where
    pub long-many : 4 < k → Broken ≡ long_number k xs
    unfolding long_number
    long-many i = rw (le-ltb k 1 h, lt-ltb 4 k i)

    module _ (i : k ≤ 4) where
      pub long-cut : length xs ≤ k → Broken ≡ long_number k xs
      unfolding long_number
      long-cut j = rw (le-ltb k 1 h, le-ltb 4 k i, le-leb (length xs) k j)

      module _ (j : k < length xs) (n m : ℕ) (e : n ≡ narrow_word k (drop 1 xs)) (f : m ≡ least_of k) where
        word-is : n ≡ word_of k (drop 1 xs)
        unfolding narrow_word
        word-is = rw (le-ltb 8 k (omega arith)) at e

        pub long-padded : n < m → Broken ≡ long_number k xs
        unfolding long_number
        long-padded l = rw (← word-is, ← f, le-ltb k 1 h, le-ltb 4 k i, lt-leb (length xs) k j, lt-ltb n m l)

        pub long-read : m ≤ n → Some (n, 1 + k) ≡ long_number k xs
        unfolding long_number
        long-read l = rw (← word-is, ← f, le-ltb k 1 h, le-ltb 4 k i, lt-leb (length xs) k j, le-ltb n m l)

pub long-fits : (n k : ℕ) → n < 256 ^ k → k ≤ 4 → Fits w32 n
long-fits n k h l = record { fits = word-most k 4 n l h }

pub ruleset longs = (long-none, long-many, long-cut, long-padded, long-read, long-fits)

-- ---- least

power : (j : ℕ) → 2 ^ (8 * j) ≡ 256 ^ j
power zero = refl
power (suc j) =
    let e : 8 * suc j ≡ 8 * j + 8 = omega arith in
    rw (e, pow-add 2 (8 * j) 8, power j, pow-suc 256 j)

pub least-one : (k : ℕ) → k ≡ 1 → 128 ≡ least_of k
unfolding least_of
least-one k e = rw (eq-eqb k 1 e)

pub least-shift : (k : ℕ) → 1 ≤ k → k ≤ 4 → (k ≡ 1 → ⊥) → 1 * 2 ^ (8 * (k - 1)) % 2 ^ 64 ≡ least_of k
unfolding least_of
least-shift k h l n = rw (ne_eqb k 1 n) (shl_exact {a = 1} 1 (8 * (k - 1)) 64 (omega arith) (omega arith) ∙ rw (power (k - 1)) (one-mul (256 ^ (k - 1))))

pub ruleset leasts = (least-one, least-shift)

-- ---- read_number

module _ (xs : List ℕ) where
  pub number-none : length xs < 1 → Broken ≡ number_of xs
  unfolding number_of
  number-none h = rw (lt-ltb (length xs) 1 h)

  module _ (h : 1 ≤ length xs) (a : ℕ) (e : a ≡ octet_at xs 0) where
    pub number-one : a < 128 → Some (a, 1) ≡ number_of xs
    unfolding number_of
    number-one l = rw (← e, le-ltb (length xs) 1 h, lt-ltb a 128 l)

    pub number_more : (r : Number) → r ≡ long_number (a - 128) xs → 128 ≤ a → r ≡ number_of xs
    unfolding number_of
    number_more r q l = rw (← e, le-ltb (length xs) 1 h, le-ltb a 128 l) q

pub ruleset numbers = (number-none, number-one, number_more)

-- ---- tail

fewest-turn : (m x : ℕ) → 0 < x → fewest (suc m) x ≡ suc (fewest m (x / 256))
unfolding fewest
fewest-turn m x h = rw (ne_eqb x 0 (omega arith))

fewest-none : (m : ℕ) → fewest m 0 ≡ 0
unfolding fewest
fewest-none zero = refl
fewest-none (suc m) = refl

module _ (x k : ℕ) (h : 0 < x) (l : x < 256 ^ (4 - k)) (i : k ≤ 4) where
  pub tail_more : k + 1 ≤ 4
  tail_more = split k 4 (λ p. omega arith) (λ p. let z : 4 - k ≡ 0 = omega arith in let y = rw z at l in absurd (omega arith))

  pub tail-left : x / 256 < 256 ^ (4 - (k + 1))
  tail-left =
      let p = tail_more in
      let e : 4 - k ≡ suc (4 - (k + 1)) = omega arith in
      let q = rw (e, pow-suc 256 (4 - (k + 1))) at l in
      omega arith

  pub tail_step : (n : ℕ) → k + fewest (4 - k) x ≡ fewest 4 n → k + 1 + fewest (4 - (k + 1)) (x / 256) ≡ fewest 4 n
  tail_step n inv =
      let p = tail_more in
      let e : 4 - k ≡ suc (4 - (k + 1)) = omega arith in
      let q = rw (e, fewest-turn (4 - (k + 1)) x h) at inv in
      omega (arith, q)

pub tail-end : (n x k : ℕ) → k + fewest (4 - k) x ≡ fewest 4 n → x ≤ 0 → k ≡ fewest 4 n
tail-end n x k e h =
    let z : x ≡ 0 = omega arith in
    let f = fewest-none (4 - k) in
    omega (arith, rw z at e)

pub ruleset tails = (tail_more, tail-left, tail_step, tail-end)

-- ---- number_width and put_number

pub width-short : (n : ℕ) → n < 128 → 1 ≡ length (encode_number n)
width-short n h = rw (number_short n h)

pub width-long : (n k : ℕ) → 128 ≤ n → k ≡ fewest 4 n → 1 + k ≡ length (encode_number n)
width-long n k h e = rw (number-long n h, length-le_of (fewest 4 n) n, e) (omega arith)

one-octet : (n : ℕ) → n < 128 → le_of 1 n ≡ encode_number n
one-octet n h =
    let e : n % 256 ≡ n = omega arith in
    rw (number_short n h, e)

pub put-short : (d x : List ℕ) (i n : ℕ) → n < 128 → x ≡ stored d i (le_of 1 n) → x ≡ stored d i (encode_number n)
put-short d x i n h e = rw (one-octet n h) at e

-- a count and octets are one word
one_word : (n k : ℕ) → 128 ≤ n → k ≡ fewest 4 n → le_of (suc k) (128 + k + n * 256) ≡ encode_number n
one_word n k h e =
    let m = fewest-most 4 n in
    let a : (128 + k + n * 256) % 256 ≡ 128 + k = omega arith in
    let b : (128 + k + n * 256) / 256 ≡ n = omega arith in
    rw (number-long n h, a, b, e)

pub put-long : (d x : List ℕ) (i n k : ℕ) → 128 ≤ n → n < 2 ^ 32 → k ≡ fewest 4 n → x ≡ stored d i (le_of (1 + k) (128 + k + n * 2 ^ 8 % 2 ^ 64)) → x ≡ stored d i (encode_number n)
put-long d x i n k h l e q =
    let s : n * 2 ^ 8 % 2 ^ 64 ≡ n * 256 = omega arith in
    let o : 1 + k ≡ suc k = omega arith in
    rw (s, o, one_word n k h e) at q

pub ruleset widths = (width-short, width-long, put-short, put-long)
