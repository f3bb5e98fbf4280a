-- Presence bits (2.9.5): column 0 is the top bit of the first octet, and the bits behind the last column are spare. Assumes nothing.
use Rattle.std.specs.Prelude.{◌≡◌, refl, Bool, true, List, ℕ, zero, suc, ◌+◌, ◌-◌, ◌*◌, ◌/◌, ◌%◌, ◌^◌, ◌<◌, ◌≤◌, eqb, length, set}
use Rattle.std.proofs.Common.{sym, ap, ◌∙◌, one-mul, mod-eq_of_lt, one-add, arith, pow-add, eqb-true, get_or-set_same, get_or-set_other, ext_get_or}
use Rattle.std.proofs.Math.Nat.{zero-div, zero-mod, div-eq_of_lt, mod-one}
use Rattle.std.proofs.Math.Decide.{dec_lt, ℕ_discrete}
use Rattle.std.specs.Int.Bits.{bit_and, bit_or, bit_xor, or_zero_r, shifted_even}
use Rattle.std.proofs.lemmas.Nat.{and_mask, or_shr, or_mod, shl-shr, mod-pow-add}
use Rattle.std.proofs.lemmas.Nat.Bits.{and_high}
use Rattle.std.proofs.Math.Pow.{pow-lt, ones_split, ones_lt, high, field, mod-mod-pow}
use Rattle.std.proofs.Math.Seq.{set_out}
use Rattle.std.proofs.Math.ListN.{get_or-eq_default}
use Rattle.octets.specs.Octets.{octet_at, Octets}

-- how many presence octets n columns take: n / 8 rounded up
abbrev pub room : ℕ → ℕ
room n = (n + 7) / 8

-- the bit of x that stands for 2 ^ k
unfoldable pub bit_of : ℕ → ℕ → ℕ
bit_of x k = x / 2 ^ k % 2

-- bit i of some octets, the highest bit of each first; 0 past the end
unfoldable pub bit_at : List ℕ → ℕ → ℕ
bit_at xs i = bit_of (octet_at xs (i / 8)) (7 - i % 8)

abbrev pub is_set : List ℕ → ℕ → Bool
is_set xs i = eqb (bit_at xs i) 1

-- the octets with bit i set; past the end the octets themselves
unfoldable pub set_bit : List ℕ → ℕ → List ℕ
set_bit xs i = set xs (i / 8) (bit_or (octet_at xs (i / 8)) (2 ^ (7 - i % 8)))

-- the octets with bit i cleared; past the end the octets themselves
unfoldable pub clear_bit : List ℕ → ℕ → List ℕ
clear_bit xs i = set xs (i / 8) (bit_xor (octet_at xs (i / 8)) (bit_at xs i * 2 ^ (7 - i % 8)))

-- of n columns, the bits of the last octet that stand for none are 0
unfoldable pub spare_clear : List ℕ → ℕ → Bool
spare_clear xs n = eqb (octet_at xs (n / 8) % 2 ^ ((8 - n % 8) % 8)) 0

-- how many of the first n columns have a value
abbrev pub ones_in : List ℕ → ℕ → ℕ
ones_in xs zero = 0
ones_in xs (suc n) = ones_in xs n + bit_at xs n

-- ---- one bit of a number

pub bit-lt : (x k : ℕ) → bit_of x k < 2
unfolding bit_of
bit-lt x k = omega arith

pub bit-zero : (k : ℕ) → bit_of 0 k ≡ 0
unfolding bit_of
bit-zero k = rw (zero-div (2 ^ k))

-- the bit of a bitwise or
pub bit-or : (a b k : ℕ) → bit_of (bit_or a b) k ≡ bit_or (bit_of a k) (bit_of b k)
unfolding bit_of
bit-or a b k = rw (or_shr a b k) (or_mod (a / 2 ^ k) (b / 2 ^ k) 1)

-- of a power of two the one bit is 1, and the others are 0
pub bit-same : (k : ℕ) → bit_of (2 ^ k) k ≡ 1
unfolding bit_of
bit-same k = rw (rw one-mul at (shl-shr 1 k))

bit-less : (k l : ℕ) → k < l → bit_of (2 ^ k) l ≡ 0
unfolding bit_of
bit-less k l h = rw (div-eq_of_lt (pow-lt h))

bit-more : (k m : ℕ) → bit_of (2 ^ (suc m + k)) k ≡ 0
unfolding bit_of
bit-more k m = rw (pow-add 2 (suc m) k, shl-shr (2 ^ suc m) k) (rw one-mul at (shifted_even 1 m))

pub bit-other : (k l : ℕ) → (l ≡ k → ⊥) → bit_of (2 ^ k) l ≡ 0
bit-other k l h = elim (dec_lt k l) [ yes p ↦ bit-less k l p | no p ↦ above p ]
  where
    above : (k < l → ⊥) → bit_of (2 ^ k) l ≡ 0
    above p =
        let e : suc (k - l - 1) + l ≡ k = omega arith in
        rw e at (bit-more l (k - l - 1))

-- a bit that is set is 1, whatever it was
or-one : (b : ℕ) → b < 2 → bit_or b 1 ≡ 1
or-one zero h = refl
or-one (suc zero) h = refl
or-one (suc (suc b)) h = absurd (omega arith)

-- ---- a bit that is set

pub set_same : (xs : List ℕ) (i : ℕ) → i / 8 < length xs → bit_at (set_bit xs i) i ≡ 1
unfolding bit_at set_bit
set_same xs i h = rw (get_or-set_same xs (i / 8) _ 0 h, bit-or, bit-same) (or-one _ (bit-lt _ _))

pub set_other : (xs : List ℕ) (i j : ℕ) → (j ≡ i → ⊥) → bit_at (set_bit xs i) j ≡ bit_at xs j
unfolding bit_at set_bit
set_other xs i j h = elim (ℕ_discrete (j / 8) (i / 8)) [ no p ↦ ap (λ (x : ℕ). bit_of x (7 - j % 8)) (get_or-set_other xs (i / 8) (j / 8) _ 0 p) | yes p ↦ near p ]
  where
    inside : j / 8 ≡ i / 8 → i / 8 < length xs → bit_at (set_bit xs i) j ≡ bit_at xs j
    inside p l = rw (p, get_or-set_same xs (i / 8) _ 0 l, bit-or, bit-other (7 - i % 8) (7 - j % 8) (omega arith), or_zero_r)

    outside : (i / 8 < length xs → ⊥) → bit_at (set_bit xs i) j ≡ bit_at xs j
    outside l = rw (set_out xs (i / 8) (bit_or (octet_at xs (i / 8)) (2 ^ (7 - i % 8))) (omega arith))

    near : j / 8 ≡ i / 8 → bit_at (set_bit xs i) j ≡ bit_at xs j
    near p = elim (dec_lt (i / 8) (length xs)) [ yes l ↦ inside p l | no l ↦ outside l ]

-- ---- two numbers are equal where their bits are

pub mod-ext : (k x y : ℕ) → ((l : ℕ) → l < k → bit_of x l ≡ bit_of y l) → x % 2 ^ k ≡ y % 2 ^ k
unfolding bit_of
mod-ext zero x y h = mod-one x ∙ sym (mod-one y)
mod-ext (suc k) x y h = rw (← one-add k, mod-pow-add x 1 k, mod-pow-add y 1 k, mod-ext k x y (λ l p. h l (omega arith)), h k (omega arith))

-- octets of one length are equal where every bit is
pub bits-ext : (xs ys : List ℕ) → length xs ≡ length ys → Octets xs → Octets ys
    → ((i : ℕ) → i < 8 * length xs → bit_at xs i ≡ bit_at ys i) → xs ≡ ys
unfolding bit_at
bits-ext xs ys e hx hy h = ext_get_or 0 xs ys e (λ j p. octet j p)
  where
    place : (j k : ℕ) → k < 8 → j < length xs → bit_of (octet_at xs j) k ≡ bit_of (octet_at ys j) k
    place j k l p =
        let a : (j * 8 + (7 - k)) / 8 ≡ j = omega arith in
        let b : 7 - (j * 8 + (7 - k)) % 8 ≡ k = omega arith in
        rw (a, b) at (h (j * 8 + (7 - k)) (omega arith))

    octet : (j : ℕ) → j < length xs → octet_at xs j ≡ octet_at ys j
    octet j p = sym (mod-eq_of_lt (hx j)) ∙ mod-ext 8 (octet_at xs j) (octet_at ys j) (λ k l. place j k l p) ∙ mod-eq_of_lt (hy j)

-- ---- what the code computes

-- the mask of column m of an octet
pub top : (m : ℕ) → m < 8 → 128 / 2 ^ m ≡ 2 ^ (7 - m)
top m h =
    let n : 7 - m + m ≡ 7 = omega arith in
    let e : 2 ^ (7 - m) * 2 ^ m ≡ 128 = sym (pow-add 2 (7 - m) m) ∙ ap (λ (k : ℕ). 2 ^ k) n in
    rw e at (shl-shr (2 ^ (7 - m)) m)

-- the mask of what is below the first m columns of an octet
pub low : (m : ℕ) → m < 8 → 255 / 2 ^ m ≡ 2 ^ (8 - m) - 1
low m h =
    let n : 8 - m + m ≡ 8 = omega arith in
    let e : (2 ^ (8 - m) - 1) * 2 ^ m + (2 ^ m - 1) ≡ 255 = sym (ones_split (8 - m) m) ∙ ap (λ (k : ℕ). 2 ^ k - 1) n in
    rw e at (high (2 ^ (8 - m) - 1) m (ones_lt m))

-- ---- the spare bits: three ways

pub spare-none : (xs : List ℕ) (n : ℕ) → n % 8 ≡ 0 → true ≡ spare_clear xs n
unfolding spare_clear
spare-none xs n h = rw (h, mod-one (octet_at xs (n / 8)))

pub spare-out : (xs : List ℕ) (n : ℕ) → length xs ≤ n / 8 → true ≡ spare_clear xs n
unfolding spare_clear
spare-out xs n h = rw (get_or-eq_default xs 0 {n = n / 8} h, zero-mod (2 ^ ((8 - n % 8) % 8)))

pub spare-mask : (xs : List ℕ) (n : ℕ) → (n % 8 ≡ 0 → ⊥) → eqb (bit_and (octet_at xs (n / 8)) (255 / 2 ^ (n % 8))) 0 ≡ spare_clear xs n
unfolding spare_clear
spare-mask xs n h =
    let e : (8 - n % 8) % 8 ≡ 8 - n % 8 = omega arith in
    rw (low (n % 8) (omega arith), and_mask (octet_at xs (n / 8)) (8 - n % 8), e)

-- ---- presence octets are known by their bits

low-zero : (x s k : ℕ) → x % 2 ^ s ≡ 0 → k < s → bit_of x k ≡ 0
unfolding bit_of
low-zero x s k h l =
    let e : s ≡ s - k + k = omega arith in
    let f : s - k ≡ s - k - 1 + 1 = omega arith in
    let z : x / 2 ^ k % 2 ^ (s - k) ≡ 0 = sym (field x (s - k) k) ∙ ap (λ (n : ℕ). x % 2 ^ n / 2 ^ k) (sym e) ∙ ap (λ (n : ℕ). n / 2 ^ k) h ∙ zero-div (2 ^ k) in
    sym (mod-mod-pow (x / 2 ^ k) (s - k - 1) 1) ∙ ap (λ (n : ℕ). x / 2 ^ k % 2 ^ n % 2) (sym f) ∙ ap (λ (n : ℕ). n % 2) z

-- the spare bits are 0
pub spare-zero : (xs : List ℕ) (n i : ℕ) → spare_clear xs n ≡ true → n ≤ i → i < 8 * ((n + 7) / 8) → bit_at xs i ≡ 0
unfolding spare_clear bit_at
spare-zero xs n i h l u =
    let p : i / 8 ≡ n / 8 = omega arith in
    rw p (low-zero (octet_at xs (n / 8)) ((8 - n % 8) % 8) (7 - i % 8) (eqb-true _ _ h) (omega arith))

-- two presence lists of n columns with the same n bits are the same octets
pub presence-ext : (n : ℕ) (xs ys : List ℕ) → length xs ≡ (n + 7) / 8 → length ys ≡ (n + 7) / 8 → Octets xs → Octets ys
    → spare_clear xs n ≡ true → spare_clear ys n ≡ true → ((i : ℕ) → i < n → bit_at xs i ≡ bit_at ys i) → xs ≡ ys
presence-ext n xs ys lx ly hx hy sx sy h = bits-ext xs ys (lx ∙ sym ly) hx hy all
  where
    all : (i : ℕ) → i < 8 * length xs → bit_at xs i ≡ bit_at ys i
    all i p = elim (dec_lt i n) [ yes q ↦ h i q | no q ↦ spare-zero xs n i sx (omega arith) (omega arith) ∙ sym (spare-zero ys n i sy (omega arith) (omega arith)) ]

-- ---- the code's own terms, for search

pub bit_in : (xs : List ℕ) (i : ℕ) → bit_and (octet_at xs (i / 8) / 2 ^ (7 - i % 8)) 1 ≡ bit_at xs i
unfolding bit_at bit_of
bit_in xs i = and_mask (octet_at xs (i / 8) / 2 ^ (7 - i % 8)) 1

pub bit-out : (xs : List ℕ) (i : ℕ) → length xs ≤ i / 8 → 0 ≡ bit_at xs i
unfolding bit_at
bit-out xs i h = rw (get_or-eq_default xs 0 {n = i / 8} h) (sym (bit-zero (7 - i % 8)))

pub set-in : (xs : List ℕ) (i : ℕ) → set xs (i / 8) (bit_or (octet_at xs (i / 8)) (128 / 2 ^ (i % 8))) ≡ set_bit xs i
unfolding set_bit
set-in xs i = rw (top (i % 8) (omega arith))

pub set_past : (xs : List ℕ) (i : ℕ) → length xs ≤ i / 8 → xs ≡ set_bit xs i
unfolding set_bit
set_past xs i h = sym (set_out xs (i / 8) (bit_or (octet_at xs (i / 8)) (2 ^ (7 - i % 8))) h)

-- the bit in its place
and-bit : (x k : ℕ) → bit_and x (2 ^ k) ≡ bit_of x k * 2 ^ k
unfolding bit_of
and-bit x k =
    let p : 2 ^ (1 + k) ≡ 2 * 2 ^ k = pow-add 2 1 k in
    let e : 2 ^ (1 + k) - 2 ^ k ≡ 2 ^ k = twice (2 ^ (1 + k)) (2 ^ k) p in
    rw e at (and_high x 1 k)
  where
    twice : (a b : ℕ) → a ≡ 2 * b → a - b ≡ b
    twice a b h = omega arith

pub clear_in : (xs : List ℕ) (i : ℕ) → set xs (i / 8) (bit_xor (octet_at xs (i / 8)) (bit_and (octet_at xs (i / 8)) (128 / 2 ^ (i % 8)))) ≡ clear_bit xs i
unfolding clear_bit bit_at
clear_in xs i = rw (top (i % 8) (omega arith), and-bit (octet_at xs (i / 8)) (7 - i % 8))

pub clear-past : (xs : List ℕ) (i : ℕ) → length xs ≤ i / 8 → xs ≡ clear_bit xs i
unfolding clear_bit
clear-past xs i h = sym (set_out xs (i / 8) (bit_xor (octet_at xs (i / 8)) (bit_at xs i * 2 ^ (7 - i % 8))) h)

pub room-even : (n : ℕ) → n % 8 ≡ 0 → n / 8 ≡ room n
room-even n h = omega arith

pub room-odd : (n : ℕ) → (n % 8 ≡ 0 → ⊥) → n / 8 + 1 ≡ room n
room-odd n h = omega arith

pub ruleset presence =
    (bit_in, bit-out, set-in, set_past, clear_in, clear-past, spare-none, spare-mask, spare-out, room-even, room-odd)
