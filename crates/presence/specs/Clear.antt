-- A presence bit that is cleared: it alone becomes 0. And spare bits by their places: they are clear where every bit behind the columns is 0.
use Rattle.std.specs.Prelude.{◌≡◌, refl, true, List, ℕ, zero, suc, ◌+◌, ◌-◌, ◌*◌, ◌/◌, ◌%◌, ◌^◌, ◌<◌, ◌≤◌, set}
use Rattle.std.proofs.Common.{sym, ◌∙◌, zero-mul, one-mul, arith, get_or-set_other, eq-eqb}
use Rattle.std.proofs.Math.Path.{ap}
use Rattle.std.proofs.Math.Nat.{zero-mod}
use Rattle.std.proofs.Math.Decide.{dec_lt, ℕ_discrete}
use Rattle.std.specs.Int.Bits.{bit_xor, xor_lt, xor_zero_r}
use Rattle.std.proofs.lemmas.Nat.{xor_shr, xor_mod}
use Rattle.std.proofs.Math.Pow.{pow-lt}
use Rattle.std.proofs.Math.ListN.{length, length-set}
use Rattle.std.proofs.Math.Seq.{get_or-set_same, set_out}
use Rattle.octets.specs.Octets.{octet_at, Octets}
use Rattle.presence.specs.Presence.{room, bit_of, bit_at, clear_bit, spare_clear, bit-lt, bit-zero, bit-same, bit-other, mod-ext}

-- ---- spare bits

pub spare-from : (p : List ℕ) (n : ℕ) → ((j : ℕ) → n ≤ j → j < 8 * room n → bit_at p j ≡ 0) → spare_clear p n ≡ true
unfolding spare_clear bit_at
spare-from p n h =
    eq-eqb _ 0 (mod-ext s x 0 (λ l k. low l k ∙ sym (bit-zero l)) ∙ zero-mod (2 ^ s))
  where
    s : ℕ
    s = (8 - n % 8) % 8

    x : ℕ
    x = octet_at p (n / 8)

    low : (l : ℕ) → l < s → bit_of x l ≡ 0
    low l k =
        let i : ℕ = n / 8 * 8 + (7 - l) in
        let a : (n / 8 * 8 + (7 - l)) / 8 ≡ n / 8 = omega arith in
        let b : 7 - (n / 8 * 8 + (7 - l)) % 8 ≡ l = omega arith in
        rw (a, b) at (h i (omega arith) (omega arith))

-- ---- one bit of a number

bit-xor : (a b k : ℕ) → bit_of (bit_xor a b) k ≡ bit_xor (bit_of a k) (bit_of b k)
unfolding bit_of
bit-xor a b k = rw (xor_shr a b k) (xor_mod (a / 2 ^ k) (b / 2 ^ k) 1)

-- of t * 2 ^ k, where t is a bit
bit-at : (t k : ℕ) → t < 2 → bit_of (t * 2 ^ k) k ≡ t
bit-at zero k h = rw zero-mul (bit-zero k)
bit-at (suc zero) k h = rw one-mul (bit-same k)
bit-at (suc (suc t)) k h = absurd (omega arith)

bit-beside : (t k l : ℕ) → t < 2 → (l ≡ k → ⊥) → bit_of (t * 2 ^ k) l ≡ 0
bit-beside zero k l h n = rw zero-mul (bit-zero l)
bit-beside (suc zero) k l h n = rw one-mul (bit-other k l n)
bit-beside (suc (suc t)) k l h n = absurd (omega arith)

xor_self : (t : ℕ) → t < 2 → bit_xor t t ≡ 0
xor_self zero h = refl
xor_self (suc zero) h = refl
xor_self (suc (suc t)) h = absurd (omega arith)

-- ---- a bit that is cleared

pub clear-same : (xs : List ℕ) (i : ℕ) → i / 8 < length xs → bit_at (clear_bit xs i) i ≡ 0
unfolding bit_at clear_bit
clear-same xs i h =
    let k : ℕ = 7 - i % 8 in
    let x : ℕ = octet_at xs (i / 8) in
    let t : bit_of x k < 2 = bit-lt x k in
    rw (get_or-set_same xs (i / 8) (bit_xor x (bit_of x k * 2 ^ k)) 0 h, bit-xor x (bit_of x k * 2 ^ k) k, bit-at (bit_of x k) k t) (xor_self (bit_of x k) t)

module _ (xs : List ℕ) (i : ℕ) where
  abbrev k : ℕ
  k = 7 - i % 8

  abbrev x : ℕ
  x = octet_at xs (i / 8)

  abbrev new : ℕ
  new = bit_xor x (bit_of x k * 2 ^ k)

  pub clear-other : (j : ℕ) → (j ≡ i → ⊥) → bit_at (clear_bit xs i) j ≡ bit_at xs j
  unfolding bit_at clear_bit
  clear-other j h = elim (ℕ_discrete (j / 8) (i / 8)) [ no p ↦ ap (λ (x : ℕ). bit_of x (7 - j % 8)) (get_or-set_other xs (i / 8) (j / 8) _ 0 p) | yes p ↦ near p ]
    where
      inside : j / 8 ≡ i / 8 → i / 8 < length xs → bit_of (octet_at (set xs (i / 8) new) (j / 8)) (7 - j % 8) ≡ bit_of (octet_at xs (j / 8)) (7 - j % 8)
      inside p l =
          let n : 7 - j % 8 ≡ k → ⊥ = λ e. h (omega arith) in
          rw (p, get_or-set_same xs (i / 8) new 0 l, bit-xor x (bit_of x k * 2 ^ k) (7 - j % 8), bit-beside (bit_of x k) k (7 - j % 8) (bit-lt x k) n) (xor_zero_r (bit_of x (7 - j % 8)))

      near : j / 8 ≡ i / 8 → bit_of (octet_at (set xs (i / 8) new) (j / 8)) (7 - j % 8) ≡ bit_of (octet_at xs (j / 8)) (7 - j % 8)
      near p = elim (dec_lt (i / 8) (length xs)) [ yes l ↦ inside p l | no l ↦ ap (λ (z : List ℕ). bit_of (octet_at z (j / 8)) (7 - j % 8)) (set_out xs (i / 8) new (omega arith)) ]

  pub length-clear_bit : length (clear_bit xs i) ≡ length xs
  unfolding clear_bit
  length-clear_bit = length-set xs (i / 8) _

  mask : (t : ℕ) → t < 2 → t * 2 ^ k < 2 ^ 8
  mask zero h = rw zero-mul (omega arith)
  mask (suc zero) h = rw one-mul (pow-lt {j = 8} (omega arith))
  mask (suc (suc t)) h = absurd (omega arith)

  pub octets-clear_bit : Octets xs → Octets (clear_bit xs i)
  unfolding clear_bit bit_at
  octets-clear_bit o j = elim (ℕ_discrete j (i / 8)) [ no p ↦ rw (get_or-set_other xs (i / 8) j _ 0 p) (o j) | yes p ↦ at p ]
    where
      small : new < 256
      small = xor_lt 8 x (bit_of x k * 2 ^ k) (o (i / 8)) (mask (bit_of x k) (bit-lt x k))

      at : j ≡ i / 8 → octet_at (set xs (i / 8) new) j < 256
      at p = elim (dec_lt (i / 8) (length xs)) [ yes l ↦ rw (p, get_or-set_same xs (i / 8) new 0 l) small | no l ↦ rw (set_out xs (i / 8) new (omega arith)) (o j) ]
