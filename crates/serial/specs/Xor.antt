-- Laws of bit_xor that the library lacks, and functions that pass through it. Assumes nothing.
use Rattle.std.specs.Prelude.{◌≡◌, refl, ℕ, zero, suc, ◌+◌, ◌*◌, ◌/◌, ◌%◌, ◌^◌, ◌<◌}
use Rattle.std.proofs.Common.{sym, ap, ap₂, ◌∙◌, add-zero, zero-mul, one-mul, zero-add, mod-lt, arith, pow_pos, shr_lt}
use Rattle.std.proofs.Math.Arith.{bin_ind, lt-one}
use Rattle.std.proofs.Math.Pow.{split}
use Rattle.std.specs.Int.Bits.{bit_xor, differ, xor_step, xor_zero_r, xor_self, xor_shifted}
use Rattle.std.proofs.lemmas.Nat.{xor_shr, xor_mod, xor_comm, xor_block}

bits3 : (x y z : ℕ) → x < 2 → y < 2 → z < 2 → differ (bit_xor x y) z ≡ differ x (bit_xor y z)
bits3 zero zero zero hx hy hz = refl
bits3 zero zero (suc zero) hx hy hz = refl
bits3 zero zero (suc (suc z)) hx hy hz = absurd (omega arith)
bits3 zero (suc zero) zero hx hy hz = refl
bits3 zero (suc zero) (suc zero) hx hy hz = refl
bits3 zero (suc zero) (suc (suc z)) hx hy hz = absurd (omega arith)
bits3 zero (suc (suc y)) z hx hy hz = absurd (omega arith)
bits3 (suc zero) zero zero hx hy hz = refl
bits3 (suc zero) zero (suc zero) hx hy hz = refl
bits3 (suc zero) zero (suc (suc z)) hx hy hz = absurd (omega arith)
bits3 (suc zero) (suc zero) zero hx hy hz = refl
bits3 (suc zero) (suc zero) (suc zero) hx hy hz = refl
bits3 (suc zero) (suc zero) (suc (suc z)) hx hy hz = absurd (omega arith)
bits3 (suc zero) (suc (suc y)) z hx hy hz = absurd (omega arith)
bits3 (suc (suc x)) y z hx hy hz = absurd (omega arith)

pub xor_assoc : (a b c : ℕ) → bit_xor (bit_xor a b) c ≡ bit_xor a (bit_xor b c)
xor_assoc = bin_ind (λ (a : ℕ). (b c : ℕ) → bit_xor (bit_xor a b) c ≡ bit_xor a (bit_xor b c)) (λ b c. refl) go
  where
    go : (a : ℕ) → ((b c : ℕ) → bit_xor (bit_xor (a / 2) b) c ≡ bit_xor (a / 2) (bit_xor b c)) → (b c : ℕ) → bit_xor (bit_xor a b) c ≡ bit_xor a (bit_xor b c)
    go a ih b c =
        xor_step (bit_xor a b) c
        ∙ ap₂ (λ (x y : ℕ). bit_xor x (c / 2) * 2 + differ y (c % 2)) (xor_shr a b 1) (xor_mod a b 1)
        ∙ ap₂ (λ (x y : ℕ). x * 2 + y) (ih (b / 2) (c / 2)) (bits3 (a % 2) (b % 2) (c % 2) (omega arith) (omega arith) (omega arith))
        ∙ ap₂ (λ (x y : ℕ). bit_xor (a / 2) x * 2 + differ (a % 2) y) (sym (xor_shr b c 1)) (sym (xor_mod b c 1))
        ∙ sym (xor_step a (bit_xor b c))

-- two pairs, the other way round
pub xor-swap : (a b c d : ℕ) → bit_xor (bit_xor a b) (bit_xor c d) ≡ bit_xor (bit_xor a c) (bit_xor b d)
xor-swap a b c d =
    xor_assoc a b (bit_xor c d) ∙ ap (bit_xor a) (sym (xor_assoc b c d) ∙ ap (λ (x : ℕ). bit_xor x d) (xor_comm b c) ∙ xor_assoc c b d) ∙ sym (xor_assoc a c (bit_xor b d))

-- a shift to the left
pub xor-shl : (a b k : ℕ) → bit_xor a b * 2 ^ k ≡ bit_xor (a * 2 ^ k) (b * 2 ^ k)
xor-shl a b k = sym (simp add-zero at (xor_block k a b 0 0 (pow_pos k) (pow_pos k)))

-- a bit times a number
bit-times : (x y p : ℕ) → x < 2 → y < 2 → bit_xor x y * p ≡ bit_xor (x * p) (y * p)
bit-times zero y p hx hy = rw zero-mul
bit-times (suc zero) zero p hx hy = rw (zero-mul, xor_zero_r (1 * p))
bit-times (suc zero) (suc zero) p hx hy = rw (xor_self (1 * p)) (zero-mul p)
bit-times (suc zero) (suc (suc y)) p hx hy = absurd (omega arith)
bit-times (suc (suc x)) y p hx hy = absurd (omega arith)

pub xor-bit-times : (a b p : ℕ) → bit_xor a b % 2 * p ≡ bit_xor (a % 2 * p) (b % 2 * p)
xor-bit-times a b p = ap (λ (x : ℕ). x * p) (xor_mod a b 1) ∙ bit-times (a % 2) (b % 2) p (omega arith) (omega arith)

-- functions that pass through bit_xor
abbrev pub Lin : (ℕ → ℕ) → Type 0
Lin f = (a b : ℕ) → f (bit_xor a b) ≡ bit_xor (f a) (f b)

pub lin-zero : (f : ℕ → ℕ) → Lin f → f 0 ≡ 0
lin-zero f l = l 0 0 ∙ xor_self (f 0)

pub lin-xor : (f g : ℕ → ℕ) → Lin f → Lin g → Lin (λ (x : ℕ). bit_xor (f x) (g x))
lin-xor f g l m a b = ap₂ bit_xor (l a b) (m a b) ∙ xor-swap (f a) (f b) (g a) (g b)

-- two such functions that agree at each power of two below 2 ^ n agree at each number below it
pub basis : (f g : ℕ → ℕ) → Lin f → Lin g → (n : ℕ) → ((k : ℕ) → k < n → f (2 ^ k) ≡ g (2 ^ k)) → (x : ℕ) → x < 2 ^ n → f x ≡ g x
basis f g l m zero h x p = rw (lt-one p) (lin-zero f l ∙ sym (lin-zero g m))
basis f g l m (suc n) h x p =
    let low : f (x % 2 ^ n) ≡ g (x % 2 ^ n) = basis f g l m n (λ k q. h k (omega arith)) (x % 2 ^ n) (mod-lt x (pow_pos n)) in
    top (x / 2 ^ n) (shr_lt 1 n (rw one-plus p)) low (split x n)
  where
    one-plus : 1 + n ≡ suc n
    one-plus = omega arith

    top : (q : ℕ) → q < 2 → f (x % 2 ^ n) ≡ g (x % 2 ^ n) → q * 2 ^ n + x % 2 ^ n ≡ x → f x ≡ g x
    top zero z low e =
        let e' : x % 2 ^ n ≡ x = rw (zero-mul, zero-add) at e in
        rw e' at low
    top (suc zero) z low e =
        let e' : bit_xor (2 ^ n) (x % 2 ^ n) ≡ x = rw one-mul at (xor_shifted 1 n (x % 2 ^ n) (mod-lt x (pow_pos n)) ∙ e) in
        rw (← e') (l (2 ^ n) (x % 2 ^ n) ∙ ap₂ bit_xor (h n (omega arith)) low ∙ sym (m (2 ^ n) (x % 2 ^ n)))
    top (suc (suc q)) z low e = absurd (omega arith)
