-- The serial of many octets at once: all octets as one number, from which the bits go out; and the fold of 64-bit words, which spreads each word that
-- goes out over the words behind it. The fold is proved equal to the bit steps. Assumes nothing.
use Rattle.std.specs.Prelude.{◌≡◌, refl, List, [], ◌∷◌, ◌++◌, length, get_or, take, drop}
use Rattle.std.proofs.Common.{sym, ap, ap₂, ◌∙◌, mul_assoc, pow-suc, mul-div_cancel, zero-lt-suc, add_comm, suc-add, zero-add, lt_of_lt_of_le, mod-lt, length-drop, take-append-drop, length-take-le, drop-drop, pow_pos, pow-add, pow_mono, shr_lt, Fits}
use Prim.Native.Nat.{ℕ, zero, suc, ◌+◌, ◌-◌, ◌*◌, ◌/◌, ◌%◌, ◌^◌, ◌<◌, ◌≤◌}
use Rattle.std.proofs.Math.Nat.{mul-mod_left, mul-div-mul_right}
use native.Mathlib.Omega.{arith}
use Rattle.std.proofs.Math.Numerals.{towards_suc}
use Rattle.octets.specs.Octets.{Octets, octets-drop, octets-take, take-octets, rest_of}
use Rattle.octets.specs.Word.{val_of}
use Rattle.std.proofs.Math.Pow.{split}
use Rattle.std.specs.Int.{w8, w32, w64, from_le_bytes}
use Rattle.std.specs.Int.Bits.{bit_and, bit_xor, xor_zero_r, xor_shifted}
use Rattle.std.proofs.lemmas.Nat.{and_mask, xor_shr, xor_comm, xor_lt}
use Rattle.serial.specs.Serial.{bit_step, octet_step, serial_from}
use Rattle.serial.specs.Xor.{xor_assoc, xor-swap, xor-shl, xor-bit-times, Lin, lin-xor, basis}

-- n bit steps: n bits go out
unfoldable pub steps : ℕ → ℕ → ℕ
steps zero x = x
steps (suc n) x = steps n (bit_step x)

pub steps-add : (m n x : ℕ) → steps (m + n) x ≡ steps n (steps m x)
unfolding steps
steps-add zero n x = rw zero-add
steps-add (suc m) n x = rw suc-add (steps-add m n (bit_step x))

bit-lin : Lin bit_step
unfolding bit_step
bit-lin a b =
    ap₂ bit_xor (xor_shr a b 1) (xor-bit-times a b 0xEDB88320)
    ∙ xor-swap (a / 2) (b / 2) (a % 2 * 0xEDB88320) (b % 2 * 0xEDB88320)

pub steps-lin : (n : ℕ) → Lin (steps n)
unfolding steps
steps-lin zero a b = refl
steps-lin (suc n) a b = ap (steps n) (bit-lin a b) ∙ steps-lin n (bit_step a) (bit_step b)

bit-even : (y : ℕ) → bit_step (y * 2) ≡ y
unfolding bit_step
bit-even y = rw (mul-div_cancel y (zero-lt-suc 1), mul-mod_left y 2) (xor_zero_r y)

-- a number shifted up by n comes down again
pub steps-shift : (n y : ℕ) → steps n (y * 2 ^ n) ≡ y
unfolding steps
steps-shift zero y = omega arith
steps-shift (suc n) y = rw (pow-suc, ← mul_assoc, bit-even) (steps-shift n y)

-- the octets as one number
unfoldable pub wide : List ℕ → ℕ
wide [] = 0
wide (b ∷ bs) = bit_xor b (wide bs * 2 ^ 8)

-- the state after the octets, where the number p is added to them
unfoldable pub serial_with : List ℕ → ℕ → ℕ
serial_with bs p = steps (8 * length bs) (bit_xor (wide bs) p)

octet-steps : (c b : ℕ) → octet_step c b ≡ steps 8 (bit_xor c b)
unfolding octet_step steps
octet-steps c b = refl

-- n bits go out of a number with another above it
pub steps-below : (n a y : ℕ) → steps n (bit_xor a (y * 2 ^ n)) ≡ bit_xor (steps n a) y
steps-below n a y = steps-lin n a (y * 2 ^ n) ∙ ap (bit_xor (steps n a)) (steps-shift n y)

pub with-is : (c : ℕ) (bs : List ℕ) → serial_from c bs ≡ serial_with bs c
unfolding serial_with wide steps
with-is c [] = refl
with-is c (b ∷ bs) =
    let e : 8 * suc (length bs) ≡ 8 + 8 * length bs = omega arith in
    let f : bit_xor (bit_xor b (wide bs * 2 ^ 8)) c ≡ bit_xor (bit_xor c b) (wide bs * 2 ^ 8) = xor_comm _ c ∙ sym (xor_assoc c b (wide bs * 2 ^ 8)) in
    with-is (octet_step c b) bs
    ∙ ap (steps (8 * length bs)) (xor_comm (wide bs) (octet_step c b) ∙ ap (λ (x : ℕ). bit_xor x (wide bs)) (octet-steps c b) ∙ sym (steps-below 8 (bit_xor c b) (wide bs)))
    ∙ sym (steps-add 8 (8 * length bs) (bit_xor (bit_xor c b) (wide bs * 2 ^ 8)))
    ∙ sym (ap₂ steps e f)

-- ---- a bit stands for four later ones

steps-comm : (m n x : ℕ) → steps m (steps n x) ≡ steps n (steps m x)
steps-comm m n x = sym (steps-add n m x) ∙ ap (λ (k : ℕ). steps k x) (add_comm n m) ∙ steps-add m n x

abbrev four : ℕ → ℕ
four y = bit_xor (bit_xor (bit_xor (steps 155 y) (steps 117 y)) (steps 89 y)) y

four-lin : Lin four
four-lin = lin-xor (λ (y : ℕ). bit_xor (bit_xor (steps 155 y) (steps 117 y)) (steps 89 y)) (λ (y : ℕ). y) (lin-xor (λ (y : ℕ). bit_xor (steps 155 y) (steps 117 y)) (steps 89) (lin-xor (steps 155) (steps 117) (steps-lin 155) (steps-lin 117)) (steps-lin 89)) (λ a b. refl)

-- computed
four-top : steps 300 (2 ^ 31) ≡ four (2 ^ 31)
unfolding steps bit_step
four-top = refl

four-at : (k : ℕ) → k < 32 → steps 300 (2 ^ k) ≡ four (2 ^ k)
four-at k h =
    let e : k + (31 - k) ≡ 31 = omega arith in
    let s : steps (31 - k) (2 ^ 31) ≡ 2 ^ k = ap (steps (31 - k)) (sym (sym (pow-add 2 k (31 - k)) ∙ ap (λ (n : ℕ). 2 ^ n) e)) ∙ steps-shift (31 - k) (2 ^ k) in
    let c : (n : ℕ) → steps (31 - k) (steps n (2 ^ 31)) ≡ steps n (2 ^ k) = λ n. steps-comm (31 - k) n (2 ^ 31) ∙ ap (steps n) s in
    sym (c 300) ∙ ap (steps (31 - k)) four-top
    ∙ steps-lin (31 - k) _ _ ∙ ap₂ bit_xor (steps-lin (31 - k) _ _ ∙ ap₂ bit_xor (steps-lin (31 - k) _ _ ∙ ap₂ bit_xor (c 155) (c 117)) (c 89)) s

pub four_is : (y : ℕ) → y < 2 ^ 32 → steps 300 y ≡ four y
four_is y h = basis (steps 300) four (steps-lin 300) four-lin 32 four-at y h

-- what is left of a number of 32 + n bits after n bits
steps-lt : (n x : ℕ) → x < 2 ^ (32 + n) → steps n x < 2 ^ 32
unfolding steps bit_step
steps-lt zero x h = h
steps-lt (suc n) x h =
    let e : 32 + suc n ≡ 1 + (32 + n) = omega arith in
    let f : 1 + (32 + n) ≡ (32 + n) + 1 = omega arith in
    steps-lt n _ (xor_lt (32 + n) _ _ (shr_lt (32 + n) 1 (rw (e, f) at h)) (lt_of_lt_of_le poly (pow_mono {i = 32} {j = 32 + n} (omega arith))))
  where
    poly : x % 2 * 0xEDB88320 < 2 ^ 32
    poly = omega arith

-- the number's bits, moved to where they count as much, past the 64 bits that go out
unfoldable pub spread : ℕ → ℕ
spread a = bit_xor (bit_xor (bit_xor (a * 2 ^ 81) (a * 2 ^ 119)) (a * 2 ^ 147)) (a * 2 ^ 236)

term : (t r a : ℕ) → steps (t + r) (a * 2 ^ t) ≡ steps r a
term t r a = steps-add t r (a * 2 ^ t) ∙ ap (steps r) (steps-shift t a)

-- piece by piece: the bits above the 64, then the 64, then those of the identity
far : (t u e l a : ℕ) → l ≡ t + (64 + (u + e)) → steps l (a * 2 ^ t) ≡ steps e (steps u (steps 64 a))
far t u e l a q = ap (λ (n : ℕ). steps n (a * 2 ^ t)) q ∙ term t (64 + (u + e)) a ∙ steps-add 64 (u + e) a ∙ steps-add u e (steps 64 a)

pub spread-is : (l a : ℕ) → 300 ≤ l → a < 2 ^ 64 → steps l (steps 64 a) ≡ steps l (spread a)
unfolding spread steps
spread-is l a h k =
    let e : ℕ = l - 300 in
    let q : l ≡ 300 + e = omega arith in
    ap (λ (n : ℕ). steps n (steps 64 a)) q ∙ steps-add 300 e (steps 64 a) ∙ ap (steps e) (four_is (steps 64 a) (steps-lt 64 a (small k)))
    ∙ steps-lin e _ _ ∙ ap₂ bit_xor (steps-lin e _ _ ∙ ap₂ bit_xor (steps-lin e _ _ ∙ ap₂ bit_xor (sym (far 81 155 e l a (omega arith))) (sym (far 119 117 e l a (omega arith)))) (sym (far 147 89 e l a (omega arith)))) (sym (far 236 0 e l a (omega arith)))
    ∙ sym (steps-lin l _ _ ∙ ap (λ (x : ℕ). bit_xor x (steps l (a * 2 ^ 236))) (steps-lin l _ _ ∙ ap (λ (x : ℕ). bit_xor x (steps l (a * 2 ^ 147))) (steps-lin l _ _)))
  where
    small : a < 2 ^ 64 → a < 2 ^ 96
    small p = omega arith

-- ---- a word of 64 bits goes out

pub wide-append : (xs ys : List ℕ) → wide (xs ++ ys) ≡ bit_xor (wide xs) (wide ys * 2 ^ (8 * length xs))
unfolding wide
wide-append [] ys = omega arith
wide-append (x ∷ xs) ys =
    let e : 8 * suc (length xs) ≡ 8 * length xs + 8 = omega arith in
    rw (wide-append xs ys, xor-shl (wide xs) (wide ys * 2 ^ (8 * length xs)) 8, e, pow-add 2 (8 * length xs) 8, ← mul_assoc (wide ys) (2 ^ (8 * length xs)) (2 ^ 8))
    (sym (xor_assoc x (wide xs * 2 ^ 8) (wide ys * 2 ^ (8 * length xs) * 2 ^ 8)))

pub with-word : (bs : List ℕ) (p r : ℕ) → 8 ≤ length bs → serial_with bs (bit_xor p (r * 2 ^ 64)) ≡ serial_with (drop 8 bs) (bit_xor (steps 64 (bit_xor (wide (take 8 bs)) p)) r)
unfolding serial_with
with-word bs p r h =
    let w : ℕ = wide (take 8 bs) in
    let v : ℕ = wide (drop 8 bs) in
    let y : ℕ = steps 64 (bit_xor (wide (take 8 bs)) p) in
    let n : 8 * length bs ≡ 64 + 8 * length (drop 8 bs) = rw (length-drop 8 bs) (omega arith) in
    let s : wide bs ≡ bit_xor w (v * 2 ^ 64) =
    ap wide (sym (take-append-drop 8 bs)) ∙ wide-append (take 8 bs) (drop 8 bs) ∙ ap (λ (k : ℕ). bit_xor w (v * 2 ^ (8 * k))) (length-take-le 8 bs h) in
    let z : bit_xor (wide bs) (bit_xor p (r * 2 ^ 64)) ≡ bit_xor (bit_xor w p) (bit_xor v r * 2 ^ 64) =
    ap (λ (x : ℕ). bit_xor x (bit_xor p (r * 2 ^ 64))) s ∙ xor-swap w (v * 2 ^ 64) p (r * 2 ^ 64) ∙ ap (bit_xor (bit_xor w p)) (sym (xor-shl v r 64)) in
    ap₂ steps n z ∙ steps-add 64 (8 * length (drop 8 bs)) _
    ∙ ap (steps (8 * length (drop 8 bs))) (steps-below 64 (bit_xor w p) (bit_xor v r) ∙ sym (xor_assoc y v r) ∙ ap (λ (x : ℕ). bit_xor x r) (xor_comm y v) ∙ xor_assoc v y r)

pub with-spread : (bs : List ℕ) (a r : ℕ) → 300 ≤ 8 * length bs → a < 2 ^ 64 → serial_with bs (bit_xor (steps 64 a) r) ≡ serial_with bs (bit_xor r (spread a))
unfolding serial_with
with-spread bs a r h k =
    let l : ℕ = 8 * length bs in
    steps-lin l (wide bs) _ ∙ ap (bit_xor (steps l (wide bs))) (steps-lin l (steps 64 a) r ∙ ap (λ (x : ℕ). bit_xor x (steps l r)) (spread-is l a h k) ∙ xor_comm (steps l (spread a)) (steps l r) ∙ sym (steps-lin l r (spread a)))
    ∙ sym (steps-lin l (wide bs) _)

-- ---- what is still to be added, in five words

unfoldable pub pending : ℕ → ℕ → ℕ → ℕ → ℕ → ℕ
pending p q r s t = bit_xor p (bit_xor q (bit_xor r (bit_xor s (t * 2 ^ 64) * 2 ^ 64) * 2 ^ 64) * 2 ^ 64)

limb : (x y p q : ℕ) → bit_xor (bit_xor x y) (bit_xor p q * 2 ^ 64) ≡ bit_xor (bit_xor x (p * 2 ^ 64)) (bit_xor y (q * 2 ^ 64))
limb x y p q = rw (xor-shl p q 64) (xor-swap x y (p * 2 ^ 64) (q * 2 ^ 64))

pending-xor : (p q r s t p' q' r' s' t' : ℕ) → pending (bit_xor p p') (bit_xor q q') (bit_xor r r') (bit_xor s s') (bit_xor t t') ≡ bit_xor (pending p q r s t) (pending p' q' r' s' t')
unfolding pending
pending-xor p q r s t p' q' r' s' t' =
    ap (λ (x : ℕ). bit_xor (bit_xor p p') (bit_xor (bit_xor q q') (bit_xor (bit_xor r r') (x * 2 ^ 64) * 2 ^ 64) * 2 ^ 64)) (limb s s' t t')
    ∙ ap (λ (x : ℕ). bit_xor (bit_xor p p') (bit_xor (bit_xor q q') (x * 2 ^ 64) * 2 ^ 64)) (limb r r' _ _)
    ∙ ap (λ (x : ℕ). bit_xor (bit_xor p p') (x * 2 ^ 64)) (limb q q' _ _)
    ∙ limb p p' _ _

-- a number shifted up by k is in two words
two : (a k j : ℕ) → 2 ^ j * 2 ^ k ≡ 2 ^ 64 → bit_xor (a * 2 ^ k % 2 ^ 64) (a / 2 ^ j * 2 ^ 64) ≡ a * 2 ^ k
two a k j e =
    let d : a * 2 ^ k / 2 ^ 64 ≡ a / 2 ^ j = ap (λ (x : ℕ). a * 2 ^ k / x) (sym e) ∙ mul-div-mul_right a (2 ^ j) (pow_pos k) in
    xor_comm (a * 2 ^ k % 2 ^ 64) (a / 2 ^ j * 2 ^ 64)
    ∙ ap (λ (x : ℕ). bit_xor (x * 2 ^ 64) (a * 2 ^ k % 2 ^ 64)) (sym d)
    ∙ xor_shifted (a * 2 ^ k / 2 ^ 64) 64 (a * 2 ^ k % 2 ^ 64) (mod-lt _ (pow_pos 64)) ∙ split (a * 2 ^ k) 64

-- the four shifts in five words
in81 : (a : ℕ) → pending 0 (a * 2 ^ 17 % 2 ^ 64) (a / 2 ^ 47) 0 0 ≡ a * 2 ^ 81
unfolding pending
in81 a = rw (xor_zero_r (a / 2 ^ 47), two a 17 47 refl) (mul_assoc a (2 ^ 17) (2 ^ 64))

in119 : (a : ℕ) → pending 0 (a * 2 ^ 55 % 2 ^ 64) (a / 2 ^ 9) 0 0 ≡ a * 2 ^ 119
unfolding pending
in119 a = rw (xor_zero_r (a / 2 ^ 9), two a 55 9 refl) (mul_assoc a (2 ^ 55) (2 ^ 64))

in147 : (a : ℕ) → pending 0 0 (a * 2 ^ 19 % 2 ^ 64) (a / 2 ^ 45) 0 ≡ a * 2 ^ 147
unfolding pending
in147 a = rw (xor_zero_r (a / 2 ^ 45), two a 19 45 refl) (mul_assoc (a * 2 ^ 19) (2 ^ 64) (2 ^ 64) ∙ mul_assoc a (2 ^ 19) (2 ^ 128))

in236 : (a : ℕ) → pending 0 0 0 (a * 2 ^ 44 % 2 ^ 64) (a / 2 ^ 20) ≡ a * 2 ^ 236
unfolding pending
in236 a = rw (two a 44 20 refl) (mul_assoc (a * 2 ^ 44 * 2 ^ 64) (2 ^ 64) (2 ^ 64) ∙ mul_assoc (a * 2 ^ 44) (2 ^ 64) (2 ^ 128) ∙ mul_assoc a (2 ^ 44) (2 ^ 192))

add81 : (a q r s t : ℕ) → pending q (bit_xor r (a * 2 ^ 17 % 2 ^ 64)) (bit_xor s (a / 2 ^ 47)) t 0 ≡ bit_xor (pending q r s t 0) (a * 2 ^ 81)
add81 a q r s t = simp xor_zero_r at (pending-xor q r s t 0 0 (a * 2 ^ 17 % 2 ^ 64) (a / 2 ^ 47) 0 0) ∙ ap (bit_xor (pending q r s t 0)) (in81 a)

add119 : (a q r s t : ℕ) → pending q (bit_xor r (a * 2 ^ 55 % 2 ^ 64)) (bit_xor s (a / 2 ^ 9)) t 0 ≡ bit_xor (pending q r s t 0) (a * 2 ^ 119)
add119 a q r s t = simp xor_zero_r at (pending-xor q r s t 0 0 (a * 2 ^ 55 % 2 ^ 64) (a / 2 ^ 9) 0 0) ∙ ap (bit_xor (pending q r s t 0)) (in119 a)

add147 : (a q r s t : ℕ) → pending q r (bit_xor s (a * 2 ^ 19 % 2 ^ 64)) (bit_xor t (a / 2 ^ 45)) 0 ≡ bit_xor (pending q r s t 0) (a * 2 ^ 147)
add147 a q r s t = simp xor_zero_r at (pending-xor q r s t 0 0 0 (a * 2 ^ 19 % 2 ^ 64) (a / 2 ^ 45) 0) ∙ ap (bit_xor (pending q r s t 0)) (in147 a)

add236 : (a q r s t : ℕ) → pending q r s (bit_xor t (a * 2 ^ 44 % 2 ^ 64)) (a / 2 ^ 20) ≡ bit_xor (pending q r s t 0) (a * 2 ^ 236)
add236 a q r s t = simp xor_zero_r at (pending-xor q r s t 0 0 0 0 (a * 2 ^ 44 % 2 ^ 64) (a / 2 ^ 20)) ∙ ap (bit_xor (pending q r s t 0)) (in236 a)

assoc5 : (o a b c d : ℕ) → bit_xor (bit_xor (bit_xor (bit_xor o a) b) c) d ≡ bit_xor o (bit_xor (bit_xor (bit_xor a b) c) d)
assoc5 o a b c d =
    ap (λ (x : ℕ). bit_xor (bit_xor x c) d) (xor_assoc o a b) ∙ ap (λ (x : ℕ). bit_xor x d) (xor_assoc o (bit_xor a b) c) ∙ xor_assoc o (bit_xor (bit_xor a b) c) d

-- the words after a turn
pub pending-turn : (a q r s t : ℕ) →
    pending q (bit_xor (bit_xor r (a * 2 ^ 17 % 2 ^ 64)) (a * 2 ^ 55 % 2 ^ 64)) (bit_xor (bit_xor (bit_xor s (a / 2 ^ 47)) (a / 2 ^ 9)) (a * 2 ^ 19 % 2 ^ 64)) (bit_xor (bit_xor t (a / 2 ^ 45)) (a * 2 ^ 44 % 2 ^ 64)) (a / 2 ^ 20)
    ≡ bit_xor (pending q r s t 0) (spread a)
unfolding spread
pending-turn a q r s t =
    add236 a q _ _ (bit_xor t (a / 2 ^ 45))
    ∙ ap (λ (x : ℕ). bit_xor x (a * 2 ^ 236)) (add147 a q _ (bit_xor (bit_xor s (a / 2 ^ 47)) (a / 2 ^ 9)) t)
    ∙ ap (λ (x : ℕ). bit_xor (bit_xor x (a * 2 ^ 147)) (a * 2 ^ 236)) (add119 a q (bit_xor r (a * 2 ^ 17 % 2 ^ 64)) (bit_xor s (a / 2 ^ 47)) t)
    ∙ ap (λ (x : ℕ). bit_xor (bit_xor (bit_xor x (a * 2 ^ 119)) (a * 2 ^ 147)) (a * 2 ^ 236)) (add81 a q r s t)
    ∙ assoc5 (pending q r s t 0) (a * 2 ^ 81) (a * 2 ^ 119) (a * 2 ^ 147) (a * 2 ^ 236)

-- five words are one, and four above it
pending-out : (p q r s t : ℕ) → pending p q r s t ≡ bit_xor p (pending q r s t 0 * 2 ^ 64)
unfolding pending
pending-out p q r s t = rw (xor_zero_r t)

-- a turn of the loop
pub turn : (bs : List ℕ) (p q r s t : ℕ) → 48 ≤ length bs → bit_xor (wide (take 8 bs)) p < 2 ^ 64 →
    let a : ℕ = bit_xor (wide (take 8 bs)) p in
    serial_with bs (pending p q r s t) ≡
    serial_with (drop 8 bs) (pending q (bit_xor (bit_xor r (a * 2 ^ 17 % 2 ^ 64)) (a * 2 ^ 55 % 2 ^ 64)) (bit_xor (bit_xor (bit_xor s (a / 2 ^ 47)) (a / 2 ^ 9)) (a * 2 ^ 19 % 2 ^ 64)) (bit_xor (bit_xor t (a / 2 ^ 45)) (a * 2 ^ 44 % 2 ^ 64)) (a / 2 ^ 20))
turn bs p q r s t h k =
    let a : ℕ = bit_xor (wide (take 8 bs)) p in
    let n : 300 ≤ 8 * length (drop 8 bs) = rw (length-drop 8 bs) (omega arith) in
    ap (serial_with bs) (pending-out p q r s t) ∙ with-word bs p (pending q r s t 0) (omega arith)
    ∙ with-spread (drop 8 bs) a (pending q r s t 0) n k ∙ ap (serial_with (drop 8 bs)) (sym (pending-turn a q r s t))

-- a word at the end
pub last_word : (bs : List ℕ) (p q r s t : ℕ) → 8 ≤ length bs → serial_with bs (pending p q r s t) ≡ serial_with (drop 8 bs) (pending (bit_xor (steps 64 (bit_xor (wide (take 8 bs)) p)) q) r s t 0)
unfolding pending
last_word bs p q r s t h =
    ap (serial_with bs) (pending-out p q r s t) ∙ with-word bs p (pending q r s t 0) h
    ∙ ap (serial_with (drop 8 bs)) (ap (bit_xor y) (pending-out q r s t 0) ∙ sym (xor_assoc y q (pending r s t 0 0 * 2 ^ 64)) ∙ sym (pending-out (bit_xor y q) r s t 0))
  where
    y : ℕ
    y = steps 64 (bit_xor (wide (take 8 bs)) p)

-- nothing is left to be added but the state
pub pending-one : (c : ℕ) → pending c 0 0 0 0 ≡ c
unfolding pending
pending-one c = xor_zero_r c

-- ---- what the code computes

wide_is : (xs : List ℕ) → Octets xs → wide xs ≡ val_of xs
unfolding wide
wide_is [] o = refl
wide_is (b ∷ bs) o = rw (wide_is bs (λ j. o (suc j))) (xor_comm b (val_of bs * 256) ∙ xor_shifted (val_of bs) 8 b (o 0) ∙ add_comm (val_of bs * 256) b)

eight : (xs : List ℕ) (i : ℕ) → i + 8 ≤ length xs
    → (get_or xs i 0 ∷ get_or xs (i + 1) 0 ∷ get_or xs (i + 2) 0 ∷ get_or xs (i + 3) 0 ∷ get_or xs (i + 4) 0 ∷ get_or xs (i + 5) 0 ∷ get_or xs (i + 6) 0 ∷ get_or xs (i + 7) 0 ∷ []) ≡ take 8 (drop i xs)
eight xs i h = simp (towards_suc, take-octets 8 xs i h)

-- the word that is read at i
pub word-is : {r : ℕ} (xs : List ℕ) (i : ℕ) → ((j : ℕ) → Fits w8 (get_or xs j 0)) → i + 8 ≤ length xs
    → r ≡ val_of (get_or xs i 0 ∷ get_or xs (i + 1) 0 ∷ get_or xs (i + 2) 0 ∷ get_or xs (i + 3) 0 ∷ get_or xs (i + 4) 0 ∷ get_or xs (i + 5) 0 ∷ get_or xs (i + 6) 0 ∷ get_or xs (i + 7) 0 ∷ [])
    → r ≡ wide (take 8 (drop i xs))
word-is xs i o h e = e ∙ ap val_of (eight xs i h) ∙ sym (wide_is (take 8 (drop i xs)) (octets-take 8 (drop i xs) (octets-drop i xs (λ j. (o j).fits))))

word_lt : (x : ℕ) → x < 2 ^ 64 → steps 64 x < 2 ^ 32
word_lt x h = steps-lt 64 x (big h)
  where
    big : x < 2 ^ 64 → x < 2 ^ 96
    big p = omega arith

-- the loop of 64 bit steps, from its invariant
module _ (x y k : ℕ) (inv : steps (64 - k) y ≡ steps 64 x) where
  pub bits-next : k < 64 → steps (64 - (k + 1)) (bit_xor (y / 2) (bit_and y 1 * 0xEDB88320)) ≡ steps 64 x
  unfolding steps bit_step
  bits-next h =
      let e : 64 - k ≡ suc (64 - (k + 1)) = omega arith in
      rw (and_mask y 1) (rw e at inv)

  pub bits-end : 64 ≤ k → y ≡ steps 64 x
  unfolding steps
  bits-end h =
      let e : 64 - k ≡ 0 = omega arith in
      rw e at inv

  pub bits_fit : 64 ≤ k → Fits w64 x → Fits w32 y
  bits_fit h f = record { fits = rw (bits-end h) (word_lt x f.fits) }

pub ruleset bits = (bits-next, bits-end, bits_fit)

-- the same laws at a place of a list
pub last-at : (xs : List ℕ) (i p q r s t : ℕ) → i + 8 ≤ length xs → serial_with (drop i xs) (pending p q r s t) ≡ serial_with (drop (i + 8) xs) (pending (bit_xor (steps 64 (bit_xor (wide (take 8 (drop i xs))) p)) q) r s t 0)
last-at xs i p q r s t h =
    let n : 8 ≤ length (drop i xs) = rw (length-drop i xs) (omega arith) in
    last_word (drop i xs) p q r s t n ∙ ap (λ (l : List ℕ). serial_with l (pending (bit_xor (steps 64 (bit_xor (wide (take 8 (drop i xs))) p)) q) r s t 0)) (drop-drop 8 i xs)

pub turn_at : (xs : List ℕ) (i p q r s t a : ℕ) → i + 48 ≤ length xs → a ≡ bit_xor (wide (take 8 (drop i xs))) p → a < 2 ^ 64 →
    serial_with (drop (i + 8) xs) (pending q (bit_xor (bit_xor r (a * 2 ^ 17 % 2 ^ 64)) (a * 2 ^ 55 % 2 ^ 64)) (bit_xor (bit_xor (bit_xor s (a / 2 ^ 47)) (a / 2 ^ 9)) (a * 2 ^ 19 % 2 ^ 64)) (bit_xor (bit_xor t (a / 2 ^ 45)) (a * 2 ^ 44 % 2 ^ 64)) (a / 2 ^ 20))
    ≡ serial_with (drop i xs) (pending p q r s t)
turn_at xs i p q r s t a h e k =
    let n : 48 ≤ length (drop i xs) = rw (length-drop i xs) (omega arith) in
    rw e (rw (← drop-drop 8 i xs) (sym (turn (drop i xs) p q r s t n (rw e at k))))

-- the word at i goes out with x added, and y is added to what is left
abbrev pub next_of : List ℕ → ℕ → ℕ → ℕ → ℕ
next_of xs i x y = bit_xor (steps 64 (bit_xor (wide (take 8 (drop i xs))) x)) y

pub next-at : (xs : List ℕ) (i j p q r s t a : ℕ) → i + 8 ≡ j → j ≤ length xs → a ≡ next_of xs i p q → serial_with (drop i xs) (pending p q r s t) ≡ serial_with (drop j xs) (pending a r s t 0)
next-at xs i j p q r s t a e h f = last-at xs i p q r s t (omega arith) ∙ ap₂ (λ (k x : ℕ). serial_with (drop k xs) (pending x r s t 0)) e (sym f)

tail-is : (xs : List ℕ) (i n₁ n₂ n₃ n₄ n₅ a b c d e : ℕ) → i + 40 ≤ length xs → a ≡ next_of xs i n₁ n₂ → b ≡ next_of xs (i + 8) a n₃ → c ≡ next_of xs (i + 16) b n₄ → d ≡ next_of xs (i + 24) c n₅
    → e ≡ steps 64 (bit_xor (wide (take 8 (drop (i + 32) xs))) d) → serial_from e (drop (i + 40) xs) ≡ serial_with (drop i xs) (pending n₁ n₂ n₃ n₄ n₅)
tail-is xs i n₁ n₂ n₃ n₄ n₅ a b c d e h ea eb ec ed ee =
    with-is e (drop (i + 40) xs) ∙ ap (serial_with (drop (i + 40) xs)) (sym (pending-one e))
    ∙ sym
    (next-at xs i (i + 8) n₁ n₂ n₃ n₄ n₅ a refl (omega arith) ea
    ∙ next-at xs (i + 8) (i + 16) a n₃ n₄ n₅ 0 b (omega arith) (omega arith) eb
    ∙ next-at xs (i + 16) (i + 24) b n₄ n₅ 0 0 c (omega arith) (omega arith) ec
    ∙ next-at xs (i + 24) (i + 32) c n₅ 0 0 0 d (omega arith) (omega arith) ed
    ∙ next-at xs (i + 32) (i + 40) d 0 0 0 0 e (omega arith) h (ee ∙ sym (xor_zero_r _)))

-- ---- the code's own terms, for search

pub fold_start : (c : ℕ) (xs : List ℕ) → serial_with xs (pending c 0 0 0 0) ≡ serial_from c xs
fold_start c xs = ap (serial_with xs) (pending-one c) ∙ sym (with-is c xs)

pub fold_step : (x e w a : ℕ) (xs : List ℕ) (i p q r s t : ℕ) → serial_with (drop i xs) (pending p q r s t) ≡ x → e + 47 ≡ length xs → i < e → w ≡ wide (take 8 (drop i xs)) → a ≡ bit_xor w p → Fits w64 a →
    serial_with (drop (i + 8) xs) (pending q (bit_xor (bit_xor r (a * 2 ^ 17 % 2 ^ 64)) (a * 2 ^ 55 % 2 ^ 64)) (bit_xor (bit_xor (bit_xor s (a / 2 ^ 47)) (a / 2 ^ 9)) (a * 2 ^ 19 % 2 ^ 64)) (bit_xor (bit_xor t (a / 2 ^ 45)) (a * 2 ^ 44 % 2 ^ 64)) (a / 2 ^ 20))
    ≡ x
fold_step x e w a xs i p q r s t g h k f m o = turn_at xs i p q r s t a (omega arith) (m ∙ ap (λ (z : ℕ). bit_xor z p) f) o.fits ∙ g

pub fold_end : {r : ℕ} (xs : List ℕ) (i n₁ n₂ n₃ n₄ n₅ a b c d w m e : ℕ) → i + 40 ≤ length xs → a ≡ next_of xs i n₁ n₂ → b ≡ next_of xs (i + 8) a n₃ → c ≡ next_of xs (i + 16) b n₄
    → d ≡ next_of xs (i + 24) c n₅ → w ≡ wide (take 8 (drop (i + 32) xs)) → m ≡ bit_xor w d → e ≡ steps 64 m → r ≡ serial_from e (take (length xs - (i + 40)) (drop (i + 40) xs))
    → r ≡ serial_with (drop i xs) (pending n₁ n₂ n₃ n₄ n₅)
fold_end xs i n₁ n₂ n₃ n₄ n₅ a b c d w m e h ea eb ec ed ew em ee er =
    er ∙ ap (serial_from e) (rest_of xs (i + 40)) ∙ tail-is xs i n₁ n₂ n₃ n₄ n₅ a b c d e h ea eb ec ed (rw (em, ew) at ee)

pub ruleset folds = (fold_start, fold_step, fold_end)

-- ---- the same of what is left, whose front is taken off word by word

le-eight : (a b c d e f g h : ℕ) → from_le_bytes w64 (a ∷ b ∷ c ∷ d ∷ e ∷ f ∷ g ∷ h ∷ []) ≡ val_of (a ∷ b ∷ c ∷ d ∷ e ∷ f ∷ g ∷ h ∷ [])
le-eight a b c d e f g h = omega arith

pub front_is : {r : ℕ} (xs : List ℕ) → ((j : ℕ) → Fits w8 (get_or xs j 0)) → 8 ≤ length xs
    → r ≡ from_le_bytes w64 (get_or xs 0 0 ∷ get_or xs 1 0 ∷ get_or xs 2 0 ∷ get_or xs 3 0 ∷ get_or xs 4 0 ∷ get_or xs 5 0 ∷ get_or xs 6 0 ∷ get_or xs 7 0 ∷ [])
    → r ≡ wide (take 8 xs)
front_is xs o h e = e ∙ le-eight _ _ _ _ _ _ _ _ ∙ ap val_of (sym (take-octets 8 xs 0 h)) ∙ sym (wide_is (take 8 xs) (octets-take 8 xs (λ j. (o j).fits)))

pub rest_step : (x w a : ℕ) (xs : List ℕ) (p q r s t : ℕ) → serial_with xs (pending p q r s t) ≡ x → 48 ≤ length xs → w ≡ wide (take 8 xs) → a ≡ bit_xor w p → Fits w64 a →
    serial_with (take (length xs - 8) (drop 8 xs)) (pending q (bit_xor (bit_xor r (a * 2 ^ 17 % 2 ^ 64)) (a * 2 ^ 55 % 2 ^ 64)) (bit_xor (bit_xor (bit_xor s (a / 2 ^ 47)) (a / 2 ^ 9)) (a * 2 ^ 19 % 2 ^ 64)) (bit_xor (bit_xor t (a / 2 ^ 45)) (a * 2 ^ 44 % 2 ^ 64)) (a / 2 ^ 20))
    ≡ x
rest_step x w a xs p q r s t g h f m o =
    let k : a ≡ bit_xor (wide (take 8 xs)) p = m ∙ ap (λ (z : ℕ). bit_xor z p) f in
    ap (λ (l : List ℕ). serial_with l (pending q (bit_xor (bit_xor r (a * 2 ^ 17 % 2 ^ 64)) (a * 2 ^ 55 % 2 ^ 64)) (bit_xor (bit_xor (bit_xor s (a / 2 ^ 47)) (a / 2 ^ 9)) (a * 2 ^ 19 % 2 ^ 64)) (bit_xor (bit_xor t (a / 2 ^ 45)) (a * 2 ^ 44 % 2 ^ 64)) (a / 2 ^ 20))) (rest_of xs 8)
    ∙ turn_at xs 0 p q r s t a h k o.fits ∙ g

-- the word at i goes out of what is left from there on
abbrev pub next_in : List ℕ → ℕ → ℕ → ℕ → ℕ
next_in xs i x y = bit_xor (steps 64 (bit_xor (wide (take 8 (take (length xs - i) (drop i xs)))) x)) y

pub rest_end : {r : ℕ} (xs : List ℕ) (n₁ n₂ n₃ n₄ n₅ a b c d w m e : ℕ) → 40 ≤ length xs → a ≡ bit_xor (steps 64 (bit_xor (wide (take 8 xs)) n₁)) n₂ → b ≡ next_in xs 8 a n₃ → c ≡ next_in xs 16 b n₄
    → d ≡ next_in xs 24 c n₅ → w ≡ wide (take 8 (take (length xs - 32) (drop 32 xs))) → m ≡ bit_xor w d → e ≡ steps 64 m → r ≡ serial_from e (take (length xs - 40) (drop 40 xs))
    → r ≡ serial_with xs (pending n₁ n₂ n₃ n₄ n₅)
rest_end xs n₁ n₂ n₃ n₄ n₅ a b c d w m e h ea eb ec ed ew em ee er =
    er ∙ ap (serial_from e) (rest_of xs 40)
    ∙ tail-is xs 0 n₁ n₂ n₃ n₄ n₅ a b c d e h ea (rw (rest_of xs 8) at eb) (rw (rest_of xs 16) at ec) (rw (rest_of xs 24) at ed)
    (ee ∙ ap (steps 64) (em ∙ ap (λ (z : ℕ). bit_xor z d) (ew ∙ ap (λ (l : List ℕ). wide (take 8 l)) (rest_of xs 32))))
