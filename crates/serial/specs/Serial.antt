-- The serial (2.9.1, and document 01 where that section is silent): bit by bit, with the reflected generator of ISO/IEC 8802-3. Assumes nothing.
use Rattle.std.specs.Prelude.{◌≡◌, refl, List, [], ◌∷◌, ◌++◌, ℕ, suc, ◌+◌, ◌*◌, ◌/◌, ◌%◌, ◌^◌, ◌<◌, ◌≤◌, length, get_or, drop}
use Rattle.std.proofs.Common.{◌∙◌, add-one, arith, drop_of_length-le, drop-cons}
use Rattle.std.specs.Int.Bits.{bit_xor}
use Rattle.std.specs.List.{fold}
use Rattle.std.proofs.lemmas.Nat.{xor_lt}
use Rattle.octets.specs.Octets.{Octets}

-- the lowest bit goes out, and the generator comes in where that bit was 1
unfoldable pub bit_step : ℕ → ℕ
bit_step c = bit_xor (c / 2) (c % 2 * 0xEDB88320)

-- one octet: eight bits, the lowest first
unfoldable pub octet_step : ℕ → ℕ → ℕ
octet_step c b = bit_step (bit_step (bit_step (bit_step (bit_step (bit_step (bit_step (bit_step (bit_xor c b))))))))

abbrev pub serial_from : ℕ → List ℕ → ℕ
serial_from c [] = c
serial_from c (b ∷ bs) = serial_from (octet_step c b) bs

abbrev pub serial_of : List ℕ → ℕ
serial_of bs = serial_from 0xFFFFFFFF bs

-- over a concatenation the serial goes on
pub serial-append : (c : ℕ) (xs ys : List ℕ) → serial_from c (xs ++ ys) ≡ serial_from (serial_from c xs) ys
serial-append c [] ys = refl
serial-append c (x ∷ xs) ys = serial-append (octet_step c x) xs ys

-- ---- it is below 2 ^ 32

bit-small : (c : ℕ) → c < 2 ^ 32 → bit_step c < 2 ^ 32
unfolding bit_step
bit-small c h = xor_lt 32 (c / 2) (c % 2 * 0xEDB88320) (omega arith) (omega arith)

octet-small : (c b : ℕ) → c < 2 ^ 32 → b < 256 → octet_step c b < 2 ^ 32
unfolding octet_step
octet-small c b h k =
    let l : b < 2 ^ 32 = omega arith in
    bit-small _ (bit-small _ (bit-small _ (bit-small _ (bit-small _ (bit-small _ (bit-small _ (bit-small (bit_xor c b) (xor_lt 32 c b h l))))))))

from-small : (c : ℕ) (xs : List ℕ) → c < 2 ^ 32 → Octets xs → serial_from c xs < 2 ^ 32
from-small c [] h o = h
from-small c (x ∷ xs) h o = from-small (octet_step c x) xs (octet-small c x h (o 0)) (λ i. o (suc i))

pub serial-small : (xs : List ℕ) → Octets xs → serial_of xs < 2 ^ 32
serial-small xs o = from-small 0xFFFFFFFF xs (omega arith) o

-- ---- a loop over the octets: a turn, and its end

module _ (x c : ℕ) (s : List ℕ) (i : ℕ) (inv : serial_from c (drop i s) ≡ x) where
  pub serial-step : (d : ℕ) → i < length s → d ≡ octet_step c (get_or s i 0) → serial_from d (drop (i + 1) s) ≡ x
  serial-step d h f = rw (f, add-one) (rw (drop-cons s i 0 h) at inv)

  pub serial-end : length s ≤ i → c ≡ x
  serial-end h = rw (drop_of_length-le s {i = i} h) at inv

pub ruleset serials = (serial-step, serial-end)

-- the same as one fold
pub serial_fold : {r : ℕ} (c : ℕ) (s : List ℕ) → r ≡ fold octet_step c s → r ≡ serial_from c s
serial_fold c s e = e ∙ go c s
  where
    go : (d : ℕ) (t : List ℕ) → fold octet_step d t ≡ serial_from d t
    go d [] = refl
    go d (b ∷ t) = go (octet_step d b) t
