-- Whole numbers (2.9.6.1): how one is written, and how one is read at the front of a list of octets. One definition for every width.
use Rattle.std.specs.Prelude.{ℕ, zero, suc, ◌+◌, ◌-◌, ◌/◌, ◌^◌, List, [], ◌∷◌, cond, length, drop, ltb, leb, eqb}
use Rattle.octets.specs.Octets.{octet_at}
use Rattle.octets.specs.Word.{le_of, word_of}
use Rattle.std.specs.Prelude.{Option}
pub use Rattle.std.specs.Prelude.{Some, None as Broken}

-- the number and the octets that it takes
abbrev pub Number : Type 0
Number = Option (ℕ × ℕ)

-- the fewest octets, of at most m, that hold n
unfoldable pub fewest : ℕ → ℕ → ℕ
fewest zero n = 0
fewest (suc m) n = cond (eqb n 0) 0 (suc (fewest m (n / 256)))

-- up to 127 one octet; otherwise 128 and the count of octets, and these, the least first
unfoldable pub encode_number : ℕ → List ℕ
encode_number n = cond (ltb n 128) (n ∷ []) ((128 + fewest 4 n) ∷ le_of (fewest 4 n) n)

-- the least number that takes k octets behind the first
unfoldable pub least_of : ℕ → ℕ
least_of k = cond (eqb k 1) 128 (256 ^ (k - 1))

-- a number of k octets behind the first: 1 to 4 of them, all there, and none to spare
unfoldable pub long_number : ℕ → List ℕ → Number
long_number k xs =
    cond (ltb k 1) Broken
    (cond (ltb 4 k) Broken
    (cond (leb (length xs) k) Broken
    (cond (ltb (word_of k (drop 1 xs)) (least_of k)) Broken
    (Some (word_of k (drop 1 xs), 1 + k)))))

unfoldable pub number_of : List ℕ → Number
number_of xs =
    cond (ltb (length xs) 1) Broken
    (cond (ltb (octet_at xs 0) 128) (Some (octet_at xs 0, 1))
    (long_number (octet_at xs 0 - 128) xs))
