-- Count and serial filled in: a book that is laid down behind an open header becomes the sealed book.
use Rattle.std.specs.Prelude.{ℕ, ◌+◌, ◌-◌, ◌≤◌, ◌<◌, ◌≡◌, refl, cond, List, ◌++◌, ltb, length, take, drop}
use Rattle.std.proofs.Common.{arith, sym, ap, ◌∙◌, take_at}
use borrow.Author.Tests.{lt-ltb, le-ltb}
use Rattle.octets.specs.Splice.{stored}
use Rattle.octets.specs.Stores.{stored-over, front-stored}
use Rattle.octets.specs.Word.{le_of}
use Rattle.serial.specs.Serial.{serial_of}
use Rattle.book.specs.Book.{sealed, sealed-length}

-- the header while its serial and its count are open, in front of what follows
abbrev pub open_header : List ℕ → List ℕ
open_header ys = le_of 4 32 ++ (le_of 4 0 ++ (le_of 4 0 ++ ys))

-- the count, then the serial, of a book that is laid down up to `end`
unfoldable pub sealed_to : List ℕ → ℕ → ℕ → List ℕ
sealed_to d end count = stored (stored d 8 (le_of 4 count)) 4 (le_of 4 (serial_of (take (end - 12) (drop 12 d))))

-- the same where such a book stands in d, else d itself
unfoldable pub sealed_in : List ℕ → ℕ → ℕ → List ℕ
sealed_in d end count = cond (ltb end 12) d (cond (ltb (length d) end) d (sealed_to d end count))

pub sealed-in : (d : List ℕ) (end count : ℕ) → 12 ≤ end → end ≤ length d → sealed_in d end count ≡ sealed_to d end count
unfolding sealed_in
sealed-in d end count h k = rw (le-ltb end 12 h, le-ltb (length d) end k)

-- ---- the ways of the code that fills them in

module _ (d : List ℕ) (end count : ℕ) where
  pub seal-low : end < 12 → d ≡ sealed_in d end count
  unfolding sealed_in
  seal-low h = rw (lt-ltb end 12 h)

  module _ (h : 12 ≤ end) where
    pub seal-past : length d < end → d ≡ sealed_in d end count
    unfolding sealed_in
    seal-past k = rw (le-ltb end 12 h, lt-ltb (length d) end k)

    pub seal-is : (s : ℕ) (m x : List ℕ) → end ≤ length d → s ≡ serial_of (take (end - 12) (drop 12 d))
        → m ≡ stored d 8 (le_of 4 count) → x ≡ stored m 4 (le_of 4 s) → x ≡ sealed_in d end count
    unfolding sealed_to
    seal-is s m x k p q r = r ∙ rw (q, p, sealed-in d end count h k)

pub ruleset seals = (seal-low, seal-past, seal-is)

-- ---- the book that comes out

pub sealed-to : (ys t : List ℕ) (end n : ℕ) → end ≡ 12 + length ys
    → sealed_to (open_header (ys ++ t)) end n ≡ sealed n ys ++ t
unfolding sealed_to sealed
sealed-to ys t end n e =
    let m : end - 12 ≡ length ys = omega arith in
    let v : List ℕ = le_of 4 32 in
    let o : List ℕ = le_of 4 0 in
    let c : List ℕ = le_of 4 n ++ (ys ++ t) in
    let k : List ℕ = le_of 4 (serial_of ys) in
    let b : take (end - 12) (drop 12 (v ++ (o ++ (o ++ (ys ++ t))))) ≡ ys = rw m (take_at ys t (length ys) refl) in
    let s : stored (v ++ (o ++ (o ++ (ys ++ t)))) 8 (le_of 4 n) ≡ (v ++ o) ++ c =
    stored-over (v ++ o) o (le_of 4 n) (ys ++ t) 8 refl refl in
    let u : stored ((v ++ o) ++ c) 4 k ≡ v ++ (k ++ c) = stored-over v o k c 4 refl refl in
    rw b (ap (λ (x : List ℕ). stored x 4 k) s ∙ u)

pub open-length : (ys : List ℕ) → length (open_header ys) ≡ 12 + length ys
open-length ys = omega arith

-- in front of a buffer
pub seal-front : (ys d : List ℕ) (end n : ℕ) → end ≡ 12 + length ys → end ≤ length d
    → sealed_to (stored d 0 (open_header ys)) end n ≡ stored d 0 (sealed n ys)
seal-front ys d end n e h =
    let l : length (open_header ys) ≡ 12 + length ys = open-length ys in
    let m : length (sealed n ys) ≡ 12 + length ys = sealed-length n ys in
    let r : List ℕ = drop (12 + length ys) d in
    let a : stored d 0 (open_header ys) ≡ open_header (ys ++ r) =
    front-stored d (open_header ys) (omega arith) ∙ ap (λ (i : ℕ). open_header ys ++ drop i d) l in
    let b : stored d 0 (sealed n ys) ≡ sealed n ys ++ r = front-stored d (sealed n ys) (omega arith)
    ∙ ap (λ (i : ℕ). sealed n ys ++ drop i d) m in
    ap (λ (x : List ℕ). sealed_to x end n) a ∙ sealed-to ys r end n e ∙ sym b
