-- Little-endian words of any number of octets (document 01: all fixed-width numbers are little-endian). One law each, for any width. Assumes nothing.
use Rattle.std.specs.Prelude.{◌≡◌, cond, List, [], ◌∷◌, ◌++◌, ltb, length, take, drop, get_or, set}
use Rattle.std.proofs.Math.Path.{refl}
use Rattle.std.proofs.Common.{sym, ap, ◌∙◌, add_comm, le_refl, lt_of_lt_of_le, pow-suc, div-lt_iff_lt-mul, zero-lt-suc, arith, add-one, length-append, length-take, take-append-drop, drop-cons, take_all, take_at, length-take-le, lt-ltb, le-ltb, Fits}
use Prim.Native.Nat.{ℕ, zero, suc, ◌+◌, ◌-◌, ◌*◌, ◌/◌, ◌%◌, ◌^◌, ◌<◌, ◌≤◌}
use Rattle.std.proofs.Math.Nat.{sub-zero, pow-le-pow_right, one-le-pow}
use Rattle.std.proofs.Math.Arith.{lt-one}
use Rattle.std.proofs.Math.ListN.{length-drop, drop_of_length-le}
use Rattle.std.specs.List.{fold}
use Rattle.std.specs.Prelude.{reverse}
use Rattle.std.proofs.lemmas.List.{take_more, take_more_set, reverse-append}
use Rattle.std.proofs.lemmas.List.Sums.{fold_push}
use Rattle.std.specs.Int.{w8, w64}
use Rattle.octets.specs.Octets.{Octets, octets-take, octet_at, octets-from}
use Rattle.octets.specs.Splice.{splice, stored, splice-none, copy_step, copy-end, stored-in, stored-out}

-- x in n octets, the lowest first
abbrev pub le_of : ℕ → ℕ → List ℕ
le_of zero x = []
le_of (suc n) x = x % 256 ∷ le_of n (x / 256)

-- the number that some octets say, the lowest first
abbrev pub val_of : List ℕ → ℕ
val_of [] = 0
val_of (b ∷ bs) = b + val_of bs * 256

-- the number in the first n octets
unfoldable pub word_of : ℕ → List ℕ → ℕ
word_of n xs = val_of (take n xs)

-- the same of at most eight octets
unfoldable pub narrow_word : ℕ → List ℕ → ℕ
narrow_word n xs = cond (ltb 8 n) 0 (word_of n xs)

-- ---- a number and its octets

pub length-le_of : (n x : ℕ) → length (le_of n x) ≡ n
length-le_of zero x = refl
length-le_of (suc n) x = ap suc (length-le_of n (x / 256))

pub octets-le_of : (n x : ℕ) → Octets (le_of n x)
octets-le_of zero x i = omega arith
octets-le_of (suc n) x zero = omega arith
octets-le_of (suc n) x (suc i) = octets-le_of n (x / 256) i

pub val-le : (n x : ℕ) → x < 256 ^ n → val_of (le_of n x) ≡ x
val-le zero x h = sym (lt-one h)
val-le (suc n) x h =
    let k : x / 256 < 256 ^ n = (div-lt_iff_lt-mul (zero-lt-suc 255)).1 (rw pow-suc at h) in
    rw (val-le n (x / 256) k) (omega arith)

pub le_val : (bs : List ℕ) → Octets bs → le_of (length bs) (val_of bs) ≡ bs
le_val [] h = refl
le_val (b ∷ bs) h =
    let p : b < 256 = h 0 in
    let m : (b + val_of bs * 256) % 256 ≡ b = omega arith in
    let d : (b + val_of bs * 256) / 256 ≡ val_of bs = omega arith in
    rw (m, d, le_val bs (λ j. h (suc j)))

pub val-small : (bs : List ℕ) → Octets bs → val_of bs < 256 ^ length bs
val-small [] h = omega arith
val-small (b ∷ bs) h =
    let p : b < 256 = h 0 in
    let q : val_of bs < 256 ^ length bs = val-small bs (λ j. h (suc j)) in
    rw pow-suc (omega arith)

-- ---- a word at the front: read back, sound, one

pub word_back : (n x : ℕ) → x < 256 ^ n → (rest : List ℕ) → word_of n (le_of n x ++ rest) ≡ x
unfolding word_of
word_back n x h rest = rw (take_at (le_of n x) rest n (length-le_of n x)) (val-le n x h)

pub word_small : (n : ℕ) (xs : List ℕ) → Octets xs → n ≤ length xs → word_of n xs < 256 ^ n
unfolding word_of
word_small n xs o h = rw (length-take-le n xs h) at (val-small (take n xs) (octets-take n xs o))

pub word_sound : (n : ℕ) (xs : List ℕ) → Octets xs → n ≤ length xs → xs ≡ le_of n (word_of n xs) ++ drop n xs
unfolding word_of
word_sound n xs o h =
    let l : length (take n xs) ≡ n = length-take-le n xs h in
    let e : le_of n (val_of (take n xs)) ≡ take n xs = rw l at (le_val (take n xs) (octets-take n xs o)) in
    sym (take-append-drop n xs) ∙ ap (λ (l : List ℕ). l ++ drop n xs) (sym e)

pub drop-word : (n x : ℕ) (rest : List ℕ) → drop n (le_of n x ++ rest) ≡ rest
drop-word zero x rest = refl
drop-word (suc n) x rest = drop-word n (x / 256) rest

pub length-word : (n x : ℕ) (rest : List ℕ) → length (le_of n x ++ rest) ≡ n + length rest
length-word n x rest = length-append (le_of n x) rest ∙ ap (λ (k : ℕ). k + length rest) (length-le_of n x)

pub word-one : (n x y : ℕ) (r s : List ℕ) → x < 256 ^ n → y < 256 ^ n → le_of n x ++ r ≡ le_of n y ++ s → (x ≡ y) × (r ≡ s)
word-one n x y r s h i e = (sym (word_back n x h r) ∙ ap (word_of n) e ∙ word_back n y i s, sym (drop-word n x r) ∙ ap (drop n) e ∙ drop-word n y s)

-- ---- octet by octet, for the loops

word_none : (xs : List ℕ) → word_of 0 xs ≡ 0
unfolding word_of
word_none xs = refl

-- one octet more, below the others
word_more : (m : ℕ) (xs : List ℕ) (i : ℕ) → i < length xs → word_of (suc m) (drop i xs) ≡ octet_at xs i + word_of m (drop (suc i) xs) * 256
unfolding word_of
word_more m xs i h = rw (drop-cons xs i 0 h)

-- a turn of a loop from the back: k, of n octets, are still to come
word-turn : (n k : ℕ) (xs : List ℕ) (i : ℕ) → 0 < k → k ≤ n → i + k ≤ length xs
    → word_of (n - k) (drop (i + k) xs) * 256 + octet_at xs (i + (k - 1)) ≡ word_of (n - (k - 1)) (drop (i + (k - 1)) xs)
word-turn n k xs i h l p =
    let e : n - (k - 1) ≡ suc (n - k) = omega arith in
    let f : i + k ≡ suc (i + (k - 1)) = omega arith in
    rw (e, f, word_more (n - k) xs (i + (k - 1)) (omega arith)) (add_comm _ (octet_at xs (i + (k - 1))))

-- what fewer octets hold, more do
pub word-most : (m n r : ℕ) → m ≤ n → r < 256 ^ m → r < 256 ^ n
word-most m n r l h = lt_of_lt_of_le h (pow-le-pow_right {n = 256} (zero-lt-suc 255) {i = m} {j = n} l)

-- however few octets there are
pub word-any : (n : ℕ) (xs : List ℕ) → Octets xs → word_of n xs < 256 ^ n
unfolding word_of
word-any n xs o =
    word-most (length (take n xs)) n (val_of (take n xs)) (rw length-take (omega arith))
    (val-small (take n xs) (octets-take n xs o))

-- while an octet is still to come there is room for it
word_room : (n k r : ℕ) → 0 < k → n ≤ 8 → r < 256 ^ (n - k) → r < 256 ^ 7
word_room n k r h l p = word-most (n - k) 7 r (omega arith) p

-- octets past the end say nothing
pub word-past : (n : ℕ) (xs : List ℕ) → length xs ≤ n → word_of n xs ≡ word_of (length xs) xs
unfolding word_of
word-past n xs h = rw (take_all n xs h, take_all (length xs) xs (le_refl (length xs)))

le-turn : (n v x j : ℕ) → j < n → le_of (n - j) x ≡ drop j (le_of n v) → (x % 256 ≡ octet_at (le_of n v) j) × (le_of (n - (j + 1)) (x / 256) ≡ drop (j + 1) (le_of n v))
le-turn n v x j h e =
    let m : n - j ≡ suc (n - (j + 1)) = omega arith in
    let l : length (le_of n v) ≡ n = length-le_of n v in
    let f : (x % 256 ∷ le_of (n - (j + 1)) (x / 256)) ≡ (octet_at (le_of n v) j ∷ drop (suc j) (le_of n v)) = rw m at e ∙ drop-cons (le_of n v) j 0 (omega arith) in
    (cc, cc (add-one j))

-- ---- the code's own terms, for search

pub get-start : (n : ℕ) (xs : List ℕ) → 0 ≡ word_of (n - n) xs
get-start n xs =
    let e : n - n ≡ 0 = omega arith in
    rw e (sym (word_none xs))

pub get-low : (n : ℕ) → 0 < 256 ^ (n - n)
get-low n =
    let e : n - n ≡ 0 = omega arith in
    rw e (omega arith)

module _ (n k r w : ℕ) (xs : List ℕ) (i : ℕ) (inv : r ≡ word_of (n - k) (drop (i + k) xs)) (low : r < 256 ^ (n - k)) (o : (j : ℕ) → Fits w8 (get_or xs j 0))
    (h : 0 < k) (l : k ≤ n) (m : n ≤ 8) (q : i + n ≤ length xs) (f : w ≡ get_or xs (i + (k - 1)) 0) where
  pub get-fits : Fits w64 (r * 2 ^ 8 % 2 ^ 64 + w)
  get-fits =
      let p : r < 256 ^ 7 = word_room n k r h m low in
      record { fits = omega (arith, o (i + (k - 1))) }

  pub get-step : r * 2 ^ 8 % 2 ^ 64 + w ≡ word_of (n - (k - 1)) (drop (i + (k - 1)) xs)
  get-step =
      let p : r < 256 ^ 7 = word_room n k r h m low in
      let s : r * 2 ^ 8 % 2 ^ 64 ≡ r * 256 = omega arith in
      rw (s, inv, f) (word-turn n k xs i h l (omega arith))

  pub get-below : r * 2 ^ 8 % 2 ^ 64 + w < 256 ^ (n - (k - 1))
  get-below =
      let p : r < 256 ^ 7 = word_room n k r h m low in
      let e : n - (k - 1) ≡ suc (n - k) = omega arith in
      rw (e, pow-suc 256 (n - k)) (omega (arith, o (i + (k - 1))))

module _ (n k r : ℕ) (xs : List ℕ) (i : ℕ) where
  pub get-end : r ≡ word_of (n - k) (drop (i + k) xs) → k ≤ 0 → r ≡ word_of n (drop i xs)
  get-end e h =
      let z : k ≡ 0 = omega arith in
      let p : n - 0 ≡ n = omega arith in
      let q : i + 0 ≡ i = omega arith in
      e ∙ rw (z, p, q)

pub get-last : (n k r : ℕ) → r < 256 ^ (n - k) → k ≤ 0 → r < 256 ^ n
get-last n k r e h =
    let z : n - k ≡ n = omega arith in
    rw z at e

pub ruleset gets = (get-start, get-low, get-fits, get-step, get-below, get-end, get-last)

pub word_wide : (n : ℕ) (xs : List ℕ) → 8 < n → 0 ≡ narrow_word n xs
unfolding narrow_word
word_wide n xs h = rw (lt-ltb 8 n h)

pub word-zero : (n : ℕ) → 0 < 256 ^ n
word-zero n = one-le-pow n 256 (zero-lt-suc 255)

module _ (xs : List ℕ) (i n : ℕ) (h : n ≤ 8) where
  pub word-far : length xs ≤ i → 0 ≡ narrow_word n (drop i xs)
  unfolding narrow_word word_of
  word-far l = rw (le-ltb 8 n h, drop_of_length-le xs {i = i} l) (none n)
    where
      none : (m : ℕ) → 0 ≡ val_of (take m [])
      none zero = refl
      none (suc m) = refl

  pub word_cut : (r : ℕ) → r ≡ word_of (length xs - i) (drop i xs) → length xs - i < n → r ≡ narrow_word n (drop i xs)
  unfolding narrow_word
  word_cut r e l = rw (le-ltb 8 n h, word-past n (drop i xs) (rw length-drop (omega arith)), length-drop) e

  pub word-there : (r : ℕ) → r ≡ word_of n (drop i xs) → r ≡ narrow_word n (drop i xs)
  unfolding narrow_word
  word-there r e = rw (le-ltb 8 n h) e

pub word-less : (r m n : ℕ) → r < 256 ^ m → m < n → r < 256 ^ n
word-less r m n h l = word-most m n r (omega arith) h

pub word-four : (r : ℕ) (xs : List ℕ) → r ≡ narrow_word 4 xs → r ≡ word_of 4 xs
unfolding narrow_word
word-four r xs e = e

pub ruleset words = (word_wide, word-zero, word-far, word_cut, word-there, word-less, word-four)

pub put-start : (n v : ℕ) → le_of (n - 0) v ≡ le_of n v
put-start n v = ap (λ (m : ℕ). le_of m v) (sub-zero n)

module _ (n v x j : ℕ) (f : le_of (n - j) x ≡ drop j (le_of n v)) (h : j < n) where
  pub put_step : (b d : List ℕ) (i : ℕ) → b ≡ splice d i (take j (le_of n v)) → i + n ≤ length d → set b (i + j) (x % 256) ≡ splice d i (take (j + 1) (le_of n v))
  put_step b d i e k =
      let l : length (le_of n v) ≡ n = length-le_of n v in
      rw (le-turn n v x j h f).0 (copy_step b d i (le_of n v) j e (omega arith) (omega arith))

  pub put-left : le_of (n - (j + 1)) (x / 256) ≡ drop (j + 1) (le_of n v)
  put-left = (le-turn n v x j h f).1

pub put-end : (b d : List ℕ) (i n v j : ℕ) → b ≡ splice d i (take j (le_of n v)) → n ≤ j → b ≡ splice d i (le_of n v)
put-end b d i n v j e h =
    let l : length (le_of n v) ≡ n = length-le_of n v in
    copy-end b d i (le_of n v) j e (omega arith)

pub put-not : (d : List ℕ) (i n v : ℕ) → length d < n → d ≡ stored d i (le_of n v)
put-not d i n v h =
    let l : length (le_of n v) ≡ n = length-le_of n v in
    sym (stored-out d i (le_of n v) (omega arith))

pub put-not-there : (d : List ℕ) (i n v : ℕ) → length d - n < i → d ≡ stored d i (le_of n v)
put-not-there d i n v h =
    let l : length (le_of n v) ≡ n = length-le_of n v in
    sym (stored-out d i (le_of n v) (omega arith))

pub put_in : (x d : List ℕ) (i n v : ℕ) → x ≡ splice d i (le_of n v) → n ≤ length d → i ≤ length d - n → x ≡ stored d i (le_of n v)
put_in x d i n v q h k =
    let l : length (le_of n v) ≡ n = length-le_of n v in
    q ∙ sym (stored-in d i (le_of n v) (omega arith))

pub ruleset puts = (splice-none, put-start, put_step, put-left, put-end, put-not, put-not-there, put_in)

-- ---- a whole part as a word, taken in from its last octet, and a whole part written

abbrev pub taken_in : ℕ → ℕ → ℕ
taken_in r b = r * 2 ^ 8 % 2 ^ 64 + b

all-taken : (bs : List ℕ) → length bs ≤ 8 → Octets bs → fold taken_in 0 (reverse bs) ≡ val_of bs
all-taken [] h o = refl
all-taken (b ∷ bs) h o =
    let q : Octets bs = λ j. o (suc j) in
    let p : val_of bs < 256 ^ 7 = word-most (length bs) 7 (val_of bs) (omega arith) (val-small bs q) in
    ap (fold taken_in 0) (reverse-append (b ∷ []) bs) ∙ fold_push taken_in 0 (reverse bs) b ∙ rw (all-taken bs (omega arith) q) (omega arith)

pub get_all : (r : ℕ) (bs : List ℕ) → r ≡ fold taken_in 0 (reverse bs) → length bs ≤ 8 → ((i : ℕ) → Fits w8 (get_or bs i 0))
    → (r ≡ val_of bs) × (r < 256 ^ length bs)
get_all r bs e h f =
    let o : Octets bs = octets-from bs f in
    let q : r ≡ val_of bs = e ∙ all-taken bs h o in
    (q, rw q (val-small bs o))

module _ (r n : ℕ) (xs : List ℕ) (i : ℕ) (h : n ≤ 8) where
  pub word_in : n ≤ length xs - i → r ≡ val_of (take (i + n - i) (drop i xs)) → r < 256 ^ length (take (i + n - i) (drop i xs))
      → (r ≡ narrow_word n (drop i xs)) × (r < 256 ^ n)
  unfolding word_of
  word_in l e m =
      let k : i + n - i ≡ n = omega arith in
      let q : length (take n (drop i xs)) ≡ n = length-take-le n (drop i xs) (simp length-drop (omega arith)) in
      (word-there xs i n h r (rw k at e), rw (k, q) at m)

  pub word_rest : length xs - i < n → r ≡ val_of (take (length xs - i) (drop i xs)) → r < 256 ^ length (take (length xs - i) (drop i xs))
      → (r ≡ narrow_word n (drop i xs)) × (r < 256 ^ n)
  unfolding word_of
  word_rest l e m = (word_cut xs i n h r e l, word-most (length (take (length xs - i) (drop i xs))) n r (rw length-take (omega arith)) m)

module _ (n v x j : ℕ) (f : le_of (n - j) x ≡ drop j (le_of n v)) (h : j < n) where
  pub put_on : (d : List ℕ) → take j d ≡ take j (le_of n v) → length d ≡ n → take (j + 1) (set d j (x % 256)) ≡ take (j + 1) (le_of n v)
  put_on d e k =
      let l : length (le_of n v) ≡ n = length-le_of n v in
      rw (take_more_set d j (x % 256) (omega arith), take_more (le_of n v) j 0 (omega arith), (le-turn n v x j h f).0, e)

pub put_all : (d : List ℕ) (n v j : ℕ) → take j d ≡ take j (le_of n v) → n ≤ j → length d ≡ n → d ≡ le_of n v
put_all d n v j e h k =
    let l : length (le_of n v) ≡ n = length-le_of n v in
    rw (take_all j d (omega arith), take_all j (le_of n v) (omega arith)) at e
