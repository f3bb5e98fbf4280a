-- The laws of whole numbers, each for any width: what was written is read back, what is read was written so and stands in the list.
use Rattle.std.specs.Prelude.{ℕ, zero, suc, ◌+◌, ◌-◌, ◌/◌, ◌^◌, ◌≤◌, ◌<◌, ◌≡◌, refl, List, [], ◌∷◌, ◌++◌, Bool, true, false, cond, length, drop, ltb, leb, eqb}
use Rattle.std.proofs.Common.{pow-suc, arith, sym, ap, ap₂, ◌∙◌, length-append, length-drop, drop-drop, lt-ltb, le-ltb, ne_eqb, ltb-true, ltb-false, leb-false}
use Rattle.std.proofs.lemmas.Bool.{lt-leb, eqb-false}
use Rattle.octets.specs.Cases.{split, taken}
use Rattle.octets.specs.Octets.{octet_at, Octets, octets-drop, front}
use Rattle.octets.specs.Word.{le_of, word_of, length-le_of, octets-le_of, length-word, word-zero, word-most, word_back, word_small, word_sound}
use Rattle.whole.specs.Number.{Number, Some, Broken, fewest, encode_number, least_of, long_number, number_of}

-- ---- the fewest octets that hold a number

fewest-zero : (m : ℕ) → fewest m 0 ≡ 0
unfolding fewest
fewest-zero zero = refl
fewest-zero (suc m) = refl

fewest-more : (m n : ℕ) → 1 ≤ n → fewest (suc m) n ≡ suc (fewest m (n / 256))
unfolding fewest
fewest-more m n h = rw (ne_eqb n 0 (omega arith))

pub fewest-most : (m n : ℕ) → fewest m n ≤ m
unfolding fewest
fewest-most zero n = omega arith
fewest-most (suc m) n = go (eqb n 0) (fewest-most m (n / 256))
  where
    go : (t : Bool) → fewest m (n / 256) ≤ m → cond t 0 (suc (fewest m (n / 256))) ≤ suc m
    go true h = omega arith
    go false h = omega arith

-- they hold it
pub fewest-holds : (m n : ℕ) → n < 256 ^ m → n < 256 ^ fewest m n
unfolding fewest
fewest-holds zero n h = h
fewest-holds (suc m) n h =
    split 0 n
    (λ k. let p : n / 256 < 256 ^ m = let q = rw (pow-suc 256 m) at h in omega arith in
    let i = fewest-holds m (n / 256) p in
    rw (fewest-more m n (omega arith), pow-suc 256 (fewest m (n / 256))) (omega arith))
    (λ k. let z : n ≡ 0 = omega arith in rw z (omega arith))

-- and fewer don't
pub fewest-least : (m n k : ℕ) → fewest m n ≡ suc k → 256 ^ k ≤ n
unfolding fewest
fewest-least zero n k e = let z : ◌≡◌ {A = ℕ} 0 (suc k) = e in absurd (omega arith)
fewest-least (suc m) n k e =
    taken (eqb n 0) _ _ _ e (λ t q. let z : ◌≡◌ {A = ℕ} 0 (suc k) = q in absurd (omega arith))
    (λ t q. below k (eqb-false n 0 t) (omega (arith, q)) (λ j f. fewest-least m (n / 256) j f))
  where
    below : (k : ℕ) → (n ≡ 0 → ⊥) → fewest m (n / 256) ≡ k → ((j : ℕ) → fewest m (n / 256) ≡ suc j → 256 ^ j ≤ n / 256) → 256 ^ k ≤ n
    below zero p f ih = omega arith
    below (suc j) p f ih = let i = ih j f in rw (pow-suc 256 j) (omega arith)

-- only one count is both
pub fewest-is : (m n k : ℕ) → n < 256 ^ m → 256 ^ k ≤ n → n < 256 ^ suc k → fewest m n ≡ suc k
fewest-is zero n k h l u = let p = word-zero k in absurd (omega arith)
fewest-is (suc m) n zero h l u =
    let z : n / 256 ≡ 0 = omega arith in
    rw (fewest-more m n l, z) (ap suc (fewest-zero m))
fewest-is (suc m) n (suc k) h l u =
    let a = rw (pow-suc 256 m) at h in
    let b = rw (pow-suc 256 k) at l in
    let c = rw (pow-suc 256 (suc k)) at u in
    let p = word-zero k in
    rw (fewest-more m n (omega arith)) (ap suc (fewest-is m (n / 256) k (omega arith) (omega arith) (omega arith)))

-- ---- what was written is read back

least_more : (k : ℕ) → least_of (suc (suc k)) ≡ 256 ^ suc k
unfolding least_of
least_more k =
    let e : suc (suc k) - 1 ≡ suc k = omega arith in
    rw (ne_eqb (suc (suc k)) 1 (omega arith), e)

least-le : (n k : ℕ) → 128 ≤ n → 256 ^ k ≤ n → least_of (suc k) ≤ n
unfolding least_of
least-le n zero h l = h
least-le n (suc k) h l = rw (least_more k) l

le-least : (n k : ℕ) → least_of (suc k) ≤ n → (128 ≤ n) × (256 ^ k ≤ n)
unfolding least_of
le-least n zero h = (h, omega arith)
le-least n (suc k) h =
    let p = word-zero k in
    let m : 256 ^ suc k ≤ n = rw (least_more k) at h in
    let q = rw (pow-suc 256 k) at m in
    (omega arith, m)

-- a number over 127 is a count and its octets
pub number-long : (n : ℕ) → 128 ≤ n → encode_number n ≡ (128 + fewest 4 n) ∷ le_of (fewest 4 n) n
unfolding encode_number
number-long n h = rw (le-ltb n 128 h)

pub number_short : (n : ℕ) → n < 128 → encode_number n ≡ n ∷ []
unfolding encode_number
number_short n h = rw (lt-ltb n 128 h)

long-is : (k n : ℕ) (xs : List ℕ) → 1 ≤ k → k ≤ 4 → k < length xs → word_of k (drop 1 xs) ≡ n → least_of k ≤ n → long_number k xs ≡ Some (n, 1 + k)
unfolding long_number
long-is k n xs h i j e l = rw (e, le-ltb k 1 h, le-ltb 4 k i, lt-leb (length xs) k j, le-ltb n (least_of k) l)

long-back : (n k : ℕ) (rest : List ℕ) → 128 ≤ n → n < 2 ^ 32 → fewest 4 n ≡ k → 1 ≤ k → number_of ((128 + k) ∷ (le_of k n ++ rest)) ≡ Some (n, 1 + k)
unfolding number_of
long-back n k rest h l e p =
    let j : ℕ = k - 1 in
    let s : k ≡ suc j = omega arith in
    let most : k ≤ 4 = rw e at (fewest-most 4 n) in
    let holds : n < 256 ^ k = rw e at (fewest-holds 4 n l) in
    let low : least_of k ≤ n = rw s (least-le n j h (fewest-least 4 n j (e ∙ s))) in
    let long : length (le_of k n ++ rest) ≡ k + length rest = length-word k n rest in
    let c : 128 + k - 128 ≡ k = omega arith in
    rw (le-ltb (length ((128 + k) ∷ (le_of k n ++ rest))) 1 (omega arith), le-ltb (128 + k) 128 (omega arith), c)
    (long-is k n ((128 + k) ∷ (le_of k n ++ rest)) p most (omega arith) (word_back k n holds rest) low)

pub number-back : (n : ℕ) → n < 2 ^ 32 → (rest : List ℕ) → number_of (encode_number n ++ rest) ≡ Some (n, length (encode_number n))
unfolding number_of
number-back n h rest =
    split n 128
    (λ l. rw (number_short n l, le-ltb (length (n ∷ rest)) 1 (omega arith), lt-ltb n 128 l))
    (λ l. rw (number-long n l, length-le_of (fewest 4 n) n) (long-back n (fewest 4 n) rest l h refl (some l) ∙ ap (λ w. Some (n, w)) (omega arith)))
  where
    some : 128 ≤ n → 1 ≤ fewest 4 n
    some l = rw (fewest-more 3 n (omega arith)) (omega arith)

-- ---- what is read was written so

record Long (k : ℕ) (xs : List ℕ) (n w : ℕ) : Type 0 where
  few : (1 ≤ k) × (k ≤ 4)
  there : k < length xs
  value : word_of k (drop 1 xs) ≡ n
  low : least_of k ≤ n
  wide : 1 + k ≡ w

pub no_number : {X : Type 0} {n w : ℕ} → ◌≡◌ {A = Number} Broken (Some (n, w)) → X
no_number e = let z : ◌≡◌ {A = ℕ} 0 1 = cc in absurd (omega arith)

-- a number that is read is one number, of one width
pub same-number : {n w m v : ℕ} → ◌≡◌ {A = Number} (Some (n, w)) (Some (m, v)) → (n ≡ m) × (w ≡ v)
same-number {n} {w} e = (ap (value_of n) e, ap (width_of w) e)
  where
    value_of : ℕ → Number → ℕ
    value_of d (Some (n, w)) = n
    value_of d Broken = d

    width_of : ℕ → Number → ℕ
    width_of d (Some (n, w)) = w
    width_of d Broken = d

long-sound : (k : ℕ) (xs : List ℕ) (n w : ℕ) → long_number k xs ≡ Some (n, w) → Long k xs n w
unfolding long_number
long-sound k xs n w e =
    let v : ℕ = word_of k (drop 1 xs) in
    taken (ltb k 1) _ _ _ e (λ t q. no_number q)
    (λ t₁ q. taken (ltb 4 k) _ _ _ q (λ t q. no_number q)
    (λ t₂ q. taken (leb (length xs) k) _ _ _ q (λ t q. no_number q)
    (λ t₃ q. taken (ltb v (least_of k)) _ _ _ q (λ t q. no_number q)
    (λ t₄ q. let (same, wide) = same-number q in record {
      few = (ltb-false k 1 t₁, ltb-false 4 k t₂);
      there = leb-false (length xs) k t₃;
      value = same;
      low = rw same at (ltb-false v (least_of k) t₄);
      wide = wide;
    }))))

-- the two ways to a number
ways : {X : Type 0} (xs : List ℕ) (n w : ℕ) → number_of xs ≡ Some (n, w)
    → (1 ≤ length xs → octet_at xs 0 ≡ n → n < 128 → 1 ≡ w → X)
    → (128 ≤ octet_at xs 0 → Long (octet_at xs 0 - 128) xs n w → X) → X
unfolding number_of
ways xs n w e f g =
    taken (ltb (length xs) 1) _ _ _ e (λ t q. no_number q)
    (λ t₁ q. taken (ltb (octet_at xs 0) 128) _ _ _ q
    (λ t₂ q. let (same, wide) = same-number q in f (ltb-false (length xs) 1 t₁) same (rw same at (ltb-true (octet_at xs 0) 128 t₂)) wide)
    (λ t₂ q. g (ltb-false (octet_at xs 0) 128 t₂) (long-sound (octet_at xs 0 - 128) xs n w q)))

-- it stands in the list
pub number-within : (r : Number) (xs : List ℕ) (n w : ℕ) → r ≡ Some (n, w) → r ≡ number_of xs → w ≤ length xs
number-within r xs n w p z =
    ways xs n w (sym z ∙ p) (λ h e l q. omega arith) (λ h l. omega (arith, l.there, l.wide))

module _ (xs : List ℕ) (o : Octets xs) (n w : ℕ) (e : number_of xs ≡ Some (n, w)) where
  long-small : (k : ℕ) → Long k xs n w → n < 256 ^ k
  long-small k l =
      let t : k ≤ length (drop 1 xs) = rw (length-drop 1 xs) (omega (arith, l.there)) in
      rw l.value at (word_small k (drop 1 xs) (octets-drop 1 xs o) t)

  pub number_small : n < 2 ^ 32
  number_small =
      ways xs n w e (λ h q l z. omega arith)
      (λ h l. word-most (octet_at xs 0 - 128) 4 n l.few.1 (long-small _ l))

  long-reads : (k : ℕ) → octet_at xs 0 ≡ 128 + k → Long k xs n w → xs ≡ encode_number n ++ drop w xs
  long-reads k c l =
      let j : ℕ = k - 1 in
      let s : k ≡ suc j = omega (arith, l.few.0) in
      let low = le-least n j (rw s at l.low) in
      let small : n < 256 ^ suc j = rw s at (long-small k l) in
      let f : fewest 4 n ≡ k = fewest-is 4 n j number_small low.1 small ∙ sym s in
      let t : k ≤ length (drop 1 xs) = rw (length-drop 1 xs) (omega (arith, l.there)) in
      let tail : drop 1 xs ≡ le_of k n ++ drop w xs =
      rw l.value at (word_sound k (drop 1 xs) (octets-drop 1 xs o) t) ∙ ap (λ (l : List ℕ). le_of k n ++ l) (drop-drop k 1 xs ∙ ap (λ (i : ℕ). drop i xs) l.wide) in
      rw (number-long n low.0, f) (front 1 xs (omega (arith, l.there)) ∙ ap₂ (λ (x : ℕ) (l : List ℕ). x ∷ l) c tail)

  pub number-sound : xs ≡ encode_number n ++ drop w xs
  number-sound =
      ways xs n w e
      (λ h q l z. rw (number_short n l, ← z, ← q) (front 1 xs h))
      (λ h l. long-reads (octet_at xs 0 - 128) (omega arith) l)

  pub number-wide : length (encode_number n) ≡ w
  number-wide =
      let l = number-within (number_of xs) xs n w e refl in
      let c = simp (length-append, length-drop) at (ap length number-sound) in
      omega arith

-- a number is written in octets
pub number-octets : (n : ℕ) → n < 2 ^ 32 → Octets (encode_number n)
number-octets n h =
    split n 128
    (λ l. rw (number_short n l) (one n (omega arith)))
    (λ l. let m = fewest-most 4 n in rw (number-long n l) (more (128 + fewest 4 n) (le_of (fewest 4 n) n) (omega arith) (octets-le_of (fewest 4 n) n)))
  where
    one : (x : ℕ) → x < 256 → Octets (x ∷ [])
    one x p zero = p
    one x p (suc i) = omega arith

    more : (x : ℕ) (l : List ℕ) → x < 256 → Octets l → Octets (x ∷ l)
    more x l p q zero = p
    more x l p q (suc i) = q i
