-- How a character is written in UTF-8 (RFC 3629, section 3), and the two laws that tie that to `char_width`.
use Rattle.std.specs.Prelude.{ℕ, ◌+◌, ◌-◌, ◌*◌, ◌/◌, ◌%◌, ◌≤◌, ◌<◌, ◌≡◌, refl, List, [], ◌∷◌, ◌++◌, Bool, true, false, cond, length, drop, eqb, ltb}
use native.Mathlib.Omega.{arith}
use Rattle.std.proofs.Common.{sym}
use borrow.Author.Tests.{lt-ltb, le-ltb, ltb-true, ltb-false, eqb-true, eqb-false}
use Rattle.octets.specs.Cases.{split, taken}
use Rattle.octets.specs.Octets.{octet_at, front, stands}
use Rattle.text.specs.Utf8.{low_of, high_of, width_of, char_width}

-- a Unicode scalar value: no surrogate
pub record Scalar (n : ℕ) : Type 0 where
  pub small : n < 1114112
  pub plain : 55296 ≤ n → n < 57344 → ⊥

unfoldable pub encode_char : ℕ → List ℕ
encode_char n =
    cond (ltb n 128) (n ∷ [])
    (cond (ltb n 2048) ((192 + n / 64) ∷ (128 + n % 64) ∷ [])
    (cond (ltb n 65536) ((224 + n / 4096) ∷ (128 + n / 64 % 64) ∷ (128 + n % 64) ∷ [])
    ((240 + n / 262144) ∷ (128 + n / 4096 % 64) ∷ (128 + n / 64 % 64) ∷ (128 + n % 64) ∷ [])))

-- the bounds on a second octet, as facts
low-le : (a b : ℕ) → 128 ≤ b → (a ≡ 224 → 160 ≤ b) → (a ≡ 240 → 144 ≤ b) → low_of a ≤ b
low-le a b h f g = go (eqb a 224) refl (eqb a 240) refl
  where
    go : (t : Bool) → eqb a 224 ≡ t → (u : Bool) → eqb a 240 ≡ u → cond t 160 (cond u 144 128) ≤ b
    go true p u q = f (eqb-true a 224 p)
    go false p true q = g (eqb-true a 240 q)
    go false p false q = h

le-high : (a b : ℕ) → b ≤ 191 → (a ≡ 237 → b ≤ 159) → (a ≡ 244 → b ≤ 143) → b ≤ high_of a
le-high a b h f g = go (eqb a 237) refl (eqb a 244) refl
  where
    go : (t : Bool) → eqb a 237 ≡ t → (u : Bool) → eqb a 244 ≡ u → b ≤ cond t 159 (cond u 143 191)
    go true p u q = f (eqb-true a 237 p)
    go false p true q = g (eqb-true a 244 q)
    go false p false q = h

-- when a width is what
module _ (a b c d lo hi : ℕ) where
  is₁ : a < 128 → width_of a b c d lo hi ≡ 1
  unfolding width_of
  is₁ h = simp (lt-ltb a 128 h)

  module _ (l : lo ≤ b) (h : b ≤ hi) where
    is₂ : 194 ≤ a → a < 224 → width_of a b c d lo hi ≡ 2
    unfolding width_of
    is₂ p q = simp (le-ltb a 128 (omega arith), le-ltb a 194 p, le-ltb 244 a (omega arith), le-ltb b lo l, le-ltb hi b h, lt-ltb a 224 q)

    is₃ : 224 ≤ a → a < 240 → 128 ≤ c → c ≤ 191 → width_of a b c d lo hi ≡ 3
    unfolding width_of
    is₃ p q r s =
        simp (le-ltb a 128 (omega arith), le-ltb a 194 (omega arith), le-ltb 244 a (omega arith), le-ltb b lo l, le-ltb hi b h, le-ltb a 224 p, le-ltb c 128 r, le-ltb 191 c s, lt-ltb a 240 q)

    is₄ : 240 ≤ a → a ≤ 244 → 128 ≤ c → c ≤ 191 → 128 ≤ d → d ≤ 191 → width_of a b c d lo hi ≡ 4
    unfolding width_of
    is₄ p q r s t u =
        simp (le-ltb a 128 (omega arith), le-ltb a 194 (omega arith), le-ltb 244 a q, le-ltb b lo l, le-ltb hi b h, le-ltb a 224 (omega arith), le-ltb c 128 r, le-ltb 191 c s, le-ltb a 240 p, le-ltb d 128 t, le-ltb 191 d u)

pub char-back : (n : ℕ) → Scalar n → (rest : List ℕ) → char_width (encode_char n ++ rest) 0 ≡ length (encode_char n)
unfolding char_width encode_char
char-back n v rest =
    split n 128
    (λ h. simp (lt-ltb n 128 h) (is₁ n _ _ _ _ _ h))
    (λ h. split n 2048
    (λ i. simp (le-ltb n 128 h, lt-ltb n 2048 i)
    (is₂ (192 + n / 64) (128 + n % 64) _ _ _ _
    (low-le (192 + n / 64) _ (omega arith) (λ e. omega arith) (λ e. omega arith))
    (le-high (192 + n / 64) _ (omega arith) (λ e. omega arith) (λ e. omega arith))
    (omega arith) (omega arith)))
    (λ i. split n 65536
    (λ j. simp (le-ltb n 128 h, le-ltb n 2048 i, lt-ltb n 65536 j)
    (is₃ (224 + n / 4096) (128 + n / 64 % 64) (128 + n % 64) _ _ _
    (low-le (224 + n / 4096) _ (omega arith) (λ e. omega arith) (λ e. omega arith))
    (le-high (224 + n / 4096) _ (omega arith) (λ e. split n 55296 (λ k. omega arith) (λ k. absurd (v.plain k (omega arith)))) (λ e. omega arith))
    (omega arith) (omega arith) (omega arith) (omega arith)))
    (λ j. simp (le-ltb n 128 h, le-ltb n 2048 i, le-ltb n 65536 j)
    (is₄ (240 + n / 262144) (128 + n / 4096 % 64) (128 + n / 64 % 64) (128 + n % 64) _ _
    (low-le (240 + n / 262144) _ (omega arith) (λ e. omega arith) (λ e. omega arith))
    (le-high (240 + n / 262144) _ (omega arith) (λ e. omega arith) (λ e. omega (arith, v.small)))
    (omega arith) (omega (arith, v.small)) (omega arith) (omega arith) (omega arith) (omega arith)))))

-- what the bounds on a second octet say
low-at : (a b : ℕ) → low_of a ≤ b → (128 ≤ b) × (a ≡ 224 → 160 ≤ b) × (a ≡ 240 → 144 ≤ b)
low-at a b h = go (eqb a 224) refl (eqb a 240) refl h
  where
    go : (t : Bool) → eqb a 224 ≡ t → (u : Bool) → eqb a 240 ≡ u → cond t 160 (cond u 144 128) ≤ b
        → (128 ≤ b) × (a ≡ 224 → 160 ≤ b) × (a ≡ 240 → 144 ≤ b)
    go true p u q h = let e : a ≡ 224 = eqb-true a 224 p in (omega arith, (λ i. h), (λ i. omega arith))
    go false p true q h = (omega arith, (λ i. absurd (eqb-false a 224 p i)), (λ i. h))
    go false p false q h = (h, (λ i. absurd (eqb-false a 224 p i)), (λ i. absurd (eqb-false a 240 q i)))

high-at : (a b : ℕ) → b ≤ high_of a → (b ≤ 191) × (a ≡ 237 → b ≤ 159) × (a ≡ 244 → b ≤ 143)
high-at a b h = go (eqb a 237) refl (eqb a 244) refl h
  where
    go : (t : Bool) → eqb a 237 ≡ t → (u : Bool) → eqb a 244 ≡ u → b ≤ cond t 159 (cond u 143 191)
        → (b ≤ 191) × (a ≡ 237 → b ≤ 159) × (a ≡ 244 → b ≤ 143)
    go true p u q h = let e : a ≡ 237 = eqb-true a 237 p in (omega arith, (λ i. h), (λ i. omega arith))
    go false p true q h = (omega arith, (λ i. absurd (eqb-false a 237 p i)), (λ i. h))
    go false p false q h = (h, (λ i. absurd (eqb-false a 237 p i)), (λ i. absurd (eqb-false a 244 q i)))

-- the ways to a width that is not 0
module _ {X : Type 0} (a b c d lo hi k : ℕ)
    (f₁ : k ≡ 1 → a < 128 → X)
    (f₂ : k ≡ 2 → 194 ≤ a → a < 224 → lo ≤ b → b ≤ hi → X)
    (f₃ : k ≡ 3 → 224 ≤ a → a < 240 → lo ≤ b → b ≤ hi → 128 ≤ c → c ≤ 191 → X)
    (f₄ : k ≡ 4 → 240 ≤ a → a ≤ 244 → lo ≤ b → b ≤ hi → 128 ≤ c → c ≤ 191 → 128 ≤ d → d ≤ 191 → X) where
  ways : width_of a b c d lo hi ≡ k → (k ≡ 0 → ⊥) → X
  unfolding width_of
  ways e z =
      taken (ltb a 128) _ _ _ e (λ t q. f₁ (sym q) (ltb-true a 128 t))
      (λ t q. taken (ltb a 194) _ _ _ q (λ t q. absurd (z (sym q)))
      (λ t₁ q. taken (ltb 244 a) _ _ _ q (λ t q. absurd (z (sym q)))
      (λ t₂ q. taken (ltb b lo) _ _ _ q (λ t q. absurd (z (sym q)))
      (λ t₃ q. taken (ltb hi b) _ _ _ q (λ t q. absurd (z (sym q)))
      (λ t₄ q. taken (ltb a 224) _ _ _ q
      (λ t q. f₂ (sym q) (ltb-false a 194 t₁) (ltb-true a 224 t) (ltb-false b lo t₃) (ltb-false hi b t₄))
      (λ t₅ q. taken (ltb c 128) _ _ _ q (λ t q. absurd (z (sym q)))
      (λ t₆ q. taken (ltb 191 c) _ _ _ q (λ t q. absurd (z (sym q)))
      (λ t₇ q. taken (ltb a 240) _ _ _ q
      (λ t q. f₃ (sym q) (ltb-false a 224 t₅) (ltb-true a 240 t) (ltb-false b lo t₃) (ltb-false hi b t₄) (ltb-false c 128 t₆) (ltb-false 191 c t₇))
      (λ t₈ q. taken (ltb d 128) _ _ _ q (λ t q. absurd (z (sym q)))
      (λ t₉ q. taken (ltb 191 d) _ _ _ q (λ t q. absurd (z (sym q)))
      (λ t q. f₄ (sym q) (ltb-false a 240 t₈) (ltb-false 244 a t₂) (ltb-false b lo t₃) (ltb-false hi b t₄) (ltb-false c 128 t₆) (ltb-false 191 c t₇) (ltb-false d 128 t₉) (ltb-false 191 d t))))))))))))

-- the character n is written at the front of s
pub record Char (s : List ℕ) (k : ℕ) : Type 0 where
  pub code : ℕ
  pub some : 1 ≤ code
  pub scalar : Scalar code
  pub reads : s ≡ encode_char code ++ drop k s
  pub wide : length (encode_char code) ≡ k

enc₁ : (a : ℕ) → a < 128 → encode_char a ≡ a ∷ []
unfolding encode_char
enc₁ a h = simp (lt-ltb a 128 h)

enc₂ : (a b : ℕ) → 194 ≤ a → a < 224 → 128 ≤ b → b ≤ 191 → encode_char ((a - 192) * 64 + (b - 128)) ≡ a ∷ b ∷ []
unfolding encode_char
enc₂ a b p q l h =
    let n : ℕ = (a - 192) * 64 + (b - 128) in
    let e₁ : 192 + n / 64 ≡ a = omega arith in
    let e₂ : 128 + n % 64 ≡ b = omega arith in
    simp (le-ltb n 128 (omega arith), lt-ltb n 2048 (omega arith), e₁, e₂)

enc₃ : (a b c : ℕ) → 224 ≤ a → a < 240 → 128 ≤ b → b ≤ 191 → (a ≡ 224 → 160 ≤ b) → 128 ≤ c → c ≤ 191
    → encode_char ((a - 224) * 4096 + (b - 128) * 64 + (c - 128)) ≡ a ∷ b ∷ c ∷ []
unfolding encode_char
enc₃ a b c p q l h f m i =
    let n : ℕ = (a - 224) * 4096 + (b - 128) * 64 + (c - 128) in
    let e₁ : 224 + n / 4096 ≡ a = omega arith in
    let g : n / 64 ≡ (b - 128) + (a - 224) * 64 = omega arith in
    let e₂ : 128 + n / 64 % 64 ≡ b = rw g (omega arith) in
    let e₃ : 128 + n % 64 ≡ c = omega arith in
    let big : 2048 ≤ n = split 224 a (λ k. omega arith) (λ k. let z = f (omega arith) in omega arith) in
    simp (le-ltb n 128 (omega arith), le-ltb n 2048 big, lt-ltb n 65536 (omega arith), e₁, e₂, e₃)

enc₄ : (a b c d : ℕ) → 240 ≤ a → a ≤ 244 → 128 ≤ b → b ≤ 191 → (a ≡ 240 → 144 ≤ b) → 128 ≤ c → c ≤ 191 → 128 ≤ d → d ≤ 191
    → encode_char ((a - 240) * 262144 + (b - 128) * 4096 + (c - 128) * 64 + (d - 128)) ≡ a ∷ b ∷ c ∷ d ∷ []
unfolding encode_char
enc₄ a b c d p q l h f m i r s =
    let n : ℕ = (a - 240) * 262144 + (b - 128) * 4096 + (c - 128) * 64 + (d - 128) in
    let e₁ : 240 + n / 262144 ≡ a = omega arith in
    let g : n / 4096 ≡ (b - 128) + (a - 240) * 64 = omega arith in
    let e₂ : 128 + n / 4096 % 64 ≡ b = rw g (omega arith) in
    let g₂ : n / 64 ≡ (c - 128) + ((b - 128) + (a - 240) * 64) * 64 = omega arith in
    let e₃ : 128 + n / 64 % 64 ≡ c = rw g₂ (omega arith) in
    let e₄ : 128 + n % 64 ≡ d = omega arith in
    let big : 65536 ≤ n = split 240 a (λ k. omega arith) (λ k. let z = f (omega arith) in omega arith) in
    simp (le-ltb n 128 (omega arith), le-ltb n 2048 (omega arith), le-ltb n 65536 big, e₁, e₂, e₃, e₄)

-- what has a width is a character, written so
module _ (s : List ℕ) (k : ℕ) (some : 1 ≤ octet_at s 0) where
  pub char-sound : char_width s 0 ≡ k → (k ≡ 0 → ⊥) → Char s k
  unfolding char_width
  char-sound e z =
      let a = octet_at s 0 in
      let b = octet_at s 1 in
      let c = octet_at s 2 in
      let d = octet_at s 3 in
      ways a b c d (low_of a) (high_of a) k
      (λ w h. record {
        code = a;
        some = omega arith;
        scalar = record { small = omega arith; plain = λ i j. omega arith };
        wide = rw (w, enc₁ a h);
        reads = rw (w, enc₁ a h) (front 1 s (stands s 0 some));
      })
      (λ w p q l h. let u = low-at a b l in let v = high-at a b h in record {
        code = (a - 192) * 64 + (b - 128);
        some = omega arith;
        scalar = record { small = omega arith; plain = λ i j. omega arith };
        wide = rw (w, enc₂ a b p q u.0 v.0);
        reads = rw (w, enc₂ a b p q u.0 v.0) (front 2 s (stands s 1 (omega arith)));
      })
      (λ w p q l h m i. let u = low-at a b l in let v = high-at a b h in record {
        code = (a - 224) * 4096 + (b - 128) * 64 + (c - 128);
        some = split 224 a (λ r. omega arith) (λ r. let g = u.1 (omega arith) in omega arith);
        scalar = record {
          small = omega arith;
          plain = λ x y. split a 237 (λ r. omega arith) (λ r. split 237 a (λ t. omega arith) (λ t. let g = v.1 (omega arith) in omega arith));
        };
        wide = rw (w, enc₃ a b c p q u.0 v.0 u.1 m i);
        reads = rw (w, enc₃ a b c p q u.0 v.0 u.1 m i) (front 3 s (stands s 2 (omega arith)));
      })
      (λ w p q l h m i m₁ i₁. let u = low-at a b l in let v = high-at a b h in record {
        code = (a - 240) * 262144 + (b - 128) * 4096 + (c - 128) * 64 + (d - 128);
        some = split 240 a (λ r. omega arith) (λ r. let g = u.2 (omega arith) in omega arith);
        scalar = record {
          small = split a 244 (λ r. omega arith) (λ r. let g = v.2 (omega arith) in omega arith);
          plain = λ x y. split 240 a (λ r. omega arith) (λ r. let g = u.2 (omega arith) in omega arith);
        };
        wide = rw (w, enc₄ a b c d p q u.0 v.0 u.2 m i m₁ i₁);
        reads = rw (w, enc₄ a b c d p q u.0 v.0 u.2 m i m₁ i₁) (front 4 s (stands s 3 (omega arith)));
      })
      e z

-- a character other than 0 begins with an octet other than 0, and has one
pub first_some : (n : ℕ) → 1 ≤ n → (rest : List ℕ) → (1 ≤ octet_at (encode_char n ++ rest) 0) × (1 ≤ length (encode_char n))
unfolding encode_char
first_some n h rest =
    split n 128 (λ i. simp (lt-ltb n 128 i) (h, omega arith))
    (λ i. split n 2048 (λ j. simp (le-ltb n 128 i, lt-ltb n 2048 j) (omega arith, omega arith))
    (λ j. split n 65536 (λ k. simp (le-ltb n 128 i, le-ltb n 2048 j, lt-ltb n 65536 k) (omega arith, omega arith))
    (λ k. simp (le-ltb n 128 i, le-ltb n 2048 j, le-ltb n 65536 k) (omega arith, omega arith))))
