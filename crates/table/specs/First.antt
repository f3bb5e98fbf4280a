-- The first number below n at which a test holds, and what a loop that looks for it goes by.
-- Assumes nothing.
use Rattle.std.specs.Prelude.{◌≡◌, refl, Bool, true, false, cond, ◌||◌, ℕ, zero, suc, ◌+◌, ◌<◌}
use Rattle.std.proofs.Common.{◌∙◌, ⊎_elim, not-suc-le-zero, eq-or-lt_of_le, le_of_suc-le-suc, add-one, arith}
use Rattle.std.proofs.Math.Bool.{or-true}
use Rattle.std.proofs.Math.Option.{Option, none, some}
use Rattle.octets.specs.Cases.{split}

-- the first of two that is there
abbrev pub or_else : Option ℕ → Option ℕ → Option ℕ
or_else (some i) o = some i
or_else none o = o

-- the first i below n with p i
abbrev pub first : (ℕ → Bool) → ℕ → Option ℕ
first p zero = none
first p (suc n) = or_else (first p n) (cond (p n) (some n) none)

-- that there is an i below n with p i
abbrev pub any : (ℕ → Bool) → ℕ → Bool
any p zero = false
any p (suc n) = any p n || p n

-- a loop that looks for the first: none yet, and one more is not; and here it is
pub first_more : (p : ℕ → Bool) (i : ℕ) → first p i ≡ none → p i ≡ false → first p (i + 1) ≡ none
first_more p i h e = rw (add-one, h, e)

pub first-at : (p : ℕ → Bool) (i n : ℕ) → first p i ≡ none → p i ≡ true → i < n → first p n ≡ some i
first-at p i zero h e l = absurd (not-suc-le-zero l)
first-at p i (suc n) h e l =
    ⊎_elim (λ (q : i ≡ n). rw (← q, h, e)) (λ (q : i < n). rw (first-at p i n h e q)) (eq-or-lt_of_le (le_of_suc-le-suc l))

-- the same of whether there is any
pub any-more : (p : ℕ → Bool) (i : ℕ) → any p i ≡ false → p i ≡ false → any p (i + 1) ≡ false
any-more p i h e = rw (add-one, h, e)

pub any_at : (p : ℕ → Bool) (i n : ℕ) → p i ≡ true → i < n → any p n ≡ true
any_at p i zero e l = absurd (not-suc-le-zero l)
any_at p i (suc n) e l =
    ⊎_elim (λ (q : i ≡ n). rw (← q, e) (or-true (any p i))) (λ (q : i < n). rw (any_at p i n e q)) (eq-or-lt_of_le (le_of_suc-le-suc l))

-- what is found is below n
below-case : (n i : ℕ) (o : Option ℕ) (b : Bool) → (o ≡ some i → i < n) → or_else o (cond b (some n) none) ≡ some i → i < suc n
below-case n i (some j) b h d = let g : i < n = h d in omega arith
below-case n i none true h d = let g : n ≡ i = cc in omega arith
below-case n i none false h d = let z : ◌≡◌ {A = ℕ} 0 1 = cc in absurd (omega arith)

pub first_below : (p : ℕ → Bool) (n i : ℕ) → first p n ≡ some i → i < n
first_below p zero i e = let z : ◌≡◌ {A = ℕ} 0 1 = cc in absurd (omega arith)
first_below p (suc n) i e = below-case n i (first p n) (p n) (first_below p n i) e

-- and the test holds of it
holds-case : (p : ℕ → Bool) (n i : ℕ) (o : Option ℕ) (b : Bool) → p n ≡ b → (o ≡ some i → p i ≡ true) → or_else o (cond b (some n) none) ≡ some i → p i ≡ true
holds-case p n i (some j) b q h d = h d
holds-case p n i none true q h d = let g : n ≡ i = cc in rw g at q
holds-case p n i none false q h d = let z : ◌≡◌ {A = ℕ} 0 1 = cc in absurd (omega arith)

pub first_holds : (p : ℕ → Bool) (n i : ℕ) → first p n ≡ some i → p i ≡ true
first_holds p zero i e = let z : ◌≡◌ {A = ℕ} 0 1 = cc in absurd (omega arith)
first_holds p (suc n) i e = holds-case p n i (first p n) (p n) refl (first_holds p n i) e

-- nothing is found where it holds of none
pub first-none : (p : ℕ → Bool) (n : ℕ) → ((i : ℕ) → i < n → p i ≡ false) → first p n ≡ none
first-none p zero h = refl
first-none p (suc n) h = rw (first-none p n (λ i l. h i (omega arith)), h n (omega arith))

-- and where nothing is found it holds of none
else-none : (n : ℕ) (o : Option ℕ) (b : Bool) → or_else o (cond b (some n) none) ≡ none → (o ≡ none) × (b ≡ false)
else-none n (some i) b e = let z : ◌≡◌ {A = ℕ} 0 1 = cc in absurd (omega arith)
else-none n none true e = let z : ◌≡◌ {A = ℕ} 0 1 = cc in absurd (omega arith)
else-none n none false e = (refl, refl)

pub none_before : (p : ℕ → Bool) (n : ℕ) → first p n ≡ none → (i : ℕ) → i < n → p i ≡ false
none_before p zero e i h = absurd (omega arith)
none_before p (suc n) e i h =
    let q = else-none n (first p n) (p n) e in
    split i n (λ l. none_before p n q.0 i l) (λ l. let z : i ≡ n = omega arith in rw z q.1)

-- nothing is found below what is found first
pub first-before : (p : ℕ → Bool) (n k : ℕ) → first p n ≡ some k → first p k ≡ none
first-before p zero k e = let z : ◌≡◌ {A = ℕ} 0 1 = cc in absurd (omega arith)
first-before p (suc n) k e = go (first p n) refl (p n) e (first-before p n k)
  where
    go : (o : Option ℕ) → first p n ≡ o → (b : Bool) → or_else o (cond b (some n) none) ≡ some k
        → (first p n ≡ some k → first p k ≡ none) → first p k ≡ none
    go (some i) q b e ih = ih (q ∙ e)
    go none q true e ih = let z : n ≡ k = cc in rw (← z) q
    go none q false e ih = let z : ◌≡◌ {A = ℕ} 0 1 = cc in absurd (omega arith)
