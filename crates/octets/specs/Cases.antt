-- Cases on tests: what a definition by `cond` says where its answer is known. Assumes nothing.
use Rattle.std.specs.Prelude.{ℕ, ◌≤◌, ◌<◌, ◌≡◌, refl, Bool, true, false, cond, ltb}
use Rattle.std.proofs.Common.{arith, lt-ltb, le-ltb, le-leb, eq-eqb, ne_eqb, ltb-true, ltb-false}
use Rattle.std.proofs.lemmas.Bool.{lt-leb}

-- what a test's fact says of the test
pub ruleset tests = (lt-ltb, le-ltb, le-leb, lt-leb, eq-eqb, ne_eqb)

-- two cases
pub split : {X : Type 0} (a b : ℕ) → (a < b → X) → (b ≤ a → X) → X
split {X} a b f g = go (ltb a b) refl
  where
    go : (t : Bool) → ltb a b ≡ t → X
    go true e = f (ltb-true a b e)
    go false e = g (ltb-false a b e)

-- the case that a definition took
pub taken : {A X : Type 0} (t : Bool) (a b c : A) → cond t a b ≡ c → (t ≡ true → a ≡ c → X) → (t ≡ false → b ≡ c → X) → X
taken true a b c e f g = f refl e
taken false a b c e f g = g refl e

pub same-either : {A : Type 0} (t : Bool) (a : A) → cond t a a ≡ a
same-either true a = refl
same-either false a = refl

-- a test that was passed on the way to true
pub passed : (t x : Bool) → cond t false x ≡ true → (t ≡ false) × (x ≡ true)
passed true x e = absurd (let q : ◌≡◌ {A = ℕ} 0 1 = cc in omega arith)
passed false x e = (refl, e)
