-- The answer of a call that makes something: the length of what it made, or the verdict's refusal.
use Rattle.std.specs.Prelude.{ℕ, ◌≡◌, refl, List}
use Rattle.std.proofs.Common.{arith}
use Rattle.answers.specs.declared.Refusal.{Refusal}
use Rattle.std.specs.Prelude.{Ok, Err}
use Rattle.answers.specs.Verdict.{Answer, Verdict, clear, Refused, kept}
pub use Rattle.answers.specs.Verdict.{answered}

abbrev pub Made : Type 0
Made = Answer ℕ

pub answered-done : {X : Type 0} (v : Verdict) (n m : X) → answered v n ≡ Ok m → (v ≡ clear) × (n ≡ m)
answered-done (Ok _) n m e = (refl, cc)
answered-done (Refused r) n m e = let z : ◌≡◌ {A = ℕ} 0 1 = cc in absurd (omega arith)

pub answered-refused : {X : Type 0} (v : Verdict) (n : X) (r : Refusal) → answered v n ≡ Err r → v ≡ Refused r
answered-refused (Ok _) n r e = let z : ◌≡◌ {A = ℕ} 0 1 = cc in absurd (omega arith)
answered-refused (Refused s) n r e = let q : s ≡ r = cc in rw q

pub done-answered : {X : Type 0} (v : Verdict) (n m : X) → v ≡ clear → n ≡ m → answered v n ≡ Ok m
done-answered v n m e q = rw (e, q)

-- a refused call leaves what was lent
pub refused-keeps : (v : Verdict) (n : ℕ) (r : Refusal) (d new : List ℕ) → answered v n ≡ Err r
    → kept v d new ≡ d
refused-keeps (Ok _) n r d new e = let z : ◌≡◌ {A = ℕ} 0 1 = cc in absurd (omega arith)
refused-keeps (Refused s) n r d new e = refl
