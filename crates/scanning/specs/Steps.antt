-- How a field is scanned, octet by octet (request 106): where it ends, or the first octet that no field could have
-- there. Assumes nothing.
use Rattle.std.specs.Prelude.{ℕ, ◌+◌, ◌≤◌, Bool, List, [], ◌∷◌, eqb, leb}
use Rattle.std.proofs.Common.{arith, sym, ne_eqb, eqb-true, leb-true}
use Rattle.std.proofs.Math.Path.{◌≡◌, refl}
use Rattle.std.proofs.Math.Bool.{true, false, cond}
use Rattle.octets.specs.Cases.{taken}
use Rattle.answers.specs.Walk.{Walk}
use Rattle.answers.specs.Walk.{Ends as WalkEnds, Broken as WalkBroken}
use Rattle.entry.specs.Record.{unlike}
use Rattle.sheet.specs.Field.{quote, numbers, truths, is_mark}
use Rattle.sheet.specs.Values.{is_string}
use Rattle.scanning.specs.declared.Fill.{Fill}
use Rattle.scanning.specs.declared.Fill.TheVariants.{Nothing, More, All}
use Rattle.scanning.specs.declared.Stage.{Stage}
use Rattle.scanning.specs.declared.Stage.TheVariants.{Outside, Inside, Behind}
use Rattle.scanning.specs.declared.Step.{Step}
use Rattle.scanning.specs.declared.Step.TheVariants.{Goes, Ends, Broken}

-- the octets that a value of the type is spelt with: digits; 0 and 1; in a string all but zero
unfoldable pub spells : ℕ → ℕ → Bool
spells code x =
    cond (eqb code numbers) (cond (leb 48 x) (leb x 57) false)
    (cond (eqb code truths) (cond (leb 48 x) (leb x 49) false)
    (cond (eqb x 0) false true))

-- whether nothing has been read
abbrev pub is_nothing : Fill → Bool
is_nothing Nothing = true
is_nothing More = false
is_nothing All = false

-- whether nothing may follow
abbrev pub is_all : Fill → Bool
is_all Nothing = false
is_all More = false
is_all All = true

-- what has been read once x follows: nothing may follow a number's leading zero, nor a 0 or 1
unfoldable pub filled : ℕ → Fill → ℕ → Fill
filled code fill x =
    cond (eqb code numbers) (cond (is_nothing fill) (cond (eqb x 48) All More) More)
    (cond (eqb code truths) All More)

-- whether x may follow
unfoldable pub takes : ℕ → Fill → ℕ → Bool
takes code fill x = cond (is_all fill) false (spells code x)

-- whether t may stand in a field of the type, behind what has been read
unfoldable pub holds : ℕ → Fill → List ℕ → Bool
holds code fill [] = true
holds code fill (x ∷ xs) = cond (takes code fill x) (holds code (filled code fill x) xs) false

-- a field of the type code, whose end is the octet e
unfoldable pub step_of : ℕ → ℕ → Stage → ℕ → Step
step_of code e (Outside fill) x =
    cond (eqb x e) Ends
    (cond (eqb x quote) (cond (is_nothing fill) (Goes (Inside Nothing)) Broken)
    (cond (is_mark x) Broken
    (cond (takes code fill x) (Goes (Outside (filled code fill x))) Broken)))
step_of code e (Inside fill) x =
    cond (eqb x quote) (Goes Behind)
    (cond (takes code fill x) (Goes (Inside (filled code fill x))) Broken)
step_of code e Behind x =
    cond (eqb x e) Ends
    (cond (eqb x quote) (cond (is_string code) (Goes (Inside More)) Broken) Broken)

-- what follows a step, i octets having gone before
abbrev pub moved : Step → ℕ → (Stage → Walk) → Walk → Walk
moved (Goes s) i goes ends = goes s
moved Ends i goes ends = ends
moved Broken i goes ends = WalkBroken i

-- where the field ends that stands at s, xs being still to come
unfoldable pub field_from : ℕ → ℕ → Stage → ℕ → List ℕ → Walk
field_from code e s i [] = WalkBroken i
field_from code e s i (x ∷ xs) = moved (step_of code e s x) i (λ t. field_from code e t (i + 1) xs) (WalkEnds i)

-- ---- strings

module _ (code : ℕ) (fill : Fill) (x : ℕ) (s : is_string code ≡ true) where
  pub string-takes : is_all fill ≡ false → (x ≡ 0 → ⊥) → takes code fill x ≡ true
  unfolding takes spells is_string
  string-takes f z = rw f (go (eqb code numbers) (eqb code truths) s)
    where
      go : (a b : Bool) → cond a false (cond b false true) ≡ true
          → cond a (cond (leb 48 x) (leb x 57) false)
          (cond b (cond (leb 48 x) (leb x 49) false) (cond (eqb x 0) false true)) ≡ true
      go true b e = unlike e
      go false true e = unlike e
      go false false e = rw (ne_eqb x 0 z)

  pub string-filled : filled code fill x ≡ More
  unfolding filled is_string
  string-filled = go (eqb code numbers) (eqb code truths) s
    where
      go : (a b : Bool) → cond a false (cond b false true) ≡ true
          → cond a (cond (is_nothing fill) (cond (eqb x 48) All More) More) (cond b All More) ≡ More
      go true b e = unlike e
      go false true e = unlike e
      go false false e = refl

pub string-zero : (code : ℕ) (fill : Fill) → is_string code ≡ true → takes code fill 0 ≡ false
unfolding takes spells is_string
string-zero code fill s = go (is_all fill) (eqb code numbers) (eqb code truths) s
  where
    go : (a b c : Bool) → cond b false (cond c false true) ≡ true
        → cond a false (cond b false (cond c false false)) ≡ false
    go true b c q = refl
    go false true c q = refl
    go false false true q = refl
    go false false false q = refl

-- ---- numbers and truths

-- a type that is no string is one of these
pub two-types : {X : Type 0} (code : ℕ) → is_string code ≡ false → (code ≡ numbers → X) → (code ≡ truths → X) → X
unfolding is_string
two-types code s f g =
    taken (eqb code numbers) _ _ _ s (λ p q. f (eqb-true code numbers p))
    (λ p q. taken (eqb code truths) _ _ _ q (λ p q. g (eqb-true code truths p)) (λ p q. unlike (sym q)))

far-plain : (x : ℕ) → 48 ≤ x → is_mark x ≡ false
unfolding is_mark
far-plain x h =
    rw (ne_eqb x 44 (omega arith), ne_eqb x 34 (omega arith), ne_eqb x 13 (omega arith), ne_eqb x 10 (omega arith))

-- a digit is no mark
pub digit-plain : (code x : ℕ) → is_string code ≡ false → spells code x ≡ true → is_mark x ≡ false
unfolding spells
digit-plain code x s h =
    two-types code s (λ p. far-plain x (low 57 (rw p at h))) (λ p. far-plain x (low 49 (rw p at h)))
  where
    low : (l : ℕ) → cond (leb 48 x) (leb x l) false ≡ true → 48 ≤ x
    low l e = taken (leb 48 x) _ _ _ e (λ p q. leb-true 48 x p) (λ p q. unlike q)
