-- A refused call changes nothing: where the answer isn't 0, every number behind the place is 0, and columns that were
-- lent stay.
use Rattle.std.specs.Prelude.{Err, Ok, ℕ, ◌≡◌, refl, List, drop, replicate}
use Rattle.answers.specs.Verdict.{Answer, Verdict}
use Rattle.answers.specs.Verdict.{Refused}
use Rattle.answers.specs.Verdict.{kept}
use Rattle.answers.specs.Made.{Made}
use Rattle.answers.specs.Made.{answered}
use Rattle.book.specs.declared.Judgement.{Judgement}
use Rattle.lookup.specs.Looked.{Looked}
use Rattle.face_reading.specs.Lent.{made_number, made_numbers}
use Rattle.face_reading.specs.Judging.{judged_number, judged_numbers, columns_numbers, columns_left}
use Rattle.face_reading.specs.Looking.{looked_number, looked_numbers}

-- a call on the buffer d, which leaves the buffer e
abbrev pub Stays : Made → List ℕ → List ℕ → Type 0
Stays m d e = (made_number m ≡ 0 → ⊥) → (drop 1 (made_numbers m) ≡ replicate 1 0) × (e ≡ d)

-- what makes something is answered by a verdict
pub stays : (v : Verdict) (n : ℕ) (d new : List ℕ) → Stays (answered v n) d (kept v d new)
stays (Ok _) n d new z = absurd (z refl)
stays (Refused r) n d new z = (refl, refl)

pub refused-judge : (a : Answer Judgement) → (judged_number a ≡ 0 → ⊥) → drop 1 (judged_numbers a) ≡ replicate 6 0
unfolding judged_numbers
refused-judge (Ok j) z = absurd (z refl)
refused-judge (Err r) z = refl

-- the count, and what stands where tags or flags were lent
pub refused-columns : (a : Answer Judgement) (address : ℕ) (lent : List ℕ) (columns : Judgement → List ℕ)
    → (judged_number a ≡ 0 → ⊥)
    → (drop 1 (columns_numbers a address) ≡ replicate 1 0) × (columns_left a columns lent ≡ lent)
unfolding columns_numbers
refused-columns (Ok j) address lent columns z = absurd (z refl)
refused-columns (Err r) address lent columns z = (refl, refl)

pub refused-lookup : (l : Looked) → (looked_number l ≡ 0 → ⊥) → drop 1 (looked_numbers l) ≡ replicate 3 0
refused-lookup (Ok v) z = absurd (z refl)
refused-lookup (Err r) z = refl
