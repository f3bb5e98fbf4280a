-- What the calls for C programs share: the numbers lent for an answer begin with the refusal's place, and where a call
-- is refused every other is 0.
use Rattle.std.specs.Prelude.{Ok, Err, ℕ, List, [], ◌∷◌, replicate}
use Rattle.answers.specs.declared.Refusal.{Refusal}
use Rattle.answers.specs.Verdict.{Answer}
use Rattle.answers.specs.Made.{Made}

-- the place, and n zeros
abbrev pub place_alone : ℕ → Refusal → List ℕ
place_alone n r = r.place ∷ replicate n 0

-- 0, or the number of the refusal
abbrev pub answer_number : {X : Type 0} → Answer X → ℕ
answer_number (Ok x) = 0
answer_number (Err r) = r.number

-- ---- of calls that make something

abbrev pub made_number : Made → ℕ
made_number m = answer_number m

-- place, and the length of what was made
abbrev pub made_numbers : Made → List ℕ
made_numbers (Ok n) = 0 ∷ n ∷ []
made_numbers (Err r) = place_alone 1 r
