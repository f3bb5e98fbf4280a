-- The arrays that hold one number for each column: as long as a table may have columns, with zeros behind. Assumes
-- nothing.
use Rattle.std.specs.Prelude.{ℕ, suc, ◌-◌, ◌≤◌, ◌<◌, ◌≡◌, List, [], ◌∷◌, ◌++◌, length, set, replicate}
use Rattle.std.proofs.Common.{arith, ◌∙◌, length-append}
use Rattle.std.proofs.lemmas.List.{length-replicate, set_at}
use Rattle.std.proofs.Math.Seq.{append_snoc}
use Rattle.answers.specs.Numbers.{most_columns}

abbrev pub padded : List ℕ → List ℕ
padded xs = xs ++ replicate (most_columns - length xs) 0

pub padded-long : (xs : List ℕ) → length xs ≤ most_columns → length (padded xs) ≡ most_columns
padded-long xs h = length-append xs _ ∙ rw (length-replicate {A = ℕ} (most_columns - length xs) 0) (omega arith)

-- a store behind the last
pub padded-more : (xs : List ℕ) (i v : ℕ) → length xs ≡ i → i < most_columns
    → set (padded xs) i v ≡ padded (xs ++ (v ∷ []))
padded-more xs i v e h =
    let k : most_columns - length xs ≡ suc (most_columns - suc i) = omega arith in
    let l : length (xs ++ (v ∷ [])) ≡ suc i = length-append xs (v ∷ []) ∙ omega arith in
    let zeros : List ℕ = replicate (most_columns - suc i) 0 in
    rw (k, l, append_snoc xs v zeros) (set_at xs 0 zeros v i e)
