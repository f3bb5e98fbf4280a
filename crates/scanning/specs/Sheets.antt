-- What the lines behind a sheet's first line are (request 106): of each line the fields, each in one of its permitted
-- spellings, each ended by a comma, the last by CR and LF. What they hold is what `lines_in` reads. Assumes nothing.
use Rattle.std.specs.Prelude.{ℕ, ◌≡◌, refl, Bool, true, false, List, [], ◌∷◌, ◌++◌}
use Rattle.std.proofs.Common.{sym, ap, ◌∙◌, append_assoc, append-nil}
use Rattle.std.proofs.Math.Seq.{append_snoc}
use Rattle.sheet.specs.Field.{lf, end_of}
use Rattle.sheet.specs.Reading.{lines_from, lines_in}
use Rattle.sheet.specs.Back.{Spells, field-read}
use Rattle.scanning.specs.declared.Fill.TheVariants.{Nothing}
use Rattle.scanning.specs.Steps.{holds}

-- xs is a field of the type that holds t, what ends it, and a rest
pub record FieldThen (code e : ℕ) (t xs : List ℕ) (Then : List ℕ → Type 0) : Type 0 where
  pub field : List ℕ
  pub spelt : Spells t field
  pub held : holds code Nothing t ≡ true
  pub rest : List ℕ
  pub goes : Then rest
  pub reads : xs ≡ field ++ (e ∷ rest)

-- xs is a line whose fields hold ts
abbrev pub IsLine : List ℕ → List (List ℕ) → List ℕ → Type 0
IsLine [] [] xs = xs ≡ lf ∷ []
IsLine [] (t ∷ ts) xs = ⊥
IsLine (c ∷ cs) [] xs = ⊥
IsLine (c ∷ cs) (t ∷ ts) xs = FieldThen c (end_of cs) t xs (IsLine cs ts)

pub record LineThen (codes : List ℕ) (ts : List (List ℕ)) (xs : List ℕ) (Then : List ℕ → Type 0) : Type 0 where
  pub line : List ℕ
  pub fields : IsLine codes ts line
  pub rest : List ℕ
  pub goes : Then rest
  pub reads : xs ≡ line ++ rest

-- xs is lines whose fields hold rows
abbrev pub IsText : List ℕ → List (List (List ℕ)) → List ℕ → Type 0
IsText codes [] xs = xs ≡ []
IsText codes (ts ∷ rows) xs = LineThen codes ts xs (IsText codes rows)

-- what each field holds is good
abbrev pub GoodLine : (ℕ → List ℕ → Bool) → List ℕ → List (List ℕ) → Type 0
GoodLine good [] ts = Unit {0}
GoodLine good (c ∷ cs) [] = Unit {0}
GoodLine good (c ∷ cs) (t ∷ ts) = (good c t ≡ true) × GoodLine good cs ts

abbrev pub GoodText : (ℕ → List ℕ → Bool) → List ℕ → List (List (List ℕ)) → Type 0
GoodText good codes [] = Unit {0}
GoodText good codes (ts ∷ rows) = GoodLine good codes ts × GoodText good codes rows

-- ---- what they hold is what is read

line-end : (line : List (List ℕ)) (rest : List ℕ)
    → lines_from false [] line (lf ∷ rest) ≡ (line ++ []) ∷ lines_from false [] [] rest
unfolding lines_from
line-end line rest = ap (λ (l : List (List ℕ)). l ∷ lines_from false [] [] rest) (sym (append-nil line))

line-is : (cs : List ℕ) (ts line : List (List ℕ)) (xs rest : List ℕ) → IsLine cs ts xs
    → lines_from false [] line (xs ++ rest) ≡ (line ++ ts) ∷ lines_from false [] [] rest
line-is [] [] line xs rest l = rw l (line-end line rest)
line-is [] (t ∷ ts) line xs rest l = absurd l
line-is (c ∷ cs) [] line xs rest l = absurd l
line-is (c ∷ cs) (t ∷ ts) line xs rest l =
    ap (λ (y : List ℕ). lines_from false [] line (y ++ rest)) l.reads
    ∙ ap (lines_from false [] line) (append_assoc l.field (end_of cs ∷ l.rest) rest)
    ∙ field-read line cs t l.field (l.rest ++ rest) l.spelt
    ∙ line-is cs ts (line ++ (t ∷ [])) l.rest rest l.goes
    ∙ ap (λ (y : List (List ℕ)). y ∷ lines_from false [] [] rest) (append_snoc line t ts)

none_read : lines_from false [] [] [] ≡ []
unfolding lines_from
none_read = refl

pub lines_are : (codes : List ℕ) (rows : List (List (List ℕ))) (xs : List ℕ) → IsText codes rows xs → lines_in xs ≡ rows
unfolding lines_in
lines_are codes [] xs t = rw t none_read
lines_are codes (ts ∷ rows) xs t =
    ap (lines_from false [] []) t.reads ∙ line-is codes ts [] t.line t.rest t.fields
    ∙ ap (λ (l : List (List (List ℕ))). ts ∷ l) (lines_are codes rows t.rest t.goes)
