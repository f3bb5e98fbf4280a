-- A judgement and the columns of a table as numbers.
use Rattle.std.specs.Prelude.{Ok, Err, ℕ, cond, List, [], ◌∷◌, eqb}
use Rattle.answers.specs.Verdict.{Answer}
use Rattle.table.specs.declared.Columns.{Columns}
use Rattle.book.specs.declared.Judgement.{Judgement}
use Rattle.face_reading.specs.Lent.{place_alone, answer_number}

abbrev pub judged_number : Answer Judgement → ℕ
judged_number a = answer_number a

-- place, length, count, the places of the header record and of the first address record, and the columns of each table
unfoldable pub judged_numbers : Answer Judgement → List ℕ
judged_numbers (Ok j) = 0 ∷ j.length ∷ j.count ∷ j.head ∷ j.first ∷ j.header.count ∷ j.address.count ∷ []
judged_numbers (Err r) = place_alone 6 r

-- ---- the columns of a table

-- the header table for 0, else the address table
unfoldable pub table_of : Judgement → ℕ → Columns
table_of j address = cond (eqb address 0) j.header j.address

-- place, and how many columns the table has
unfoldable pub columns_numbers : Answer Judgement → ℕ → List ℕ
columns_numbers (Ok j) address = 0 ∷ (table_of j address).count ∷ []
columns_numbers (Err r) address = place_alone 1 r

-- what stands where columns were lent: those of the judgement, or what was there
abbrev pub columns_left : Answer Judgement → (Judgement → List ℕ) → List ℕ → List ℕ
columns_left (Ok j) columns lent = columns j
columns_left (Err r) columns lent = lent
