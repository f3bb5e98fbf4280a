-- A looked up value as numbers.
use Rattle.std.specs.Prelude.{Ok, Err, Some, None, ℕ, cond, List, [], ◌∷◌, eqb}
use Rattle.lookup.specs.declared.Which.{Which}
use Rattle.lookup.specs.declared.Which.TheVariants.{Header, Number}
use Rattle.lookup.specs.Looked.{Looked}
use Rattle.face_reading.specs.Lent.{place_alone, answer_number}

-- a record by number; the greatest number is the header record
unfoldable pub which_of : ℕ → Which
which_of k = cond (eqb k 18446744073709551615) Header (Number k)

abbrev pub looked_number : Looked → ℕ
looked_number l = answer_number l

-- place, whether there is a value, and where it starts and ends
abbrev pub looked_numbers : Looked → List ℕ
looked_numbers (Ok (Some (s, e))) = 0 ∷ 1 ∷ s ∷ e ∷ []
looked_numbers (Ok None) = 0 ∷ 0 ∷ 0 ∷ 0 ∷ []
looked_numbers (Err r) = place_alone 3 r
