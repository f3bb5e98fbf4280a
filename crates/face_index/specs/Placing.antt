-- A record's place as numbers, as the length of what was made.
use Rattle.std.specs.Prelude.{ℕ, List}
use Rattle.lookup.specs.Looked.{Placed}
use Rattle.face_reading.specs.Lent.{answer_number, made_numbers}

abbrev pub placed_number : Placed → ℕ
placed_number p = answer_number p

-- the refusal's place, and where the record starts
abbrev pub placed_numbers : Placed → List ℕ
placed_numbers p = made_numbers p
