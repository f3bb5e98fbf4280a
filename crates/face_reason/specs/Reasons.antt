-- A reason as numbers.
use Rattle.std.specs.Prelude.{Ok, Err, ℕ, List, [], ◌∷◌}
use Rattle.reason.specs.Reply.{Reply}
use Rattle.reason.specs.declared.Reason.TheVariants as reason
use Rattle.face_reading.specs.Lent.{place_alone, answer_number}

abbrev pub reason_number : Reply → ℕ
reason_number r = answer_number r

-- place, which reply it is, the place that shows it, and the tag of the column of another type
abbrev pub reason_numbers : Reply → List ℕ
reason_numbers (Ok (reason.OtherType u p)) = 0 ∷ 1 ∷ p ∷ u ∷ []
reason_numbers (Ok reason.NoColumn) = 0 ∷ 2 ∷ 0 ∷ 0 ∷ []
reason_numbers (Ok (reason.Listed p)) = 0 ∷ 3 ∷ p ∷ 0 ∷ []
reason_numbers (Ok (reason.NotListed p)) = 0 ∷ 4 ∷ p ∷ 0 ∷ []
reason_numbers (Err r) = place_alone 3 r
