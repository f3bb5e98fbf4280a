-- The ways of the code: a law for each way out of a function, on plain values.
use Rattle.std.specs.Prelude.{Ok, Err, ℕ, ◌≡◌, List, [], ◌∷◌}
use Rattle.answers.specs.declared.Refusal.{Refusal}
use Rattle.lookup.specs.Looked.{Placed}
use Rattle.face_reading.specs.Lent.{place_alone}
use Rattle.face_reading.specs.Cases.{made-done, made-refused}
use Rattle.face_index.specs.Placing.{placed_numbers}

pub placed_at : (p : Placed) (n : ℕ) → p ≡ Ok n → ◌≡◌ {A = List ℕ} (0 ∷ n ∷ []) (placed_numbers p)
placed_at p n q = made-done p n q

pub placed-refused : (p : Placed) (r : Refusal) → p ≡ Err r → place_alone 1 r ≡ placed_numbers p
placed-refused p r q = made-refused p r q
