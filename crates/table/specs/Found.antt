-- What a search for a column by its tag says: whether there is one, and its number.
use Rattle.std.specs.Prelude.{ℕ, Bool, true, false, ◌≡◌, refl}
use Rattle.std.specs.Prelude.{Option}
pub use Rattle.std.specs.Prelude.{Some as At, None as Nothing}

-- the row that a search found
abbrev pub Found : Type 0
Found = Option ℕ

abbrev pub is_found : Found → Bool
is_found (At i) = true
is_found Nothing = false

abbrev pub column_of : Found → ℕ
column_of (At i) = i
column_of Nothing = 0

pub nothing-left : (f : Found) → ((i : ℕ) → f ≡ At i → ⊥) → f ≡ Nothing
nothing-left (At i) h = absurd (h i refl)
nothing-left Nothing h = refl
