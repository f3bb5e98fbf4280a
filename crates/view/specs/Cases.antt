-- The way of the code that cuts out what a lookup found, on plain values.
use Rattle.std.specs.Prelude.{ℕ, ◌≡◌, List}
use Rattle.lookup.specs.Look.{lookup_of, stretch_by, stretch_of}
use Rattle.lookup.specs.declared.Which.{Which}
use Rattle.lookup.specs.Looked.{Looked}

pub value-cut : (b : List ℕ) (which : Which) (tag : ℕ) (f : Looked) (xs : List ℕ) → f ≡ lookup_of b which tag
    → xs ≡ stretch_by b f → xs ≡ stretch_of b which tag
unfolding stretch_of
value-cut b which tag f xs q e = rw (← q) e
