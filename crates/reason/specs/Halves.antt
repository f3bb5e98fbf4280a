-- The upper halves of tags stand where the tags do, and a tag's column is one of its upper half.
use Rattle.std.specs.Prelude.{ℕ, zero, suc, ◌≡◌, refl, List, [], ◌∷◌, length, get_or}
use Rattle.std.proofs.Common.{ap}
use Rattle.reason.specs.Why.{upper, uppers_of}

pub uppers-long : (ts : List ℕ) → length (uppers_of ts) ≡ length ts
uppers-long [] = refl
uppers-long (t ∷ ts) = ap suc (uppers-long ts)

pub upper-at : (ts : List ℕ) (i : ℕ) → get_or (uppers_of ts) i 0 ≡ upper (get_or ts i 0)
upper-at [] i = refl
upper-at (t ∷ ts) zero = refl
upper-at (t ∷ ts) (suc i) = upper-at ts i
