-- Whether a table has the two digits of each octet, from octet n on.
use Rattle.std.specs.Prelude.{ℕ, ◌+◌, ◌/◌, ◌%◌, Bool, true, false, List, [], ◌∷◌, ◌&&◌, eqb}
use Rattle.std.proofs.Common.{Bor}
use Rattle.std.specs.Fmt.{digit_glyph}

abbrev pub two_digits : List ℕ → ℕ → Bool
two_digits (a ∷ b ∷ []) n = eqb a (digit_glyph true (n / 16)) && eqb b (digit_glyph true (n % 16))
two_digits text n = false

abbrev pub pairs_from : List (Bor (List ℕ)) → ℕ → Bool
pairs_from [] n = true
pairs_from (t ∷ ts) n = two_digits t.now n && pairs_from ts (n + 1)
