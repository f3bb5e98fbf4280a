-- What a turn of the loop over octets writes, and what all of them have written.
use Rattle.std.proofs.Common.{add-one, take, length, slice_index_or, ◌≡◌, refl, ℕ, ◌+◌, ◌/◌, ◌%◌, ◌<◌, ◌≤◌, List, [], ◌∷◌, ◌++◌, false, true, sym, ◌∙◌}
use Rattle.std.proofs.lemmas.Fmt.{hex_byte}
use Rattle.std.proofs.lemmas.List.{flat_map_more, take_all}
use Rattle.std.specs.Bool.{◌==◌}
use Rattle.std.specs.Fmt.{digit_glyph}
use Rattle.std.specs.List.{flat_map}
use Rattle.std.proofs.Math.Seq.{take-suc}
use Rattle.lines.specs.Text.{octet_text, hex_text}

-- two digits are an octet's text
pub octet_text-digits : (x : ℕ) (a : List ℕ) → x < 256 → a ≡ digit_glyph true (x / 16) ∷ digit_glyph true (x % 16) ∷ []
    → a ≡ octet_text x
octet_text-digits x a low p = p ∙ sym (hex_byte true x low)

-- the octet behind the first i
pub octet_text-next : (xs : List ℕ) (i : ℕ) → i < length xs
    → flat_map octet_text (take i xs) ++ octet_text (slice_index_or xs i 0) ≡ flat_map octet_text (take (i + 1) xs)
octet_text-next xs i within =
    rw (add-one i, take-suc xs i 0 within) (flat_map_more octet_text [] (take i xs) (slice_index_or xs i 0))

-- all of them, where there are any
pub hex_text-all : (xs : List ℕ) (i : ℕ) → length xs ≤ i → false ≡ (length xs == 0)
    → flat_map octet_text (take i xs) ≡ hex_text xs
hex_text-all xs i whole some = rw (← some, take_all i xs whole) refl
