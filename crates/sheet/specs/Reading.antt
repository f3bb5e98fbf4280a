-- How a sheet is read: its lines as what their fields hold, by RFC 4180 alone, and a value by what its field holds. Any
-- text can be read so. Assumes nothing.
use Rattle.std.specs.Prelude.{ℕ, ◌-◌, Bool, true, false, not, cond, List, [], ◌∷◌, ◌++◌, eqb, length, drop}
use Rattle.std.proofs.Math.Option.{Option, none, some}
use Rattle.octets.specs.Octets.{octet_at}
use Rattle.whole.specs.Number.{encode_number}
use Rattle.entry.specs.Present.{Row}
use Rattle.sheet.specs.Digits.{number_in}
use Rattle.sheet.specs.Field.{numbers, truths, codes_of, quote, lf, is_mark}

-- ---- the lines of a text

-- behind the quote that opens; b: a quote has been read that closes or is the first of two
unfoldable pub unquoted : Bool → List ℕ → List ℕ
unquoted b [] = []
unquoted true (x ∷ xs) = x ∷ unquoted false xs
unquoted false (x ∷ xs) = cond (eqb x quote) (unquoted true xs) (x ∷ unquoted false xs)

-- what a field holds
unfoldable pub content_in : List ℕ → List ℕ
content_in [] = []
content_in (x ∷ xs) = cond (eqb x quote) (unquoted false xs) (x ∷ xs)

-- f is the field so far, q whether an odd number of quotes stands in it: then nothing ends it; `line` is what the
-- fields before it in its line hold
unfoldable pub lines_from : Bool → List ℕ → List (List ℕ) → List ℕ → List (List (List ℕ))
lines_from q f line [] = []
lines_from q f line (x ∷ xs) =
    cond (eqb x quote) (lines_from (not q) (f ++ (x ∷ [])) line xs)
    (cond q (lines_from q (f ++ (x ∷ [])) line xs)
    (cond (eqb x lf) (line ∷ lines_from false [] [] xs)
    (cond (is_mark x) (lines_from false [] (line ++ (content_in f ∷ [])) xs)
    (lines_from q (f ++ (x ∷ [])) line xs))))

unfoldable pub lines_in : List ℕ → List (List (List ℕ))
lines_in xs = lines_from false [] [] xs

-- ---- the rows of a text

-- the value of a type that a field holds; none where it holds nothing
unfoldable pub value_from : ℕ → List ℕ → Option (List ℕ)
value_from code t =
    cond (eqb (length t) 0) none
    (some
    (cond (eqb code numbers) (encode_number (number_in t))
    (cond (eqb code truths) ((octet_at t 0 - 48) ∷ [])
    (t ++ (0 ∷ [])))))

abbrev pub values_from : List ℕ → List (List ℕ) → Row
values_from [] ts = []
values_from (c ∷ cs) [] = []
values_from (c ∷ cs) (t ∷ ts) = value_from c t ∷ values_from cs ts

abbrev pub rows_from : List ℕ → List (List (List ℕ)) → List Row
rows_from codes [] = []
rows_from codes (ts ∷ lines) = values_from codes ts ∷ rows_from codes lines

-- what a sheet of these tags holds: of each line behind the first the values
unfoldable pub rows_in : List ℕ → List ℕ → List Row
rows_in tags xs = rows_from (codes_of tags) (drop 1 (lines_in xs))
