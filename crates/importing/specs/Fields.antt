-- Where the fields of a line stand, by quotes alone, and what is laid down for them: any text has such fields. Assumes
-- nothing.
use Rattle.std.specs.Prelude.{ℕ, suc, ◌+◌, ◌-◌, ◌%◌, Bool, false, not, cond, List, [], ◌∷◌, ◌++◌, eqb, length, take, drop}
use Rattle.std.proofs.Math.Option.{Option, none, some}
use Rattle.octets.specs.Octets.{octet_at}
use Rattle.whole.specs.Number.{encode_number}
use Rattle.entry.specs.Present.{Row}
use Rattle.sheet.specs.Digits.{number_in}
use Rattle.sheet.specs.Field.{numbers, truths, quote, is_mark}
use Rattle.sheet.specs.Reading.{content_in}

-- x ends a field, q: within quotes
unfoldable pub ends_by : Bool → ℕ → Bool
ends_by q x = cond (eqb x quote) false (cond q false (is_mark x))

-- what follows x stands within quotes
unfoldable pub inside_by : Bool → ℕ → Bool
inside_by q x = cond (eqb x quote) (not q) q

-- how long the field at the front of a text is: up to the first mark outside quotes, or all of it; q: within quotes
unfoldable pub field_long : Bool → List ℕ → ℕ
field_long q [] = 0
field_long q (x ∷ xs) =
    cond (ends_by q x) 0 (suc (field_long (inside_by q x) xs))

-- up to the first mark, and up to the first quote
unfoldable pub plain_long : List ℕ → ℕ
plain_long [] = 0
plain_long (x ∷ xs) = cond (is_mark x) 0 (suc (plain_long xs))

unfoldable pub quoted_long : List ℕ → ℕ
quoted_long [] = 0
quoted_long (x ∷ xs) = cond (eqb x quote) 0 (suc (quoted_long xs))

abbrev pub field_in : List ℕ → List ℕ
field_in xs = take (field_long false xs) xs

-- behind the field and the octet that ends it
abbrev pub field_behind : List ℕ → List ℕ
field_behind xs = drop (field_long false xs + 1) xs

unfoldable pub is_quoted : List ℕ → Bool
is_quoted [] = false
is_quoted (x ∷ f) = eqb x quote

-- of what stands behind the quote that opens, x is a quote that isn't read: the one that closes or the first of two;
-- second: it stands behind such a one
unfoldable pub unread_by : Bool → ℕ → Bool
unread_by second x = cond second false (eqb x quote)

-- what an octet adds to what is read
unfoldable pub read_by : Bool → ℕ → List ℕ
read_by unread x = cond unread [] (x ∷ [])

-- the value that is laid down for a field: a number by its low 32 bits, which are all that one that fits has
unfoldable pub laid_from : ℕ → List ℕ → Option (List ℕ)
laid_from code t =
    cond (eqb (length t) 0) none
    (some
    (cond (eqb code numbers) (encode_number (number_in t % 4294967296))
    (cond (eqb code truths) ((octet_at t 0 - 48) ∷ [])
    (t ++ (0 ∷ [])))))

-- of a line at the front of a text
abbrev pub laid_row : List ℕ → List ℕ → Row
laid_row [] xs = []
laid_row (c ∷ cs) xs = laid_from c (content_in (field_in xs)) ∷ laid_row cs (field_behind xs)

-- the line's octets, a LF behind its last field and that field's end
abbrev pub line_long : List ℕ → List ℕ → ℕ
line_long [] xs = 1
line_long (c ∷ cs) xs = field_long false xs + 1 + line_long cs (field_behind xs)
