-- A sheet (request 101, reading 23; RFC 4180): the text of a value, of a record and of the whole. Assumes nothing.
use Rattle.std.specs.Prelude.{ℕ, ◌-◌, ◌%◌, Bool, true, false, cond, List, [], ◌∷◌, ◌++◌, eqb, length, take}
use Rattle.std.proofs.Math.Option.{Option, none, some}
use Rattle.octets.specs.Octets.{octet_at}
use Rattle.whole.specs.Number.{Number}
use Rattle.whole.specs.Number.{Some, Broken}
use Rattle.whole.specs.Number.{number_of}
use Rattle.table.specs.Repeat.{memb}
use Rattle.entry.specs.Present.{Row}
use Rattle.sheet.specs.Digits.{digits_of, decimal}

-- ---- the types that can be exported

abbrev pub numbers : ℕ
numbers = 0x0003

abbrev pub truths : ℕ
truths = 0x000B

abbrev pub narrows : ℕ
narrows = 0x001E

abbrev pub texts : ℕ
texts = 0x001F

-- by the code of the type
unfoldable pub is_exported : ℕ → Bool
is_exported code = memb code (numbers ∷ truths ∷ narrows ∷ texts ∷ [])

-- the type of each tag can be exported
unfoldable pub all_exported : List ℕ → Bool
all_exported [] = true
all_exported (t ∷ tags) = cond (is_exported (t % 65536)) (all_exported tags) false

-- a sheet has as many columns at most
abbrev pub most_chosen : ℕ
most_chosen = 16

-- the code of a tag's type is its lower half
abbrev pub codes_of : List ℕ → List ℕ
codes_of [] = []
codes_of (t ∷ ts) = t % 65536 ∷ codes_of ts

-- ---- quotes

abbrev pub quote : ℕ
quote = 34

abbrev pub comma : ℕ
comma = 44

abbrev pub cr : ℕ
cr = 13

abbrev pub lf : ℕ
lf = 10

-- a string is quoted when it holds one of these
unfoldable pub is_mark : ℕ → Bool
is_mark x = memb x (comma ∷ quote ∷ cr ∷ lf ∷ [])

unfoldable pub marked : List ℕ → Bool
marked [] = false
marked (x ∷ xs) = cond (is_mark x) true (marked xs)

-- each quote twice
abbrev pub twice : ℕ → List ℕ
twice x = cond (eqb x quote) (quote ∷ quote ∷ []) (x ∷ [])

unfoldable pub doubled : List ℕ → List ℕ
doubled [] = []
doubled (x ∷ xs) = twice x ++ doubled xs

unfoldable pub quoted : List ℕ → List ℕ
quoted t = quote ∷ (doubled t ++ (quote ∷ []))

-- quoted exactly where it must be
unfoldable pub spelt : List ℕ → List ℕ
spelt t = cond (marked t) (quoted t) t

-- ---- the text of a value, by the code of its type

abbrev pub whole_by : Number → ℕ
whole_by (Some (n, w)) = n
whole_by Broken = 0

-- the number that a value says
abbrev pub whole_in : List ℕ → ℕ
whole_in v = whole_by (number_of v)

-- what a field holds, in quotes or not: a number in decimal, 0 or 1, a string without its final zero; nothing where the
-- value is absent
unfoldable pub content_of : ℕ → Option (List ℕ) → List ℕ
content_of code none = []
content_of code (some v) =
    cond (eqb code numbers) (decimal (whole_in v))
    (cond (eqb code truths) (cond (eqb (octet_at v 0) 0) 48 49 ∷ [])
    (take (length v - 1) v))

abbrev pub field_of : ℕ → Option (List ℕ) → List ℕ
field_of code e = spelt (content_of code e)

-- of a row that has an entry for each of these types
abbrev pub fields_of : List ℕ → Row → List (List ℕ)
fields_of [] es = []
fields_of (c ∷ cs) [] = []
fields_of (c ∷ cs) (e ∷ es) = field_of c e ∷ fields_of cs es

-- ---- lines

-- behind a field stands a comma, behind the last a CR
abbrev pub end_of : {A : Type 0} → List A → ℕ
end_of [] = cr
end_of (g ∷ gs) = comma

-- fields, each with its end, and a LF
unfoldable pub line_of : List (List ℕ) → List ℕ
line_of [] = lf ∷ []
line_of (f ∷ fs) = f ++ (end_of fs ∷ line_of fs)

-- ---- the whole

-- a tag as eight digits of base 16
abbrev pub tag_field : ℕ → List ℕ
tag_field tag = digits_of 16 8 tag

abbrev pub tag_fields : List ℕ → List (List ℕ)
tag_fields [] = []
tag_fields (t ∷ ts) = tag_field t ∷ tag_fields ts

unfoldable pub lines_of : List ℕ → List Row → List ℕ
lines_of codes [] = []
lines_of codes (es ∷ rows) = line_of (fields_of codes es) ++ lines_of codes rows

-- the sheet of these tags and rows: a line of the tags, then a line a row
unfoldable pub sheet_of : List ℕ → List Row → List ℕ
sheet_of tags rows = line_of (tag_fields tags) ++ lines_of (codes_of tags) rows
