-- A sheet of chosen address columns of a book (request 101, reading 23), said of the table that stands in it: what is
-- selected, what is refused and in which order, the answer and the octets.
use Rattle.std.specs.Prelude.{ℕ, Bool, true, false, cond, not, List, [], ◌∷◌, leb, length}
use Rattle.octets.specs.Splice.{stored}
use Rattle.answers.specs.Numbers.{out_of_turn, no_room, breaks_form}
use Rattle.answers.specs.Verdict.{Verdict}
use Rattle.answers.specs.Verdict.{◌then◌, need, kept}
use Rattle.answers.specs.Made.{Made}
use Rattle.answers.specs.Made.{answered}
use Rattle.table.specs.Columns.{tags_of}
use Rattle.table.specs.Found.{is_found}
use Rattle.table.specs.Repeat.{repeat_of}
use Rattle.entry.specs.Present.{Row}
use Rattle.book.specs.Book.{Book, judge}
use Rattle.book.specs.Read.{book_in}
use Rattle.lookup.specs.Look.{column_in}
use Rattle.lookup.specs.Named.{value_in}
use Rattle.sheet.specs.Field.{all_exported, most_chosen, sheet_of}

-- ---- the selection

-- what a row has under each of the chosen tags; `cols` are the tags of its columns
abbrev pub chosen_of : List ℕ → List ℕ → Row → Row
chosen_of cols [] es = []
chosen_of cols (t ∷ tags) es = value_in (column_in t cols) es ∷ chosen_of cols tags es

abbrev pub selected_of : List ℕ → List ℕ → List Row → List Row
selected_of cols tags [] = []
selected_of cols tags (es ∷ rows) = chosen_of cols tags es ∷ selected_of cols tags rows

-- of each address record the values under the chosen tags
abbrev pub selected : List ℕ → Book → List Row
selected tags b = selected_of (tags_of b.cols) tags b.rows

unfoldable pub sheet_in : List ℕ → List ℕ → List ℕ
sheet_in xs tags = sheet_of tags (selected tags (book_in xs))

-- ---- the refusals

-- each tag is a column's
unfoldable pub all_known : List ℕ → List ℕ → Bool
all_known cols [] = true
all_known cols (t ∷ tags) = cond (is_found (column_in t cols)) (all_known cols tags) false

-- 15 for an unknown tag, before every 18: another type, none, over 16, a tag twice
unfoldable pub choice_at : List ℕ → List ℕ → Verdict
choice_at cols tags =
    need (all_known cols tags) out_of_turn 0
    then need (all_exported tags) breaks_form 0
    then need (leb 1 (length tags)) breaks_form 0
    then need (leb (length tags) most_chosen) breaks_form 0
    then need (not (is_found (repeat_of tags))) breaks_form 0

-- the book's, then the choice's
unfoldable pub sheet_at : List ℕ → List ℕ → Verdict
sheet_at xs tags = judge xs then choice_at (tags_of (book_in xs).cols) tags

-- then room in d
unfoldable pub export_at : List ℕ → List ℕ → List ℕ → Verdict
export_at xs tags d = sheet_at xs tags then need (leb (length (sheet_in xs tags)) (length d)) no_room 0

-- ---- the calls

unfoldable pub length_answer : List ℕ → List ℕ → Made
length_answer xs tags = answered (sheet_at xs tags) (length (sheet_in xs tags))

unfoldable pub export_answer : List ℕ → List ℕ → List ℕ → Made
export_answer xs tags d = answered (export_at xs tags d) (length (sheet_in xs tags))

unfoldable pub export_octets : List ℕ → List ℕ → List ℕ → List ℕ
export_octets xs tags d = kept (export_at xs tags d) d (stored d 0 (sheet_in xs tags))
