-- A saved index of a book (requests 103 and 111, readings 25 and 32): its header, then the start of each address
-- record. How it is made from a book, how either kind is read beside octets of any sort, and the lookup through it.
use Rattle.std.specs.Prelude.{Ok, ℕ, zero, suc, ◌+◌, ◌*◌, cond, List, [], ◌∷◌, ◌++◌, eqb, ltb, leb, length, drop}
use Rattle.octets.specs.Splice.{stored}
use Rattle.octets.specs.Word.{le_of, word_of}
use Rattle.serial.specs.Serial.{serial_of}
use Rattle.answers.specs.Numbers.{out_of_turn, no_room, wrong_index}
use Rattle.answers.specs.Verdict.{Verdict}
use Rattle.answers.specs.Verdict.{◌then◌, need, kept}
use Rattle.answers.specs.Made.{Made}
use Rattle.answers.specs.Made.{answered}
use Rattle.table.specs.Columns.{tags_of}
use Rattle.entry.specs.Record.{Slot, record_at}
use Rattle.book.specs.Book.{Book, row_slots, body_octets, book_octets, cols_in, count_in, judge}
use Rattle.book.specs.Read.{book_in}
use Rattle.book.specs.Front.{through_tables}
use Rattle.lookup.specs.Places.{place_of}
use Rattle.lookup.specs.Look.{seek_in, column_in, in_column, look_by}
use Rattle.lookup.specs.Placed.{place_by}
use Rattle.lookup.specs.Looked.{Looked}
use Rattle.lookup.specs.Looked.{Placed}

-- ---- what an index is

-- where the starts begin in an index, and how many octets each takes
abbrev pub starts_offset : ℕ
starts_offset = 20

abbrev pub entry_width : ℕ
entry_width = 4

-- the same in an old index (request 103), and the longest book that one is for
abbrev pub old_offset : ℕ
old_offset = 16

abbrev pub old_width : ℕ
old_width = 3

abbrev pub old_most : ℕ
old_most = 16777216

-- record count, book length, serial, offset of the starts
unfoldable pub fields_of : ℕ → ℕ → ℕ → ℕ → List ℕ
fields_of n l s offset = le_of 4 n ++ (le_of 4 l ++ (le_of 4 s ++ le_of 4 offset))

-- starts in w octets each
abbrev pub entries_of : ℕ → List ℕ → List ℕ
entries_of w [] = []
entries_of w (p ∷ ps) = le_of w p ++ entries_of w ps

-- p 0, p 1 and so on, n of them
abbrev pub listed : ℕ → (ℕ → ℕ) → List ℕ
listed zero p = []
listed (suc n) p = p 0 ∷ listed n (λ k. p (suc k))

-- where each address record starts
unfoldable pub starts_of : Book → List ℕ
starts_of b = listed (length b.rows) (place_of b)

-- an index whose starts begin at `offset` and take w octets each, with `more` behind the first four fields
unfoldable pub index_by : ℕ → ℕ → List ℕ → Book → List ℕ
index_by offset w more b =
    (fields_of (length b.rows) (length (book_octets b)) (serial_of (body_octets b)) offset ++ more)
    ++ entries_of w (starts_of b)

-- the index of a book: its fifth field is the width of an entry
abbrev pub index_of : Book → List ℕ
index_of b = index_by starts_offset entry_width (le_of 4 entry_width) b

-- an old one, as it was made before request 111
abbrev pub old_index_of : Book → List ℕ
old_index_of b = index_by old_offset old_width [] b

-- ---- the maker: the book's refusals, then room

unfoldable pub make_at : List ℕ → List ℕ → Verdict
make_at xs d = judge xs then need (leb (length (index_of (book_in xs))) (length d)) no_room 0

unfoldable pub make_answer : List ℕ → List ℕ → Made
make_answer xs d = answered (make_at xs d) (length (index_of (book_in xs)))

unfoldable pub make_octets : List ℕ → List ℕ → List ℕ
make_octets xs d = kept (make_at xs d) d (stored d 0 (index_of (book_in xs)))

-- ---- the reader: ix is lent as the index of the book in xs

-- the serial as it stands in the book
abbrev pub serial_in : List ℕ → ℕ
serial_in xs = word_of 4 (drop 4 xs)

-- the offset of the starts, as it stands in an index
abbrev pub offset_in : List ℕ → ℕ
offset_in ix = word_of 4 (drop 12 ix)

-- how many octets an entry takes: an old index is told by its offset
abbrev pub width_by : ℕ → ℕ
width_by offset = cond (eqb offset old_offset) old_width entry_width

-- an old index, beside a book that it is for, or a new one with its width
unfoldable pub kind_at : List ℕ → List ℕ → Verdict
kind_at xs ix =
    cond (eqb (offset_in ix) old_offset)
    (need (leb (length xs) old_most) wrong_index 0)
    (need (eqb (offset_in ix) starts_offset) wrong_index 0
    then need (eqb (word_of 4 (drop 16 ix)) entry_width) wrong_index 0)

-- its kind, then count, length, serial and its own size beside the book
unfoldable pub index_at : List ℕ → List ℕ → Verdict
index_at xs ix =
    kind_at xs ix
    then need (eqb (word_of 4 ix) (count_in xs)) wrong_index 0
    then need (eqb (word_of 4 (drop 4 ix)) (length xs)) wrong_index 0
    then need (eqb (word_of 4 (drop 8 ix)) (serial_in xs)) wrong_index 0
    then need (eqb (length ix) (offset_in ix + width_by (offset_in ix) * count_in xs)) wrong_index 0

-- the entry of record k in an index with this offset and this width
unfoldable pub start_at : ℕ → ℕ → ℕ → List ℕ → ℕ
start_at offset w k ix = word_of w (drop (offset + w * k) ix)

abbrev pub start_of : List ℕ → ℕ → ℕ
start_of ix k = start_at (offset_in ix) (width_by (offset_in ix)) k ix

-- the table refusals, the index, the record's number
unfoldable pub pair_at : List ℕ → List ℕ → ℕ → Verdict
pair_at xs ix k =
    through_tables xs
    then index_at xs ix
    then need (ltb k (count_in xs)) out_of_turn 0

-- an entry that stands in the book
abbrev pub entry_in : List ℕ → ℕ → Verdict
entry_in xs at = need (ltb at (length xs)) wrong_index 0

unfoldable pub entry_of : List ℕ → List ℕ → ℕ → Placed
entry_of xs ix k = place_by (pair_at xs ix k then entry_in xs (start_of ix k)) (Ok (start_of ix k))

-- ---- the lookup through an index

-- column c of the record that starts at `at`: the entry, then the record's own refusals, then the value
unfoldable pub record_look : List Slot → List ℕ → ℕ → ℕ → Looked
record_look ss xs at c = look_by (entry_in xs at then record_at ss at (drop at xs)) (seek_in ss c at (drop at xs))

unfoldable pub indexed_of : List ℕ → List ℕ → ℕ → ℕ → Looked
indexed_of xs ix k t =
    look_by (pair_at xs ix k)
    (in_column (column_in t (tags_of (cols_in (drop 12 xs))))
    (λ c. record_look (row_slots (cols_in (drop 12 xs))) xs (start_of ix k) c))
