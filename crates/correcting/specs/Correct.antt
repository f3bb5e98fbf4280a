-- Correcting a book where it stands (document 01, "Correcting a book"; decisions 18 to 23): the verdict of each call in the published order (15 for the stated
-- length, the book's own, then 15, 18, 16, 17), its answer, and every octet of the buffer. A book of len octets stands at the front of the buffer d.
use Rattle.std.specs.Prelude.{ℕ, Bool, true, false, not, List, [], eqb, ltb, leb, length, get_or, take, drop}
use Rattle.std.proofs.Math.Option.{Option, none, some}
use Rattle.octets.specs.Word.{word_of}
use Rattle.answers.specs.Numbers.{out_of_turn, breaks_rule, no_room, breaks_form, most_octets, most_records}
use Rattle.answers.specs.Made.{Made}
use Rattle.answers.specs.Verdict.{Verdict}
use Rattle.answers.specs.Made.{answered}
use Rattle.answers.specs.Verdict.{◌then◌, need, kept}
use Rattle.answers.specs.Walk.{ends_at}
use Rattle.value.specs.Value.{value_of}
use Rattle.table.specs.Columns.{tags_of}
use Rattle.table.specs.Found.{Found}
use Rattle.table.specs.Found.{is_found, column_of}
use Rattle.entry.specs.Record.{Slot, is_clear, record_at, keys_at, freed, present_in, no_slot}
use Rattle.book.specs.Book.{row_slots, heads_in, cols_in, count_in, judge}
use Rattle.lookup.specs.Named.{has_record}
use Rattle.lookup.specs.Look.{column_in}
use Rattle.lookup.specs.declared.Which.{Which}
use Rattle.lookup.specs.declared.Which.TheVariants.{Header, Number}
use Rattle.editing.specs.Put.{buffer_of, corrected_of, slots_for, set_in}

-- ---- what every call asks first and last

-- a book stands there, and is judged good
unfoldable pub book_at : List ℕ → ℕ → Verdict
book_at d len = need (leb len (length d)) out_of_turn 0 then judge (take len d)

-- a book of n octets: the limit, then the buffer
unfoldable pub room_for : ℕ → List ℕ → Verdict
room_for n d =
    need (leb n most_octets) breaks_rule 0
    then need (leb n (length d)) no_room 0

-- ---- set and clear: what is offered for the column is a value, or nothing

-- one value of the column's form, to its last octet
abbrev pub fits : Option (List ℕ) → Slot → Bool
fits none s = true
fits (some v) s = ends_at (value_of s.form v) (length v)

-- a key is to be cleared
abbrev pub losing : Option (List ℕ) → Slot → Bool
losing none s = s.must
losing (some v) s = false

-- the column with a whole tag, in the table of the named record
abbrev pub column_for : List ℕ → Which → ℕ → Found
column_for xs Header t = column_in t (tags_of (heads_in (drop 12 xs)))
column_for xs (Number k) t = column_in t (tags_of (cols_in (drop 12 xs)))

abbrev pub slot_for : List ℕ → Which → ℕ → Slot
slot_for xs which c = get_or (slots_for xs which) c no_slot

-- xs is the book, c the column
unfoldable pub entry_at : List ℕ → List ℕ → Which → ℕ → Option (List ℕ) → Verdict
entry_at d xs which c e =
    need (fits e (slot_for xs which c)) breaks_form 0
    then need (not (losing e (slot_for xs which c))) breaks_rule 0
    then room_for (length (set_in xs which c e)) d

unfoldable pub set_at : List ℕ → ℕ → Which → ℕ → Option (List ℕ) → Verdict
set_at d len which t e =
    book_at d len
    then need (has_record (take len d) which) out_of_turn 0
    then need (is_found (column_for (take len d) which t)) out_of_turn 0
    then entry_at d (take len d) which (column_of (column_for (take len d) which t)) e

-- the corrected book
unfoldable pub set_book : List ℕ → ℕ → Which → ℕ → Option (List ℕ) → List ℕ
set_book d len which t e = set_in (take len d) which (column_of (column_for (take len d) which t)) e

unfoldable pub set_answer : List ℕ → ℕ → Which → ℕ → Option (List ℕ) → Made
set_answer d len which t e = answered (set_at d len which t e) (length (set_book d len which t e))

unfoldable pub set_octets : List ℕ → ℕ → Which → ℕ → Option (List ℕ) → List ℕ
set_octets d len which t e = kept (set_at d len which t e) d (buffer_of d len (set_book d len which t e))

-- ---- insert a record before record k

-- one record to its last octet, keys aside; then its keys
unfoldable pub offered_at : List Slot → List ℕ → Verdict
offered_at ss new =
    need (is_clear (record_at (freed ss) 0 new)) breaks_form 0
    then need (eqb (word_of 4 new) (length new)) breaks_form 0
    then need (is_clear (keys_at ss 0 (present_in (length ss) new) 4)) breaks_rule 0

unfoldable pub insert_book : List ℕ → ℕ → ℕ → List ℕ → List ℕ
insert_book d len k new = corrected_of k 0 1 new (take len d)

unfoldable pub insert_at : List ℕ → ℕ → ℕ → List ℕ → Verdict
insert_at d len k new =
    book_at d len
    then need (leb k (count_in (take len d))) out_of_turn 0
    then offered_at (row_slots (cols_in (drop 12 (take len d)))) new
    then need (ltb (count_in (take len d)) most_records) breaks_rule 0
    then room_for (length (insert_book d len k new)) d

unfoldable pub insert_answer : List ℕ → ℕ → ℕ → List ℕ → Made
insert_answer d len k new = answered (insert_at d len k new) (length (insert_book d len k new))

unfoldable pub insert_octets : List ℕ → ℕ → ℕ → List ℕ → List ℕ
insert_octets d len k new = kept (insert_at d len k new) d (buffer_of d len (insert_book d len k new))

-- ---- delete record k

unfoldable pub delete_book : List ℕ → ℕ → ℕ → List ℕ
delete_book d len k = corrected_of k 1 0 [] (take len d)

-- a book that is judged good and gets shorter has room: nothing more to ask
unfoldable pub delete_at : List ℕ → ℕ → ℕ → Verdict
delete_at d len k =
    book_at d len
    then need (ltb k (count_in (take len d))) out_of_turn 0
    then need (ltb 1 (count_in (take len d))) breaks_rule 0

unfoldable pub delete_answer : List ℕ → ℕ → ℕ → Made
delete_answer d len k = answered (delete_at d len k) (length (delete_book d len k))

unfoldable pub delete_octets : List ℕ → ℕ → ℕ → List ℕ
delete_octets d len k = kept (delete_at d len k) d (buffer_of d len (delete_book d len k))
