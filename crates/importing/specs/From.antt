-- A book from a sheet, a list of column flags and a header record with its table (request 106, reading 27), said of the
-- table that these hold: what is refused and in which order, the answer and the octets.
use Rattle.std.specs.Prelude.{ℕ, ◌+◌, not, List, [], eqb, length, drop}
use Rattle.octets.specs.Splice.{stored}
use Rattle.answers.specs.Numbers.{out_of_turn, breaks_rule, breaks_form, wrong_sheet}
use Rattle.answers.specs.Verdict.{Verdict}
use Rattle.answers.specs.Verdict.{clear}
use Rattle.answers.specs.Verdict.{refused, ◌then◌, need, kept}
use Rattle.answers.specs.Walk.{Walk}
use Rattle.answers.specs.Walk.{Ends, Broken}
use Rattle.answers.specs.Made.{Made}
use Rattle.answers.specs.Made.{answered}
use Rattle.entry.specs.Present.{Row}
use Rattle.entry.specs.Record.{row_octets}
use Rattle.entry.specs.Read.{row_in}
use Rattle.book.specs.Book.{Book, book_octets, head_slots, row_slots}
use Rattle.begin.specs.Begin.{start_size, begin_at, columns_from}
use Rattle.sheet.specs.Field.{all_exported, codes_of}
use Rattle.sheet.specs.Reading.{rows_in}
use Rattle.scanning.specs.Scan.{fits, held, scan_in}
use Rattle.scanning.specs.First.{Headed, tags_to, fault, head_in}
use Rattle.importing.specs.Given.{record_given, rows_given}
use Rattle.importing.specs.Head.{offered_in}

-- ---- the text

abbrev pub first_at : Headed → Verdict
first_at (tags_to tags w) = clear
first_at (fault p) = refused wrong_sheet p

abbrev pub tags_by : Headed → List ℕ
tags_by (tags_to tags w) = tags
tags_by (fault p) = []

abbrev pub width_by : Headed → ℕ
width_by (tags_to tags w) = w
width_by (fault p) = 0

-- the tags of the first line, and the lines behind it
abbrev pub tags_in : List ℕ → List ℕ
tags_in text = tags_by (head_in text)

abbrev pub lines_behind : List ℕ → List ℕ
lines_behind text = drop (width_by (head_in text)) text

-- lines that stand at w
abbrev pub lines_at : ℕ → Walk → Verdict
lines_at w (Ends n) = clear
lines_at w (Broken p) = refused wrong_sheet (w + p)

-- 15 where flags and tags differ in number, 18 for a type that isn't exported, 20 for the lines
unfoldable pub asked_at : List ℕ → List ℕ → ℕ → List ℕ → Verdict
asked_at tags flags w lines =
    need (eqb (length flags) (length tags)) out_of_turn 0
    then need (all_exported tags) breaks_form 0
    then lines_at w (scan_in (held fits) (codes_of tags) lines)

-- ---- the book

-- its address columns are the sheet's, its records the lines' rows
unfoldable pub book_with : List ℕ → List ℕ → List ℕ → List ℕ → List ℕ → List Row → Book
book_with tags flags ht hf hrec rows = record {
  heads = columns_from ht hf;
  cols = columns_from tags flags;
  head = row_in (head_slots (columns_from ht hf)) hrec;
  rows = rows;
}

abbrev pub book_for : List ℕ → List ℕ → List ℕ → List ℕ → List ℕ → Book
book_for text flags ht hf hrec = book_with (tags_in text) flags ht hf hrec (rows_in (tags_in text) text)

-- what the writer's calls answer behind begin: the header record, a record a row, the finish
unfoldable pub calls_at : Book → ℕ → ℕ → Verdict
calls_at b w n =
    record_given (head_slots b.heads) w n 0 b.head
    then rows_given (row_slots b.cols) (w + length (row_octets b.head)) n 1 b.rows
    then need (not (eqb (length b.rows) 0)) breaks_rule 0

-- ---- the call

unfoldable pub from_at : List ℕ → List ℕ → List ℕ → List ℕ → List ℕ → ℕ → Verdict
from_at text flags ht hf hrec n =
    first_at (head_in text)
    then asked_at (tags_in text) flags (width_by (head_in text)) (lines_behind text)
    then begin_at ht hf (tags_in text) flags n
    then offered_in (head_slots (columns_from ht hf)) hrec
    then calls_at (book_for text flags ht hf hrec) (start_size (length ht) (length (tags_in text))) n

unfoldable pub from_answer : List ℕ → List ℕ → List ℕ → List ℕ → List ℕ → List ℕ → Made
from_answer text flags ht hf hrec d =
    answered (from_at text flags ht hf hrec (length d)) (length (book_octets (book_for text flags ht hf hrec)))

unfoldable pub from_octets : List ℕ → List ℕ → List ℕ → List ℕ → List ℕ → List ℕ → List ℕ
from_octets text flags ht hf hrec d =
    kept (from_at text flags ht hf hrec (length d)) d (stored d 0 (book_octets (book_for text flags ht hf hrec)))
