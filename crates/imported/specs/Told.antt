-- A book from a sheet is the book that the writer's own calls give (request 106): where text, flags, tables and header
-- record are taken, the call answers the first refusal of those calls, and leaves what they leave.
use Rattle.std.specs.Prelude.{ℕ, ◌≡◌, List, length}
use Rattle.answers.specs.Verdict.{clear}
use Rattle.entry.specs.Record.{SoundRow}
use Rattle.book.specs.Book.{Book, head_slots, row_slots}
use Rattle.drafting.specs.Written.{begun}
use Rattle.importing.specs.From.{tags_in, book_for}
use Rattle.importing.specs.From.{from_at, from_octets}
use Rattle.importing.specs.Fitting.{FreeRows}
use Rattle.imported.specs.Calls.{written_verdict, written_octets}
use Rattle.imported.specs.Rows.{book_calls}

module _ (text flags ht hf hrec d : List ℕ) where
  abbrev book : Book
  book = book_for text flags ht hf hrec

  -- the header record and a record a line may be given by calls; what these and the finish answer and leave, from begin
  -- on, is what the call answers and leaves
  pub record ByCalls : Type 0 where
    pub head : SoundRow (head_slots book.heads) book.head
    pub rows : FreeRows (row_slots book.cols) book.rows
    pub verdict : from_at text flags ht hf hrec (length d)
        ≡ written_verdict (book_calls book head rows) (begun ht hf (tags_in text) flags d)
    pub octets : from_at text flags ht hf hrec (length d) ≡ clear
        → from_octets text flags ht hf hrec d
        ≡ written_octets (book_calls book head rows) (begun ht hf (tags_in text) flags d)
