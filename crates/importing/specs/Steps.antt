-- The call as its code goes on once the first line is read: s are the lines behind it, of these tags, and stand at
-- `width`.
use Rattle.std.specs.Prelude.{Err, Ok, ℕ, ◌+◌, ◌-◌, List, [], ◌++◌, length, replicate}
use Rattle.octets.specs.Splice.{splice, stored}
use Rattle.answers.specs.Verdict.{Verdict}
use Rattle.answers.specs.Verdict.{Refused}
use Rattle.answers.specs.Verdict.{◌then◌, kept}
use Rattle.answers.specs.Made.{Made}
use Rattle.answers.specs.Made.{answered}
use Rattle.entry.specs.Slots.{slots_from}
use Rattle.book.specs.Rows.{rows_octets}
use Rattle.book.specs.Book.{Book, book_octets, head_slots}
use Rattle.writing.specs.State.{in_progress}
use Rattle.writing.specs.declared.Writing.{Writing}
use Rattle.begin.specs.Begin.{start_size, begin_at, begin_octets, columns_from}
use Rattle.sheet.specs.Field.{most_chosen, codes_of}
use Rattle.importing.specs.Head.{offered_in, head_given}
use Rattle.importing.specs.LinesCases.{lines_given}
use Rattle.importing.specs.From.{asked_at, book_with, calls_at}
use Rattle.importing.specs.Tied.{rows_of}

unfoldable pub codes_for : List ℕ → List ℕ
codes_for tags = codes_of tags ++ replicate (most_chosen - length tags) 0

unfoldable pub rest_book : List ℕ → List ℕ → List ℕ → List ℕ → List ℕ → List ℕ → Book
rest_book tags flags ht hf hrec s = book_with tags flags ht hf hrec (rows_of (codes_of tags) s)

-- the header record as it is offered, and the calls, by the forms of its columns and the codes of the sheet's
unfoldable pub records_at : List ℕ → List ℕ → List ℕ → List ℕ → List ℕ → ℕ → ℕ → Verdict
records_at forms codes flags hrec s w n =
    offered_in (slots_from forms []) hrec
    then head_given forms w n hrec
    then lines_given codes flags (w + length hrec) n (rows_of codes s)

-- begin, the header record as it is offered, and the calls
unfoldable pub given_at : List ℕ → List ℕ → List ℕ → List ℕ → List ℕ → List ℕ → ℕ → Verdict
given_at tags flags ht hf hrec s n =
    begin_at ht hf tags flags n
    then offered_in (head_slots (columns_from ht hf)) hrec
    then calls_at (rest_book tags flags ht hf hrec s) (start_size (length ht) (length tags)) n

unfoldable pub given_answer : List ℕ → List ℕ → List ℕ → List ℕ → List ℕ → List ℕ → List ℕ → Made
given_answer tags flags ht hf hrec s d =
    answered (given_at tags flags ht hf hrec s (length d)) (length (book_octets (rest_book tags flags ht hf hrec s)))

unfoldable pub given_octets : List ℕ → List ℕ → List ℕ → List ℕ → List ℕ → List ℕ → List ℕ → List ℕ
given_octets tags flags ht hf hrec s d =
    kept (given_at tags flags ht hf hrec s (length d)) d (stored d 0 (book_octets (rest_book tags flags ht hf hrec s)))

-- what is asked of the lines comes first
abbrev pub asks_first : Verdict → Made → Made
asks_first (Ok _) m = m
asks_first (Refused r) m = Err r

unfoldable pub rest_answer : List ℕ → List ℕ → List ℕ → List ℕ → List ℕ → ℕ → List ℕ → List ℕ → Made
rest_answer tags flags ht hf hrec width s d =
    asks_first (asked_at tags flags width s) (given_answer tags flags ht hf hrec s d)

unfoldable pub rest_octets : List ℕ → List ℕ → List ℕ → List ℕ → List ℕ → ℕ → List ℕ → List ℕ → List ℕ
rest_octets tags flags ht hf hrec width s d =
    kept (asked_at tags flags width s) d (given_octets tags flags ht hf hrec s d)

-- the tables and the header record, laid down one behind the other
unfoldable pub front_put : List ℕ → List ℕ → List ℕ → List ℕ → List ℕ → List ℕ → List ℕ
front_put tags flags ht hf hrec d =
    stored (begin_octets ht hf tags flags d) (start_size (length ht) (length tags)) hrec

-- and the records behind them
unfoldable pub laid_down : List ℕ → List ℕ → List ℕ → List ℕ → List ℕ → List ℕ → List ℕ → List ℕ → List ℕ
laid_down tags codes flags ht hf hrec s d =
    splice (front_put tags flags ht hf hrec d) (start_size (length ht) (length tags) + length hrec)
    (rows_octets (rows_of codes s))

-- a writing whose records are all closed
abbrev pub closed_by : ℕ → ℕ → ℕ → ℕ → Writing
closed_by w h a k = record {
  written = w;
  header = h;
  address = a;
  opened = k;
  start = 0;
  next = 0;
  left = 0;
  form = 0;
  stage = in_progress;
}
