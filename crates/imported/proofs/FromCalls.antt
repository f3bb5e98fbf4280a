-- What a book from a sheet has of the writer's own calls: the theorem of `ByCalls`.
use Rattle.std.specs.Prelude.{ℕ, ◌≡◌, refl, List, [], ◌∷◌, length}
use Rattle.std.proofs.Common.{sym, ◌∙◌}
use Rattle.octets.specs.Octets.{Octets, octets-drop}
use Rattle.answers.specs.Verdict.{clear}
use Rattle.answers.specs.Verdict.{no-clear}
use Rattle.entry.specs.Record.{SoundRow}
use Rattle.book.specs.Book.{Book, head_slots, row_slots}
use Rattle.begin.specs.Begin.{begin_at, columns_from}
use Rattle.begin.specs.Taken.{Tags}
use Rattle.sheet.specs.Field.{codes_of}
use Rattle.sheet.specs.Reading.{lines_in, rows_from}
use Rattle.scanning.specs.First.{Words, Headed, tags_to, fault, head_in}
use Rattle.scanning.specs.FirstSound.{head_small}
use Rattle.drafting.specs.Draft.{Between}
use Rattle.drafting.specs.Finish.{begin-keeps}
use Rattle.drafting.specs.Written.{Stand, begun}
use Rattle.importing.specs.Head.{offered_in}
use Rattle.importing.specs.From.{first_at, tags_by, width_by, tags_in, lines_behind, asked_at, book_with, book_for}
use Rattle.importing.specs.From.{from_at, from_octets}
use Rattle.importing.specs.Fitting.{FreeRows}
use Rattle.importing.specs.Tied.{rows_of, rows_behind}
use Rattle.importing.specs.Wrote.{row-slots, free-rows, lines-sound, offered-is}
use Rattle.importing.specs.Cases.{asked_is}
use Rattle.imported.specs.Calls.{written_verdict}
use Rattle.imported.specs.Rows.{book_calls, calls-given, calls-write}
use Rattle.imported.specs.Told.{ByCalls}

first-is : (x : Headed) → first_at x ≡ clear → x ≡ tags_to (tags_by x) (width_by x)
first-is (tags_to tags w) e = refl
first-is (fault p) e = no-clear e

words-tags : (ts : List ℕ) → Words ts → Tags ts
words-tags [] h = tt
words-tags (t ∷ ts) h = (h.0, words-tags ts h.1)

-- the rows of lines that are taken have values of their columns, keys aside
asked-rows : (tags flags : List ℕ) (w : ℕ) (lines : List ℕ) → Octets lines → asked_at tags flags w lines ≡ clear
    → FreeRows (row_slots (columns_from tags flags)) (rows_from (codes_of tags) (lines_in lines))
unfolding rows_of
asked-rows tags flags w lines o e =
    let a = asked_is tags flags w lines e in
    rw (row-slots tags flags a.many)
    (free-rows (codes_of tags) flags (rows_of (codes_of tags) lines)
    (lines-sound (codes_of tags) lines a.taken a.types o))

module _ (text flags ht hf hrec d : List ℕ) where
  abbrev book : Book
  book = book_for text flags ht hf hrec

  module _ (ot : Octets text) (oh : Octets hrec) (th : Tags ht)
      (first : first_at (head_in text) ≡ clear)
      (asked : asked_at (tags_in text) flags (width_by (head_in text)) (lines_behind text) ≡ clear)
      (begins : begin_at ht hf (tags_in text) flags (length d) ≡ clear)
      (offered : offered_in (head_slots (columns_from ht hf)) hrec ≡ clear) where
    abbrev s : Stand
    s = begun ht hf (tags_in text) flags d

    line : head_in text ≡ tags_to (tags_in text) (width_by (head_in text))
    line = first-is (head_in text) first

    head-sound : SoundRow (head_slots book.heads) book.head
    unfolding book_with
    head-sound = (offered-is (head_slots (columns_from ht hf)) hrec oh offered).sound

    rows-free : FreeRows (row_slots book.cols) book.rows
    unfolding book_with
    rows-free =
        rw (rows_behind text (tags_in text) (width_by (head_in text)) line)
        (asked-rows (tags_in text) flags (width_by (head_in text)) (lines_behind text)
        (octets-drop (width_by (head_in text)) text ot) asked)

    begun-is : Between s.state s.octets d book.heads book.cols []
    unfolding book_with
    begun-is =
        begin-keeps ht hf (tags_in text) flags d th
        (words-tags (tags_in text) (head_small text (tags_in text) (width_by (head_in text)) line).0) begins

    given : from_at text flags ht hf hrec (length d) ≡ written_verdict (book_calls book head-sound rows-free) s
    unfolding from_at
    given = rw (first, asked, begins, offered) (sym (calls-given book head-sound rows-free d s begun-is))

    pub from-calls : ByCalls text flags ht hf hrec d
    unfolding from_octets
    from-calls =
        record {
          head = head-sound;
          rows = rows-free;
          verdict = given;
          octets = λ e. rw e (sym (calls-write book head-sound rows-free d s begun-is (sym given ∙ e)));
        }
