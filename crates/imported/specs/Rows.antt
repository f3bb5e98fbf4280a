-- The header record and a record for each row by the writer's calls, in one buffer, and the finish: the first refusal
-- is what the table alone says, and where there is none the buffer has the book in front.
use Prim.Native.Nat.{ℕ, zero, suc, ◌+◌, ◌≤◌}
use Rattle.std.proofs.Common.{arith, subst, ◌∙◌}
use Rattle.std.specs.Prelude.{◌≡◌, refl, Bool, not, cond, eqb}
use Rattle.std.proofs.Math.Path.{sym, ap}
use mathlib.Core.List.{List, [], ◌∷◌, ◌++◌, append_assoc, append-nil}
use Rattle.std.proofs.Math.ListN.{length, length-append}
use borrow.Author.Tests.{ne_eqb}
use Rattle.octets.specs.Splice.{stored}
use Rattle.answers.specs.Numbers.{breaks_rule}
use Rattle.answers.specs.Verdict.{Verdict}
use Rattle.answers.specs.Verdict.{clear}
use Rattle.answers.specs.Verdict.{◌then◌, need, apart, then-assoc, joins}
use Rattle.table.specs.Table.{Column}
use Rattle.table.specs.Columns.{tags_of}
use Rattle.entry.specs.Present.{Row}
use Rattle.entry.specs.Record.{Slot, SoundRow, freed, row_octets}
use Rattle.book.specs.Book.{Book, head_slots, row_slots, book_octets}
use Rattle.writing.specs.declared.Writing.{Writing}
use Rattle.framing.specs.Frame.{finish_at}
use Rattle.drafting.specs.Lists.{stored-behind}
use Rattle.drafting.specs.Draft.{closed_octets, Between}
use Rattle.drafting.specs.Turns.{between-idle}
use Rattle.drafting.specs.Keeps.{heads-free, rows_snoc}
use Rattle.drafting.specs.Finish.{finish-is}
use Rattle.drafting.specs.Run.{Call}
use Rattle.drafting.specs.Written.{Stand}
use Rattle.drafting.specs.Again.{record_calls}
use Rattle.importing.specs.Given.{record_given, rows_given}
use Rattle.importing.specs.From.{calls_at}
use Rattle.importing.specs.Fitting.{FreeRows}
use Rattle.imported.specs.Calls.{calls_verdict, calls_leave, written_verdict, written_octets}
use Rattle.imported.specs.Calls.{Answers, answers-append}
use Rattle.imported.specs.Record.{Closed, record-answers}

-- ---- the rows

-- the calls that give them, keys aside: a key that is absent is refused where its record is closed
unfoldable pub free_calls : (cs : List Column) (rs : List Row) → FreeRows (row_slots cs) rs → List Call
free_calls cs [] h = []
free_calls cs (r ∷ rs) h = record_calls (freed (row_slots cs)) (tags_of cs) r h.0 ++ free_calls cs rs h.1

module _ (d₀ : List ℕ) (hs cs : List Column) where
  written-more : (done : List Row) (r : Row) (s t : Stand) → Closed d₀ hs cs done s
      → Closed d₀ hs cs (done ++ (r ∷ [])) t → t.state.written ≡ s.state.written + length (row_octets r)
  written-more done r s t i j =
      j.front.length-is ∙ ap length (rows_snoc hs cs done r)
      ∙ length-append (closed_octets hs cs done) (row_octets r)
      ∙ ap (λ (n : ℕ). n + length (row_octets r)) (sym i.front.length-is)

  -- a record behind the header record
  row-answers : (done : List Row) (s : Stand) → Closed d₀ hs cs done s → 1 ≤ length done
      → (es : Row) (h : SoundRow (freed (row_slots cs)) es)
      → Answers (record_calls (freed (row_slots cs)) (tags_of cs) es h)
      (record_given (row_slots cs) s.state.written (length d₀) (length done) es)
      (Closed d₀ hs cs (done ++ (es ∷ []))) s
  row-answers done s i n es h =
      subst (λ (x : Bool). (h : SoundRow (freed (cond x (head_slots hs) (row_slots cs))) es)
      → Answers (record_calls (freed (cond x (head_slots hs) (row_slots cs))) (tags_of (cond x hs cs)) es h)
      (record_given (cond x (head_slots hs) (row_slots cs)) s.state.written (length d₀) (length done) es)
      (Closed d₀ hs cs (done ++ (es ∷ []))) s)
      (ne_eqb (length done + 1) 1 (λ e. omega arith)) (λ h. record-answers d₀ hs cs done s i es h) h

  rows-answer : (rs done : List Row) (s : Stand) → Closed d₀ hs cs done s → 1 ≤ length done
      → (h : FreeRows (row_slots cs) rs)
      → Answers (free_calls cs rs h) (rows_given (row_slots cs) s.state.written (length d₀) (length done) rs)
      (Closed d₀ hs cs (done ++ rs)) s
  unfolding free_calls rows_given
  rows-answer [] done s i n h = record { verdict = refl; leaves = λ e. rw (append-nil done) i }
  rows-answer (r ∷ rs) done s i n h =
      let ss : List Slot = row_slots cs in
      let w : ℕ = s.state.written in
      let l : length (done ++ (r ∷ [])) ≡ length done + 1 = length-append done (r ∷ []) in
      rw (← append_assoc done (r ∷ []) rs)
      (answers-append (record_calls (freed ss) (tags_of cs) r h.0) (free_calls cs rs h.1)
      (record_given ss w (length d₀) (length done) r)
      (rows_given ss (w + length (row_octets r)) (length d₀) (length done + 1) rs)
      (Closed d₀ hs cs (done ++ (r ∷ []))) (Closed d₀ hs cs ((done ++ (r ∷ [])) ++ rs)) s
      (row-answers done s i n r h.0)
      (λ t j. rw (← written-more done r s t i j, ← l) (rows-answer rs (done ++ (r ∷ [])) t j (omega arith) h.1)))

  -- ---- the header record, and the rows behind it

  head-answers : (s : Stand) → Closed d₀ hs cs [] s → (es : Row) (h : SoundRow (head_slots hs) es)
      → Answers (record_calls (head_slots hs) (tags_of hs) es h)
      (record_given (head_slots hs) s.state.written (length d₀) 0 es) (Closed d₀ hs cs (es ∷ [])) s
  head-answers s i es h =
      subst (λ (us : List Slot). (h : SoundRow us es)
      → Answers (record_calls us (tags_of hs) es h)
      (record_given (head_slots hs) s.state.written (length d₀) 0 es) (Closed d₀ hs cs (es ∷ [])) s)
      (heads-free hs) (λ h. record-answers d₀ hs cs [] s i es h) h

  one_more_lem : (n : ℕ) → eqb (suc n) 1 ≡ eqb n 0
  one_more_lem zero = refl
  one_more_lem (suc n) = ne_eqb (suc (suc n)) 1 (λ e. omega arith) ∙ sym (ne_eqb (suc n) 0 (λ e. omega arith))

  finish-verdict : (st : Writing) (d : List ℕ) (r : Row) (rs : List Row) → Between st d d₀ hs cs (r ∷ rs)
      → finish_at st (length d) ≡ need (not (eqb (length rs) 0)) breaks_rule 0
  unfolding finish_at
  finish-verdict st d r rs i = rw (
    between-idle st d d₀ hs cs (r ∷ rs) i,
    i.opened,
    ne_eqb (suc (length rs)) 0 (λ e. omega arith),
    one_more_lem (length rs),
  )

-- the calls between begin and finish that give a book's table, keys aside
unfoldable pub book_calls : (b : Book) → SoundRow (head_slots b.heads) b.head
    → FreeRows (row_slots b.cols) b.rows → List Call
book_calls b h r =
    record_calls (head_slots b.heads) (tags_of b.heads) b.head h ++ free_calls b.cols b.rows r

module _ (b : Book) (h : SoundRow (head_slots b.heads) b.head) (r : FreeRows (row_slots b.cols) b.rows)
    (d : List ℕ) (s : Stand) (i : Between s.state s.octets d b.heads b.cols []) where
  abbrev w : ℕ
  w = s.state.written

  abbrev n : ℕ
  n = length d

  abbrev head : Verdict
  head = record_given (head_slots b.heads) w n 0 b.head

  abbrev rows : Verdict
  rows = rows_given (row_slots b.cols) (w + length (row_octets b.head)) n 1 b.rows

  abbrev some : Verdict
  some = need (not (eqb (length b.rows) 0)) breaks_rule 0

  abbrev end : Stand
  end = calls_leave (book_calls b h r) s

  book-answers : Answers (book_calls b h r) (head then rows) (Closed d b.heads b.cols (b.head ∷ b.rows)) s
  unfolding book_calls
  book-answers =
      answers-append (record_calls (head_slots b.heads) (tags_of b.heads) b.head h)
      (free_calls b.cols b.rows r) head rows (Closed d b.heads b.cols (b.head ∷ []))
      (Closed d b.heads b.cols (b.head ∷ b.rows)) s (head-answers d b.heads b.cols s i b.head h)
      (λ t j. rw (← written-more d b.heads b.cols [] b.head s t i j)
      (rows-answer d b.heads b.cols b.rows (b.head ∷ []) t j (omega arith) r))

  -- what is asked by the table is what the writer's calls answer
  pub calls-given : written_verdict (book_calls b h r) s ≡ calls_at b s.state.written (length d)
  unfolding calls_at
  calls-given =
      let a = book-answers in
      ap (λ (v : Verdict). v then finish_at end.state (length end.octets)) a.verdict
      ∙ joins (head then rows) (finish_at end.state (length end.octets)) some
      (λ q. finish-verdict d b.heads b.cols end.state end.octets b.head b.rows (a.leaves q))
      ∙ sym (then-assoc head rows some)

  -- and where nothing is refused they leave the book
  pub calls-write : written_verdict (book_calls b h r) s ≡ clear
      → written_octets (book_calls b h r) s ≡ stored d 0 (book_octets b)
  calls-write e =
      let c = apart (calls_verdict (book_calls b h r) s) _ e in
      let j = book-answers.leaves (sym book-answers.verdict ∙ c.0) in
      let f = finish-is end.state end.octets d b.heads b.cols (b.head ∷ b.rows) j c.1 in
      let l : length (book_octets b) ≤ length d = f.room in
      f.octets ∙ sym (stored-behind [] (book_octets b) d 0 refl (omega arith))
