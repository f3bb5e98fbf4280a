-- A book comes back from its own sheet: one that has just the sheet's columns in that order, zero unused flag bits and
-- only types that can be exported is made again, octet by octet, of the sheet and its own flags, header table and
-- header record.
use Rattle.std.specs.Prelude.{Ok, ℕ, suc, ◌+◌, ◌^◌, ◌≤◌, ◌<◌, ◌≡◌, refl, true, drop, get_or}
use Rattle.std.proofs.Common.{arith, add-zero, ap, ap₂, subst, ◌∙◌, drop_of_length-le, drop-cons}
use Rattle.std.proofs.Math.Path.{sym}
use Rattle.std.proofs.Math.Option.{Option, none}
use mathlib.Core.List.{List, [], ◌∷◌, append-nil}
use Rattle.std.proofs.Math.ListN.{length}
use Rattle.std.proofs.Math.Seq.{drop-append_seam}
use borrow.Author.Tests.{eq-eqb}
use Rattle.octets.specs.Octets.{Octets}
use Rattle.octets.specs.Splice.{stored}
use Rattle.answers.specs.Verdict.{clear}
use Rattle.table.specs.Table.{Column, SoundColumns, SoundTable}
use Rattle.table.specs.Columns.{tags_of, tags-long}
use Rattle.table.specs.Found.{At}
use Rattle.entry.specs.Present.{Row}
use Rattle.entry.specs.Record.{Slot, SoundRow, record-back, row_octets, row-long, row-size}
use Rattle.entry.specs.Read.{row_in, row-in}
use Rattle.book.specs.Rows.{SoundRows}
use Rattle.book.specs.Book.{Book, Sound, book_octets, head_slots, row_slots, slots-long, judge}
use Rattle.book.specs.Whole as whole
use Rattle.book.specs.Read.{book_in, book-reads}
use Rattle.lookup.specs.Look.{column_in}
use Rattle.lookup.specs.Search.{only-column}
use Rattle.sheet.specs.Field.{all_exported, codes_of, most_chosen, line_of, lines_of, tag_fields, sheet_of}
use Rattle.sheet.specs.Reading.{rows_in}
use Rattle.sheet.specs.Back.{held_by}
use Rattle.sheet.specs.One.{Exported, SoundChoice}
use Rattle.sheet.proofs.ValuesBack.{sheet-back}
use Rattle.exporting.specs.Export.{chosen_of, selected_of, selected, sheet_in}
use Rattle.exporting.proofs.Told.{selected-sound}
use Rattle.scanning.specs.Scan.{fits}
use Rattle.scanning.specs.Exact.{text-taken}
use Rattle.scanning.specs.Taken.{lines-taken}
use Rattle.scanning.specs.First.{Words, tags_to, head_in}
use Rattle.scanning.specs.FirstTaken.{head-back}
use Rattle.begin.specs.Begin.{begin_at, columns_from}
use Rattle.begin.specs.Taken.{flags_of, flags_long, from-plain, begin-taken}
use Rattle.drafting.specs.Again.{Unused, same-book}
use Rattle.importing.specs.Head.{offered_in}
use Rattle.importing.specs.From.{asked_at, book_with, from_at, from_answer, from_octets}
use Rattle.imported.specs.Room.{book-sizes, calls-clear}

-- ---- all columns in their order are the row itself

chosen-from : (cols ts : List ℕ) (es : Row) (j : ℕ)
    → ((i : ℕ) → i < length ts → column_in (get_or ts i 0) cols ≡ At (j + i)) → j + length ts ≡ length es
    → chosen_of cols ts es ≡ drop j es
chosen-from cols [] es j f e = sym (drop_of_length-le es {i = j} (omega arith))
chosen-from cols (t ∷ ts) es j f e =
    let q : column_in t cols ≡ At j = f 0 (omega arith) ∙ ap At (add-zero j) in
    ap₂ (λ (x : Option (List ℕ)) (l : Row). x ∷ l) (rw q refl)
    (chosen-from cols ts es (suc j)
    (λ i h. f (suc i) (omega arith) ∙ ap At (omega arith)) (omega arith))
    ∙ sym (drop-cons es j none (omega arith))

chosen-all : (cs : List Column) (es : Row) → SoundTable cs → length es ≡ length cs
    → chosen_of (tags_of cs) (tags_of cs) es ≡ es
chosen-all cs es h l =
    let n = tags-long cs in
    chosen-from (tags_of cs) (tags_of cs) es 0
    (λ i k. only-column cs h (get_or (tags_of cs) i 0) i (omega arith) refl ∙ ap At (omega arith)) (omega arith)

selected-all : (cs : List Column) (rows : List Row) → SoundTable cs → SoundRows (row_slots cs) rows
    → selected_of (tags_of cs) (tags_of cs) rows ≡ rows
selected-all cs [] h k = refl
selected-all cs (es ∷ rows) h k =
    ap₂ (λ (x : Row) (l : List Row). x ∷ l)
    (chosen-all cs es h (row-long (row_slots cs) es k.0 ∙ slots-long true cs))
    (selected-all cs rows h k.1)

-- ---- what is asked of a sheet and of a header record

all-exported : (tags : List ℕ) → Exported (codes_of tags) → all_exported tags ≡ true
unfolding all_exported
all-exported [] h = refl
all-exported (t ∷ tags) h = rw h.0 (all-exported tags h.1)

tags-small : (seen : List ℕ) (cs : List Column) → SoundColumns seen cs → Words (tags_of cs)
tags-small seen [] h = tt
tags-small seen (c ∷ cs) h = (h.0.0, tags-small (c.tag ∷ seen) cs h.2)

offered-back : (ss : List Slot) (es : Row) → SoundRow ss es → length (row_octets es) < 2 ^ 32
    → (offered_in ss (row_octets es) ≡ clear) × (row_in ss (row_octets es) ≡ es)
unfolding offered_in
offered-back ss es h k =
    let a = append-nil (row_octets es) in
    let r = rw a at (record-back ss es 0 [] h k) in
    let w = rw a at (row-size es [] k) in
    (rw (r, eq-eqb _ _ w), rw a at (row-in ss es [] h k))

-- ---- the theorem

-- the text, with the book's own flags, header table and header record, gives the octets xs
abbrev pub Returned : Book → List ℕ → List ℕ → List ℕ → Type 0
Returned b text d xs =
    (from_answer text (flags_of b.cols) (tags_of b.heads) (flags_of b.heads) (row_octets b.head) d
    ≡ Ok (length xs))
    × (from_octets text (flags_of b.cols) (tags_of b.heads) (flags_of b.heads) (row_octets b.head) d
    ≡ stored d 0 xs)

module _ (b : Book) (d : List ℕ) (s : Sound b) (some : 1 ≤ length b.cols) (few : length b.cols ≤ most_chosen)
    (types : Exported (codes_of (tags_of b.cols))) (uh : Unused b.heads) (uc : Unused b.cols)
    (fits_in : length (book_octets b) ≤ length d) where
  abbrev tags : List ℕ
  tags = tags_of b.cols

  abbrev codes : List ℕ
  codes = codes_of tags

  abbrev flags : List ℕ
  flags = flags_of b.cols

  abbrev ht : List ℕ
  ht = tags_of b.heads

  abbrev hf : List ℕ
  hf = flags_of b.heads

  abbrev hrec : List ℕ
  hrec = row_octets b.head

  abbrev text : List ℕ
  text = sheet_of tags b.rows

  abbrev width : ℕ
  width = length (line_of (tag_fields tags))

  own : selected tags b ≡ b.rows
  own = selected-all b.cols b.rows s.cols s.rows

  choice : SoundChoice codes b.rows
  choice = subst (SoundChoice codes) own (selected-sound b s tags)

  line : head_in text ≡ tags_to tags width
  unfolding sheet_of
  line =
      let n = tags-long b.cols in
      head-back tags (lines_of codes b.rows) (tags-small [] b.cols s.cols.1) (omega arith) (omega arith)

  behind : drop width text ≡ lines_of codes b.rows
  unfolding sheet_of
  behind = drop-append_seam (line_of (tag_fields tags)) (lines_of codes b.rows)

  asked : asked_at tags flags width (drop width text) ≡ clear
  unfolding asked_at
  asked =
      let l = lines-taken codes b.rows types choice in
      let t = text-taken fits codes (held_by codes b.rows) (lines_of codes b.rows) l.0 l.1 in
      let n : length flags ≡ length tags = flags_long b.cols ∙ sym (tags-long b.cols) in
      rw (behind, eq-eqb (length flags) (length tags) n, all-exported tags types, t)

  begins : begin_at ht hf tags flags (length d) ≡ clear
  begins =
      let z = book-sizes b in
      begin-taken b.heads b.cols hf flags s.heads s.cols (flags_long b.heads) (flags_long b.cols)
      (length d) (omega arith)

  heads-are : columns_from ht hf ≡ b.heads
  heads-are = from-plain b.heads ∙ ap (λ (c : Book). c.heads) (same-book b uh uc)

  cols-are : columns_from tags flags ≡ b.cols
  cols-are = from-plain b.cols ∙ ap (λ (c : Book). c.cols) (same-book b uh uc)

  head-returns : (offered_in (head_slots b.heads) hrec ≡ clear) × (row_in (head_slots b.heads) hrec ≡ b.head)
  head-returns =
      let z = book-sizes b in
      offered-back (head_slots b.heads) b.head s.head (omega (arith, s.short))

  book-is : book_with tags flags ht hf hrec (rows_in tags text) ≡ b
  unfolding book_with
  book-is =
      whole.same-book (book_with tags flags ht hf hrec (rows_in tags text)) b heads-are cols-are
      (ap (λ (hs : List Column). row_in (head_slots hs) hrec) heads-are ∙ head-returns.1)
      (sheet-back tags b.rows types choice)

  from-clear : from_at text flags ht hf hrec (length d) ≡ clear
  unfolding from_at
  from-clear =
      rw (line, asked, begins, heads-are, head-returns.0, book-is, tags-long b.heads, tags-long b.cols)
      (calls-clear b s (length d) fits_in)

  own-returns : Returned b text d (book_octets b)
  unfolding from_answer from_octets
  own-returns = (rw (from-clear, line, book-is), rw (from-clear, line, book-is))

  pub book-returns : Returned b (sheet_of tags (selected tags b)) d (book_octets b)
  book-returns = subst (λ (rows : List Row). Returned b (sheet_of tags rows) d (book_octets b)) (sym own) own-returns

-- of an accepted book's octets
pub sheet-returns : (xs d : List ℕ) → Octets xs → judge xs ≡ clear → 1 ≤ length (book_in xs).cols
    → length (book_in xs).cols ≤ most_chosen → Exported (codes_of (tags_of (book_in xs).cols))
    → Unused (book_in xs).heads → Unused (book_in xs).cols → length xs ≤ length d
    → Returned (book_in xs) (sheet_in xs (tags_of (book_in xs).cols)) d xs
unfolding sheet_in
sheet-returns xs d o e some few types uh uc h =
    let b : Book = book_in xs in
    let r = book-reads xs o e in
    let l : length xs ≡ length (book_octets b) = ap length r.1 in
    subst (Returned b (sheet_of (tags_of b.cols) (selected (tags_of b.cols) b)) d) (sym r.1)
    (book-returns b d r.0 some few types uh uc (omega arith))
