-- The sheet in the steps of the code is the sheet of the book's table.
use Rattle.std.specs.Prelude.{ℕ, ◌+◌, ◌-◌, ◌%◌, ◌≤◌, ◌<◌, ◌≡◌, true, get_or, replicate}
use Rattle.std.proofs.Common.{arith, ◌∙◌, drop-drop, le-ltb}
use Rattle.std.proofs.Math.Path.{refl, sym, ap, ap₂}
use Rattle.std.proofs.Math.Option.{Option, none, some}
use mathlib.Core.List.{List, [], ◌∷◌, ◌++◌}
use Rattle.std.proofs.Math.ListN.{length, drop, length-append, length-drop}
use Rattle.std.proofs.lemmas.List.{length-replicate}
use Rattle.std.proofs.Math.Seq.{drop-append_seam}
use Rattle.octets.specs.Cases.{taken}
use Rattle.octets.specs.Octets.{Octets}
use Rattle.octets.specs.Splice.{length-stored}
use Rattle.octets.specs.Word.{word_of}
use Rattle.answers.specs.Numbers.{most_octets}
use Rattle.answers.specs.Verdict.{clear}
use Rattle.value.specs.Form.{value-some}
use Rattle.table.specs.Columns.{tags_of, forms_of, bits_of, tags-long, forms-long}
use Rattle.table.specs.Found.{is_found}
use Rattle.table.specs.Found.{Found}
use Rattle.table.specs.Found.{At, Nothing}
use Rattle.entry.specs.Present.{Row}
use Rattle.entry.specs.Record.{Slot, no_slot, row_octets, SoundEntry, SoundRow, row-size, sound-entry, unlike}
use Rattle.entry.specs.Values.{entry_octets}
use Rattle.entry.specs.Slots.{slots_from, slots-many}
use Rattle.edges.specs.Edges.{most_edges, edges_in, row-cell}
use Rattle.book.specs.Rows.{rows_octets, SoundRows}
use Rattle.book.specs.Book.{Book, Sound, count_in, book_octets, judge}
use Rattle.book.specs.Whole.{count-in}
use Rattle.book.specs.JudgeCases.{slots-row}
use Rattle.book.specs.Front.{first_place}
use Rattle.book.specs.Read.{book_in, book-reads}
use Rattle.lookup.specs.Look.{column_in}
use Rattle.lookup.specs.Laws.{column-below}
use Rattle.lookup.specs.Named.{value_in}
use Rattle.lookup.specs.Read.{rows-stand}
use Rattle.sheet.specs.Field.{field_of, fields_of, codes_of, line_of, lines_of, tag_fields, sheet_of}
use Rattle.exporting.specs.Export.{chosen_of, selected_of, selected, sheet_in, all_known}
use Rattle.exporting.specs.Steps.{field_for, field_at, chosen_fields, edges_over, lines_by, sheet_by, place_of}
use Rattle.exporting.specs.Steps.{places_in}

-- ---- a tag that is known has a column

known_at : {X : Type 0} (cols : List ℕ) (t : ℕ) → is_found (column_in t cols) ≡ true
    → ((c : ℕ) → column_in t cols ≡ At c → X) → X
known_at {X} cols t h f = go (column_in t cols) refl h
  where
    go : (r : Found) → column_in t cols ≡ r → is_found r ≡ true → X
    go (At c) e h = f c e
    go Nothing e h = unlike h

-- ---- a value that is there has octets

field-same : (code : ℕ) (s : Slot) (e : Option (List ℕ)) → SoundEntry s e
    → field_for code (entry_octets e) ≡ field_of code e
unfolding field_for
field-same code s none h = refl
field-same code s (some v) h = rw (le-ltb (length v) 1 (value-some s.form v h.0))

-- ---- a record

module _ (xs forms flags cols : List ℕ) (short : length xs ≤ most_octets) (many : length cols ≡ length forms) where
  module _ (at : ℕ) (es : Row) (rest : List ℕ) (good : SoundRow (slots_from forms flags) es)
      (q : drop at xs ≡ row_octets es ++ rest) (d : List ℕ) (room : length forms < length d) where
    field-tied : (t c : ℕ) → column_in t cols ≡ At c
        → field_at xs (edges_over xs forms at d) t (place_of cols t) ≡ field_of (t % 65536) (value_in (column_in t cols) es)
    unfolding field_at edges_over place_of
    field-tied t c e =
        let k : c < length cols = column-below t cols c e in
        let n : length (slots_from forms flags) ≡ length forms = slots-many forms flags in
        rw e
        (ap (field_for (t % 65536)) (row-cell forms flags xs at es rest short good q d room c (omega arith))
        ∙ field-same (t % 65536) (get_or (slots_from forms flags) c no_slot) (get_or es c none)
        (sound-entry (slots_from forms flags) es c no_slot good (omega arith)))

    fields-tied : (tags : List ℕ) → all_known cols tags ≡ true
        → chosen_fields xs (edges_over xs forms at d) tags (places_in cols tags)
        ≡ fields_of (codes_of tags) (chosen_of cols tags es)
    unfolding chosen_fields all_known
    fields-tied [] h = refl
    fields-tied (t ∷ tags) h =
        taken (is_found (column_in t cols)) _ _ _ h
        (λ p k. known_at cols t p
        (λ c e. ap₂ (λ (f : List ℕ) (l : List (List ℕ)). f ∷ l) (field-tied t c e) (fields-tied tags k)))
        (λ p k. unlike k)

  -- ---- the records

  over : (at : ℕ) (d : List ℕ) → length forms < length d → length forms < length (edges_over xs forms at d)
  unfolding edges_over
  over at d r = rw (length-stored d 0 (edges_in forms at (drop at xs))) r

  lines-tied : (rows : List Row) (at : ℕ) → SoundRows (slots_from forms flags) rows → drop at xs ≡ rows_octets rows
      → (d : List ℕ) → length forms < length d → (tags : List ℕ) → all_known cols tags ≡ true
      → lines_by xs forms tags (places_in cols tags) (length rows) at d
      ≡ lines_of (codes_of tags) (selected_of cols tags rows)
  unfolding lines_by lines_of
  lines-tied [] at g q d r tags h = refl
  lines-tied (es ∷ rows) at g q d r tags h =
      let l : length (drop at xs) ≡ length xs - at = length-drop at xs in
      let m : length (drop at xs) ≡ length (row_octets es) + length (rows_octets rows) =
      ap length q ∙ length-append (row_octets es) (rows_octets rows) in
      let w : word_of 4 (drop at xs) ≡ length (row_octets es) =
      ap (word_of 4) q ∙ row-size es (rows_octets rows) (omega arith) in
      let b : drop (at + word_of 4 (drop at xs)) xs ≡ rows_octets rows =
      sym (drop-drop (word_of 4 (drop at xs)) at xs)
      ∙ ap₂ (λ (k : ℕ) (y : List ℕ). drop k y) w q ∙ drop-append_seam (row_octets es) (rows_octets rows) in
      ap₂ (λ (x y : List ℕ). x ++ y)
      (ap line_of (fields-tied at es (rows_octets rows) g.0 q d r tags h))
      (lines-tied rows (at + word_of 4 (drop at xs)) g.1 b (edges_over xs forms at d) (over at d r) tags h)

-- ---- the book

book-tied : (xs tags : List ℕ) (b : Book) → Sound b → xs ≡ book_octets b → all_known (tags_of b.cols) tags ≡ true
    → sheet_by xs (forms_of b.cols) tags (places_in (tags_of b.cols) tags) (count_in xs) (first_place xs)
    ≡ sheet_of tags (selected tags b)
unfolding sheet_by sheet_of
book-tied xs tags b s q h =
    let n : count_in xs ≡ length b.rows = ap count_in q ∙ count-in b s in
    let f : length (forms_of b.cols) ≡ length b.cols = forms-long b.cols in
    let t : length (tags_of b.cols) ≡ length b.cols = tags-long b.cols in
    let k : length xs ≤ most_octets = rw q s.short in
    let c = s.cols.0 in
    let z = length-replicate {A = ℕ} most_edges 0 in
    rw n
    (ap (λ (l : List ℕ). line_of (tag_fields tags) ++ l)
    (lines-tied xs (forms_of b.cols) (bits_of b.cols) (tags_of b.cols) k (omega arith) b.rows (first_place xs)
    (rw (slots-row b.cols) s.rows) (rows-stand xs b s q) (replicate most_edges 0) (omega arith) tags h))

pub sheet-tied : (xs tags : List ℕ) → Octets xs → judge xs ≡ clear → all_known (tags_of (book_in xs).cols) tags ≡ true
    → sheet_by xs (forms_of (book_in xs).cols) tags (places_in (tags_of (book_in xs).cols) tags) (count_in xs)
    (first_place xs) ≡ sheet_in xs tags
unfolding sheet_in
sheet-tied xs tags o e h = let r = book-reads xs o e in book-tied xs tags (book_in xs) r.0 r.1 h
