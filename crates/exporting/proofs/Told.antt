-- What a sheet tells, in the buyer's words: read back, it gives of each record the value under each chosen whole tag,
-- and as many records as the book has; two books with the same sheet have the same values there. And what its length is
-- for.
use Prim.Native.Nat.{ℕ, zero, suc, ◌%◌, ◌≤◌, ◌<◌}
use Rattle.std.proofs.Common.{arith, sym, ◌∙◌, le-leb}
use Rattle.std.specs.Prelude.{Err, Ok, ◌≡◌, refl, leb, length}
use Rattle.std.proofs.Math.Path.{ap}
use Rattle.std.proofs.Math.Option.{Option, none, some}
use mathlib.Core.List.{List, [], ◌∷◌}
use Rattle.std.proofs.Math.ListN.{get_or}
use Rattle.octets.specs.Octets.{Octets}
use Rattle.answers.specs.Numbers.{out_of_turn, no_room, breaks_form}
use Rattle.answers.specs.declared.Refusal.{Refusal}
use Rattle.answers.specs.Verdict.{Verdict}
use Rattle.answers.specs.Verdict.{clear, Refused}
use Rattle.answers.specs.Verdict.{◌then◌, need, apart, unmet}
use Rattle.answers.specs.Made.{answered, answered-done}
use Rattle.table.specs.Columns.{tags_of}
use Rattle.table.specs.Found.{Found}
use Rattle.table.specs.Found.{At, Nothing}
use Rattle.entry.specs.Present.{Row}
use Rattle.entry.specs.Record.{no_slot, SoundEntry, SoundRow, sound-entry}
use Rattle.book.specs.Book.{Book, Sound, judge}
use Rattle.book.specs.Read.{book_in, book-reads}
use Rattle.lookup.specs.Look.{column_in}
use Rattle.lookup.specs.Laws.{column-in, column-tag}
use Rattle.lookup.specs.Places.{row_at}
use Rattle.lookup.specs.Named.{slots_under, slots-reach, value_in, value_for, row-sound, value-formed}
use Rattle.lookup.specs.declared.Which.TheVariants.{Number}
use Rattle.sheet.specs.Field.{all_exported, codes_of}
use Rattle.sheet.specs.Reading.{rows_in}
use Rattle.sheet.specs.Values.{free_slot}
use Rattle.sheet.specs.One.{free_slots, Exported, exported-each, SoundChoice}
use Rattle.sheet.proofs.ValuesBack.{sheet-back}
use Rattle.exporting.specs.Export.{chosen_of, selected_of, selected, sheet_in, all_known}
use Rattle.exporting.specs.Export.{choice_at, sheet_at, export_at, length_answer, export_answer}

-- ---- the selection of a sound book

module _ (b : Book) (s : Sound b) where
  -- what a record has under a tag is a value of the tag's type, or none
  entry_free : (k : ℕ) → k < length b.rows → (t : ℕ)
      → SoundEntry (free_slot (t % 65536)) (value_in (column_in t (tags_of b.cols)) (row_at b k))
  entry_free k h t = by (column_in t (tags_of b.cols)) refl
    where
      there : (c : ℕ) (o : Option (List ℕ)) → column_in t (tags_of b.cols) ≡ At c → get_or (row_at b k) c none ≡ o
          → SoundEntry (free_slot (t % 65536)) o
      there c none z e = refl
      there c (some v) z e =
          let l = column-in t b.cols c z in
          let n = slots-reach b (Number k) in
          let r =
          rw e at
          (sound-entry (slots_under b (Number k)) (row_at b k) c no_slot (row-sound b s (Number k) h) (omega arith)) in
          (rw (column-tag t (tags_of b.cols) c z) at (value-formed b s (Number k) h c v l e), r.1)

      by : (f : Found) → column_in t (tags_of b.cols) ≡ f → SoundEntry (free_slot (t % 65536)) (value_in f (row_at b k))
      by Nothing z = refl
      by (At c) z = there c (get_or (row_at b k) c none) z refl

  chosen-free : (k : ℕ) → k < length b.rows → (tags : List ℕ)
      → SoundRow (free_slots (codes_of tags)) (chosen_of (tags_of b.cols) tags (row_at b k))
  chosen-free k h [] = tt
  chosen-free k h (t ∷ tags) = (entry_free k h t, chosen-free k h tags)

-- of rows that are all in the book
selected-free : (cols tags : List ℕ) (rows : List Row)
    → ((k : ℕ) → k < length rows → SoundRow (free_slots (codes_of tags)) (chosen_of cols tags (get_or rows k [])))
    → SoundChoice (codes_of tags) (selected_of cols tags rows)
selected-free cols tags [] f = tt
selected-free cols tags (es ∷ rows) f =
    (f 0 (omega arith), selected-free cols tags rows (λ k h. f (suc k) (omega arith)))

pub selected-sound : (b : Book) → Sound b → (tags : List ℕ) → SoundChoice (codes_of tags) (selected tags b)
selected-sound b s tags = selected-free (tags_of b.cols) tags b.rows (λ k h. chosen-free b s k h tags)

-- ---- the values of an accepted export come back

choice-exported : (cols tags : List ℕ) → choice_at cols tags ≡ clear → Exported (codes_of tags)
unfolding choice_at
choice-exported cols tags e =
    let c₁ = apart (need (all_known cols tags) out_of_turn 0) _ e in
    let c₂ = apart (need (all_exported tags) breaks_form 0) _ c₁.1 in
    exported-each tags (unmet _ breaks_form 0 c₂.0)

-- the reading of the sheet gives the selection back
pub selection-back : (xs tags : List ℕ) → Octets xs → sheet_at xs tags ≡ clear
    → rows_in tags (sheet_in xs tags) ≡ selected tags (book_in xs)
unfolding sheet_at sheet_in
selection-back xs tags o e =
    let a = apart (judge xs) _ e in
    let r = book-reads xs o a.0 in
    sheet-back tags (selected tags (book_in xs)) (choice-exported (tags_of (book_in xs).cols) tags a.1)
    (selected-sound (book_in xs) r.0 tags)

-- ---- line by line, field by field

selected-long : (cols tags : List ℕ) (rows : List Row) → length (selected_of cols tags rows) ≡ length rows
selected-long cols tags [] = refl
selected-long cols tags (es ∷ rows) = ap suc (selected-long cols tags rows)

selected-at : (cols tags : List ℕ) (rows : List Row) (k : ℕ) → k < length rows
    → get_or (selected_of cols tags rows) k [] ≡ chosen_of cols tags (get_or rows k [])
selected-at cols tags [] k h = absurd (omega arith)
selected-at cols tags (es ∷ rows) zero h = refl
selected-at cols tags (es ∷ rows) (suc k) h = selected-at cols tags rows k (omega arith)

chosen_at : (cols tags : List ℕ) (es : Row) (j : ℕ) → j < length tags
    → get_or (chosen_of cols tags es) j none ≡ value_in (column_in (get_or tags j 0) cols) es
chosen_at cols [] es j h = absurd (omega arith)
chosen_at cols (t ∷ tags) es zero h = refl
chosen_at cols (t ∷ tags) es (suc j) h = chosen_at cols tags es j (omega arith)

module _ (xs tags : List ℕ) (o : Octets xs) (e : sheet_at xs tags ≡ clear) where
  -- a line a record
  pub sheet-records : length (rows_in tags (sheet_in xs tags)) ≡ length (book_in xs).rows
  sheet-records =
      ap length (selection-back xs tags o e) ∙ selected-long (tags_of (book_in xs).cols) tags (book_in xs).rows

  -- field j of record k's line holds what the record has under the whole tag j, and nothing where it has no value
  pub sheet-value : (k j : ℕ) → k < length (book_in xs).rows → j < length tags
      → get_or (get_or (rows_in tags (sheet_in xs tags)) k []) j none ≡ value_for (book_in xs) (Number k) (get_or tags j 0)
  unfolding value_for
  sheet-value k j h l =
      let cols : List ℕ = tags_of (book_in xs).cols in
      ap (λ (rows : List Row). get_or (get_or rows k []) j none) (selection-back xs tags o e)
      ∙ ap (λ (es : Row). get_or es j none) (selected-at cols tags (book_in xs).rows k h)
      ∙ chosen_at cols tags (row_at (book_in xs) k) j l

-- two books whose sheets of the same tags are the same text have the same values there, and as many records
pub sheet-tells : (xs ys tags : List ℕ) → Octets xs → Octets ys → sheet_at xs tags ≡ clear → sheet_at ys tags ≡ clear
    → sheet_in xs tags ≡ sheet_in ys tags → selected tags (book_in xs) ≡ selected tags (book_in ys)
sheet-tells xs ys tags o p e f q =
    sym (selection-back xs tags o e) ∙ ap (rows_in tags) q ∙ selection-back ys tags p f

-- ---- what the length is for: that much room suffices, and a refusal is the export's own

pub length-suffices : (xs tags d : List ℕ) (n : ℕ) → length_answer xs tags ≡ Ok n → n ≤ length d
    → export_answer xs tags d ≡ Ok n
unfolding length_answer export_answer export_at
length-suffices xs tags d n e h =
    let a = answered-done (sheet_at xs tags) (length (sheet_in xs tags)) n e in
    rw (a.0, a.1, le-leb n (length d) h)

pub length-refuses : (xs tags d : List ℕ) (r : Refusal) → length_answer xs tags ≡ Err r
    → export_answer xs tags d ≡ Err r
unfolding length_answer export_answer export_at
length-refuses xs tags d r e = go (sheet_at xs tags) e
  where
    go : (v : Verdict) → answered v (length (sheet_in xs tags)) ≡ Err r
        → answered (v then need (leb (length (sheet_in xs tags)) (length d)) no_room 0) (length (sheet_in xs tags))
        ≡ Err r
    go (Ok _) q = let z : ◌≡◌ {A = ℕ} 0 1 = cc in absurd (omega arith)
    go (Refused s) q = q
