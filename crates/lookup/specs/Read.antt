-- The rows of the book that stands in octets, by the places of its records; and in an accepted book the values of a
-- record stand between its edges.
use Rattle.std.specs.Prelude.{ℕ, zero, suc, ◌+◌, ◌<◌, ◌≡◌, true, List, [], ◌++◌, length, get_or, drop}
use Rattle.std.proofs.Common.{arith, sym, ap, ap₂, ◌∙◌, drop-drop, ltb-true}
use Rattle.std.proofs.Math.Option.{none}
use Rattle.std.proofs.Math.Seq.{drop-append_seam}
use Rattle.octets.specs.Octets.{Octets}
use Rattle.octets.specs.Splice.{stored}
use Rattle.octets.specs.Word.{word_of}
use Rattle.answers.specs.Verdict.{clear}
use Rattle.table.specs.Table.{Column}
use Rattle.table.specs.Columns.{forms_of, bits_of, forms-long}
use Rattle.entry.specs.Record.{Slot, row_octets, row-size}
use Rattle.entry.specs.Read.{row_in}
use Rattle.entry.specs.Slots.{slots_from}
use Rattle.entry.specs.Values.{entry_octets}
use Rattle.edges.specs.Edges.{edges_in, cell_in, row-cell}
use Rattle.book.specs.Rows.{rows_octets}
use Rattle.book.specs.Book.{Book, Sound, head_slots, row_slots, tables_octets, book_octets, heads_in, cols_in}
use Rattle.book.specs.Book.{records_in, records_place, count_in, judge}
use Rattle.book.specs.JudgeCases.{records-place, slots-head, slots-row}
use Rattle.book.specs.Whole.{body-in, records-short}
use Rattle.book.specs.Read.{rows_in, book_in, book-reads}
use Rattle.book.specs.Front.{first_place, first_in}
use Rattle.book.specs.FrontCases.{first-place}
use Rattle.lookup.specs.Places.{walk_to, place_of, place_in, place-first, place-in, record-from}
use Rattle.lookup.specs.Places.{head-from}
use Rattle.lookup.specs.Named.{There, columns_for, slots_under, row_for, row-sound, has_record}
use Rattle.lookup.specs.Named.{start_for}
use Rattle.lookup.specs.declared.Which.{Which}
use Rattle.lookup.specs.declared.Which.TheVariants.{Header, Number}

-- ---- in any octets

row_walked : (n k : ℕ) (ss : List Slot) (at : ℕ) (b zs : List ℕ) → k < n → drop at b ≡ zs
    → row_in ss (drop (walk_to k at zs) b) ≡ get_or (rows_in n ss zs) k []
unfolding rows_in walk_to
row_walked zero k ss at b zs h e = absurd (omega arith)
row_walked (suc n) zero ss at b zs h e = ap (row_in ss) e
row_walked (suc n) (suc k) ss at b zs h e =
    row_walked n k ss (at + word_of 4 zs) b (drop (word_of 4 zs) zs) (omega arith)
    (sym (drop-drop (word_of 4 zs) at b) ∙ ap (drop (word_of 4 zs)) e)

-- the row of the named record is the one that stands at its place
pub record-there : (xs : List ℕ) (w : Which) → has_record xs w ≡ true
    → row_in (slots_under (book_in xs) w) (drop (start_for xs w) xs) ≡ row_for (book_in xs) w
unfolding book_in place_in first_in
record-there xs Header h = ap (row_in (head_slots (heads_in (drop 12 xs)))) (records-place xs)
record-there xs (Number k) h =
    row_walked (count_in xs) k (row_slots (cols_in (drop 12 xs))) (first_place xs) xs (first_in xs)
    (ltb-true k (count_in xs) h) (first-place xs)

-- ---- in a book that is judged good

-- what stands behind a record
abbrev pub behind_for : Book → Which → List ℕ
behind_for b Header = rows_octets b.rows
behind_for b (Number k) = rows_octets (drop (suc k) b.rows)

-- the flags that make a key; in the header record none does
abbrev flags_for : Book → Which → List ℕ
flags_for b Header = []
flags_for b (Number k) = bits_of b.cols

slots-for : (b : Book) (w : Which) → slots_from (forms_of (columns_for b w)) (flags_for b w) ≡ slots_under b w
slots-for b Header = slots-head b.heads
slots-for b (Number k) = slots-row b.cols

module _ (xs : List ℕ) (b : Book) (s : Sound b) (e : xs ≡ book_octets b) where
  -- the octets of the record stand where it starts
  pub record-stands : (w : Which) → There b w
      → drop (start_for xs w) xs ≡ row_octets (row_for b w) ++ behind_for b w
  record-stands Header h =
      let p : records_place (drop 12 xs) ≡ 12 + length (tables_octets b.heads b.cols) =
      ap (λ (l : List ℕ). records_place (drop 12 l)) e ∙ ap records_place (body-in b s) ∙ place-first b s in
      rw (p, e) (head-from b)
  record-stands (Number k) h =
      let p : place_in xs k ≡ place_of b k = ap (λ (l : List ℕ). place_in l k) e ∙ place-in b s k (omega arith) in
      rw (p, e) (record-from b k h)

  -- the octets of the address records stand behind the header record
  pub rows-stand : drop (first_place xs) xs ≡ rows_octets b.rows
  rows-stand =
      let h = record-stands Header tt in
      let r : records_in (drop 12 xs) ≡ row_octets b.head ++ rows_octets b.rows = sym (records-place xs) ∙ h in
      let k = records-short b s in
      let w : word_of 4 (records_in (drop 12 xs)) ≡ length (row_octets b.head) =
      ap (word_of 4) r ∙ row-size b.head (rows_octets b.rows) (omega arith) in
      sym (drop-drop (word_of 4 (records_in (drop 12 xs))) (records_place (drop 12 xs)) xs)
      ∙ ap₂ (λ (n : ℕ) (y : List ℕ). drop n y) w h ∙ drop-append_seam (row_octets b.head) (rows_octets b.rows)

  cells_of : (w : Which) → There b w → (d : List ℕ) → length (columns_for b w) < length d → (c : ℕ)
      → c < length (columns_for b w)
      → cell_in xs (stored d 0 (edges_in (forms_of (columns_for b w)) (start_for xs w) (drop (start_for xs w) xs))) c
      ≡ entry_octets (get_or (row_for b w) c none)
  cells_of w h d r c g =
      let cs : List Column = columns_for b w in
      let l : length (forms_of cs) ≡ length cs = forms-long cs in
      row-cell (forms_of cs) (flags_for b w) xs (start_for xs w) (row_for b w) (behind_for b w) (rw e s.short)
      (rw (slots-for b w) (row-sound b s w h)) (record-stands w h) d (omega arith) c (omega arith)

-- between the edges of the named record, laid down in an array, stand the values of its row
pub record-cells : (xs : List ℕ) → Octets xs → judge xs ≡ clear → (w : Which) → There (book_in xs) w → (d : List ℕ)
    → length (columns_for (book_in xs) w) < length d → (c : ℕ) → c < length (columns_for (book_in xs) w)
    → cell_in xs
    (stored d 0 (edges_in (forms_of (columns_for (book_in xs) w)) (start_for xs w) (drop (start_for xs w) xs))) c
    ≡ entry_octets (get_or (row_for (book_in xs) w) c none)
record-cells xs o e w h d r c g = let k = book-reads xs o e in cells_of xs (book_in xs) k.0 k.1 w h d r c g
