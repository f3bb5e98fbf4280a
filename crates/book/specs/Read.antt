-- The book that stands in octets, whatever they are. What a sound book is written as reads back as that book, and
-- octets that are judged good are
-- those of the book that is read from them.
use Rattle.std.specs.Prelude.{ℕ, zero, suc, ◌^◌, ◌<◌, ◌≡◌, refl, List, [], ◌∷◌, ◌++◌, length, drop}
use Rattle.std.proofs.Common.{arith, sym, ap, ◌∙◌, length-append}
use Rattle.std.proofs.Math.Seq.{drop-append_seam}
use Rattle.octets.specs.Octets.{Octets}
use Rattle.octets.specs.Word.{word_of}
use Rattle.answers.specs.Verdict.{clear}
use Rattle.entry.specs.Present.{Row}
use Rattle.entry.specs.Record.{Slot, row_octets, row-size}
use Rattle.entry.specs.Read.{row_in, row-in}
use Rattle.book.specs.Rows.{rows_octets, SoundRows}
use Rattle.book.specs.Book.{Book, Sound, head_slots, row_slots, book_octets, heads_in, cols_in, records_in, count_in}
use Rattle.book.specs.Book.{judge}
use Rattle.book.specs.Whole.{BookIs, judge-sound, heads-in, cols-in, records-in, body-in, count-in, records-short}

-- n rows, one behind the other from the front of xs on
unfoldable pub rows_in : ℕ → List Slot → List ℕ → List Row
rows_in zero ss xs = []
rows_in (suc n) ss xs = row_in ss xs ∷ rows_in n ss (drop (word_of 4 xs) xs)

-- the book of n records whose octets behind the header are ys; zs is what stands from the header record on
abbrev pub book_from : ℕ → List ℕ → List ℕ → Book
book_from n ys zs =
    record {
      heads = heads_in ys;
      cols = cols_in ys;
      head = row_in (head_slots (heads_in ys)) zs;
      rows = rows_in n (row_slots (cols_in ys)) (drop (word_of 4 zs) zs);
    }

unfoldable pub book_in : List ℕ → Book
book_in xs = book_from (count_in xs) (drop 12 xs) (records_in (drop 12 xs))

pub rows-in-long : (n : ℕ) (ss : List Slot) (xs : List ℕ) → length (rows_in n ss xs) ≡ n
unfolding rows_in
rows-in-long zero ss xs = refl
rows-in-long (suc n) ss xs = ap suc (rows-in-long n ss (drop (word_of 4 xs) xs))

-- the tables and the count of the book are those that stand there
pub heads-are : (xs : List ℕ) → (book_in xs).heads ≡ heads_in (drop 12 xs)
unfolding book_in
heads-are xs = refl

pub cols-are : (xs : List ℕ) → (book_in xs).cols ≡ cols_in (drop 12 xs)
unfolding book_in
cols-are xs = refl

pub rows-count : (xs : List ℕ) → length (book_in xs).rows ≡ count_in xs
unfolding book_in
rows-count xs = rows-in-long (count_in xs) (row_slots (cols_in (drop 12 xs))) _

-- ---- what was written reads back

pub rows_in_lem : (ss : List Slot) (rs : List Row) → SoundRows ss rs → length (rows_octets rs) < 2 ^ 32
    → rows_in (length rs) ss (rows_octets rs) ≡ rs
unfolding rows_in
rows_in_lem ss [] h k = refl
rows_in_lem ss (r ∷ rs) h k =
    let l = length-append (row_octets r) (rows_octets rs) in
    rw (
      row-in ss r (rows_octets rs) h.0 (omega arith),
      row-size r (rows_octets rs) (omega arith),
      drop-append_seam (row_octets r) (rows_octets rs),
    )
    (ap (λ (t : List Row). r ∷ t) (rows_in_lem ss rs h.1 (omega arith)))

pub book-in : (b : Book) → Sound b → book_in (book_octets b) ≡ b
unfolding book_in
book-in b s =
    let k = records-short b s in
    let hs : List Slot = head_slots b.heads in
    let ss : List Slot = row_slots b.cols in
    let r : row_in hs (row_octets b.head ++ rows_octets b.rows) ≡ b.head =
    row-in hs b.head (rows_octets b.rows) s.head (omega arith) in
    let w : word_of 4 (row_octets b.head ++ rows_octets b.rows) ≡ length (row_octets b.head) =
    row-size b.head (rows_octets b.rows) (omega arith) in
    let q : rows_in (length b.rows) ss (rows_octets b.rows) ≡ b.rows =
    rows_in_lem ss b.rows s.rows (omega arith) in
    rw (
      count-in b s,
      body-in b s,
      heads-in b s,
      cols-in b s,
      records-in b s,
      r,
      w,
      drop-append_seam (row_octets b.head) (rows_octets b.rows),
      q,
    )

-- octets that are judged good are the octets of the one sound book that is read from them
pub book-reads : (xs : List ℕ) → Octets xs → judge xs ≡ clear → Sound (book_in xs) × (xs ≡ book_octets (book_in xs))
book-reads xs o e = go (judge-sound xs o e)
  where
    go : BookIs xs → Sound (book_in xs) × (xs ≡ book_octets (book_in xs))
    go k =
        let q : book_in xs ≡ k.book = ap book_in k.reads ∙ book-in k.book k.sound in
        (rw q k.sound, k.reads ∙ ap book_octets (sym q))
