-- A record of one book that is a record of another: the same octets, and every lookup hands back the same. And the metadata of a book.
use Rattle.std.specs.Prelude.{ℕ, suc, ◌+◌, ◌-◌, ◌≤◌, ◌≡◌, List, ◌++◌, length, take, drop}
use Rattle.std.proofs.Common.{arith, sym, ap, ap₂, ◌∙◌}
use Rattle.std.proofs.Math.Seq.{take-append_seam}
use Rattle.octets.specs.Word.{word_of}
use Rattle.answers.specs.Numbers.{most_octets}
use Rattle.table.specs.Table.{Column}
use Rattle.entry.specs.Present.{Row}
use Rattle.entry.specs.Record.{row_octets, row-size}
use Rattle.book.specs.Rows.{rows_octets}
use Rattle.book.specs.Book.{Book, Sound, tables_octets, body_octets, book_octets, records_place}
use Rattle.book.specs.Whole.{body-in, records-short}
use Rattle.lookup.specs.Places.{place_of, place-in, place-first, row_below, record-from, head-from}
use Rattle.lookup.specs.Look.{stretch_of}
use Rattle.lookup.specs.declared.Which.{Which}
use Rattle.lookup.specs.declared.Which.TheVariants.{Header, Number}
use Rattle.lookup.specs.Named.{columns_for, row_for, start_for}
use Rattle.lookup.specs.Named.{There}
use Rattle.corrected.specs.Handed.{handed_of, octets_of, stretch-handed, row_handed, handed-is}

-- ---- the octets of a record: those from its place on, as many as its size field says

abbrev pub sized_at : ℕ → List ℕ → List ℕ
sized_at at xs = take (word_of 4 (drop at xs)) (drop at xs)

unfoldable pub record_octets : List ℕ → Which → List ℕ
record_octets xs which = sized_at (start_for xs which) xs

sized-is : (at : ℕ) (xs : List ℕ) (es : Row) (rest : List ℕ) → drop at xs ≡ row_octets es ++ rest → length (row_octets es) ≤ most_octets → sized_at at xs ≡ row_octets es
sized-is at xs es rest e h = rw (e, row-size es rest (omega arith)) (take-append_seam (row_octets es) rest)

pub record_is : (b : Book) → Sound b → (which : Which) → There b which → record_octets (book_octets b) which ≡ row_octets (row_for b which)
unfolding record_octets
record_is b s Header h =
    rw (body-in b s, place-first b s)
    (sized-is (12 + length (tables_octets b.heads b.cols)) (book_octets b) b.head (rows_octets b.rows) (head-from b) (omega (arith, records-short b s)))
record_is b s (Number k) h =
    let l = row_below b.rows k h in
    rw (place-in b s k (omega arith))
    (sized-is (place_of b k) (book_octets b) (row_for b (Number k)) (rows_octets (drop (suc k) b.rows)) (record-from b k h) (omega (arith, records-short b s)))

-- ---- the octets of the metadata: its size and both tables

unfoldable pub meta_octets : List ℕ → List ℕ
meta_octets xs = take (records_place (drop 12 xs) - 12) (drop 12 xs)

tables-front : (b : Book) → take (length (tables_octets b.heads b.cols)) (body_octets b) ≡ tables_octets b.heads b.cols
unfolding body_octets
tables-front b = take-append_seam (tables_octets b.heads b.cols) (row_octets b.head ++ rows_octets b.rows)

pub meta-is : (b : Book) → Sound b → meta_octets (book_octets b) ≡ tables_octets b.heads b.cols
unfolding meta_octets
meta-is b s =
    let n : ℕ = length (tables_octets b.heads b.cols) in
    let z : 12 + n - 12 ≡ n = omega arith in
    rw (body-in b s, place-first b s, z) (tables-front b)

-- ---- alike

-- record w of the book xs is record v of the book ys
pub record Alike (xs : List ℕ) (w : Which) (ys : List ℕ) (v : Which) : Type 0 where
  pub octets : record_octets xs w ≡ record_octets ys v
  pub lookups : (t : ℕ) → handed_of xs w t ≡ handed_of ys v t
  pub stretches : (t : ℕ) → stretch_of xs w t ≡ stretch_of ys v t

module _ (xs ys : List ℕ) (b c : Book) (p : xs ≡ book_octets b) (q : ys ≡ book_octets c) (s : Sound b) (t : Sound c) where
  pub meta-alike : b.heads ≡ c.heads → b.cols ≡ c.cols → meta_octets xs ≡ meta_octets ys
  meta-alike h k = ap meta_octets p ∙ meta-is b s ∙ ap₂ tables_octets h k ∙ sym (ap meta_octets q ∙ meta-is c t)

  pub handed-alike : (w v : Which) (u : ℕ) → There b w → There c v → row_handed (columns_for b w) (row_for b w) u ≡ row_handed (columns_for c v) (row_for c v) u → handed_of xs w u ≡ handed_of ys v u
  handed-alike w v u h k e = ap (λ (z : List ℕ). handed_of z w u) p ∙ handed-is b s w u h ∙ e ∙ sym (ap (λ (z : List ℕ). handed_of z v u) q ∙ handed-is c t v u k)

  pub alike : (w v : Which) → There b w → There c v → columns_for b w ≡ columns_for c v → row_for b w ≡ row_for c v → Alike xs w ys v
  alike w v h k e f =
      let g : (u : ℕ) → handed_of xs w u ≡ handed_of ys v u = λ u. handed-alike w v u h k (ap₂ (λ (cs : List Column) (es : Row). row_handed cs es u) e f) in
      record {
        octets = ap (λ (z : List ℕ). record_octets z w) p ∙ record_is b s w h ∙ ap row_octets f ∙ sym (ap (λ (z : List ℕ). record_octets z v) q ∙ record_is c t v k);
        lookups = g;
        stretches = λ u. stretch-handed xs w u ∙ ap octets_of (g u) ∙ sym (stretch-handed ys v u);
      }
