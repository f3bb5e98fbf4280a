-- The place that a reply shows proves it: at the place of a column of another type stand the octets of its tag, and at
-- the place of an absent value stands the octet in which the tag's bit is 0.
use Prim.Native.Nat.{ℕ, zero, suc, ◌+◌, ◌-◌, ◌*◌, ◌/◌, ◌%◌, ◌<◌}
use native.Mathlib.Omega.{arith}
use Rattle.std.specs.Prelude.{Ok, ◌≡◌, List, ◌++◌, length, get_or, take, drop}
use Rattle.std.proofs.Math.Path.{refl, ap}
use Rattle.std.proofs.Common.{sym, ◌∙◌, length-append, length-drop, drop-drop, get_or-take, get_or-drop}
use Rattle.std.proofs.Math.Bool.{false}
use Rattle.std.proofs.Math.Option.{none}
use borrow.Author.Tests.{eqb-false}
use Rattle.octets.specs.Octets.{octet_at, Octets}
use Rattle.octets.specs.Word.{word_of}
use Rattle.answers.specs.Verdict.{clear}
use Rattle.presence.specs.Presence.{room, bit_of, bit_at, is_set, bit-lt}
use Rattle.table.specs.Table.{columns_of, table_of, behind}
use Rattle.table.specs.Columns.{tags_of, columns-long}
use Rattle.entry.specs.Present.{Row, there, presence_of, presence-length, presence-bits, bits_at}
use Rattle.entry.specs.Record.{row_octets, values_of, row-long, row-length, present-is}
use Rattle.book.specs.Book.{Book, judge}
use Rattle.book.specs.Read.{book_in, heads-are, cols-are, book-reads}
use Rattle.book.specs.JudgeCases.{table-long}
use Rattle.lookup.specs.Named.{There, columns_for, tags_under, slots_under, slots-reach, row_for, row-sound, start_for}
use Rattle.lookup.specs.Read.{behind_for, record-stands}
use Rattle.lookup.specs.declared.Which.{Which}
use Rattle.lookup.specs.declared.Which.TheVariants as which
use Rattle.reason.specs.declared.Reason.TheVariants as reason
use Rattle.reason.specs.Why.{rows_place, presence_place, why_of}
use Rattle.reason.specs.Cause.{Whole, IsAbsent, reason-true}

-- ---- a row of a table

row_at : (n i : ℕ) (xs : List ℕ) → i < n → word_of 4 (drop (8 * i) xs) ≡ get_or (tags_of (columns_of n xs)) i 0
unfolding columns_of
row_at zero i xs h = absurd (omega arith)
row_at (suc n) zero xs h = refl
row_at (suc n) (suc i) xs h =
    let z : 8 + 8 * i ≡ 8 * suc i = omega arith in
    sym (rw z at (ap (word_of 4) (drop-drop (8 * i) 8 xs))) ∙ row_at n i (drop 8 xs) (omega arith)

table-row : (i : ℕ) (xs : List ℕ) → i < length (table_of xs)
    → word_of 4 (drop (4 + 8 * i) xs) ≡ get_or (tags_of (table_of xs)) i 0
unfolding table_of
table-row i xs h =
    ap (word_of 4) (sym (drop-drop (8 * i) 4 xs))
    ∙ row_at (word_of 4 xs) i (drop 4 xs) (rw (columns-long (word_of 4 xs) (drop 4 xs)) at h)

-- behind the header and the metadata's size
tables-from : (n : ℕ) (xs : List ℕ) → drop (16 + n) xs ≡ drop n (drop 4 (drop 12 xs))
tables-from n xs =
    let z : 12 + (4 + n) ≡ 16 + n = omega arith in
    sym (ap (λ (m : ℕ). drop m xs) z) ∙ sym (drop-drop (4 + n) 12 xs) ∙ sym (drop-drop n 4 (drop 12 xs))

-- the tag of column i stands at the place of its row
pub row-stands : (xs : List ℕ) (w : Which) (i : ℕ) → i < length (columns_for (book_in xs) w)
    → word_of 4 (drop (rows_place (book_in xs) w + 8 * i) xs) ≡ get_or (tags_under (book_in xs) w) i 0
unfolding behind
row-stands xs which.Header i h =
    let ys : List ℕ = drop 4 (drop 12 xs) in
    let z : 20 + 8 * i ≡ 16 + (4 + 8 * i) = omega arith in
    rw (heads-are xs, z, tables-from (4 + 8 * i) xs) (table-row i ys (rw (heads-are xs) at h))
row-stands xs (which.Number k) i h =
    let ys : List ℕ = drop 4 (drop 12 xs) in
    let n : ℕ = word_of 4 ys in
    let l : length (table_of ys) ≡ n = table-long ys in
    let z : 24 + 8 * length (table_of ys) + 8 * i ≡ 16 + (4 + (8 * n + (4 + 8 * i))) = omega arith in
    rw (
      heads-are xs,
      cols-are xs,
      z,
      tables-from (4 + (8 * n + (4 + 8 * i))) xs,
      ← drop-drop (8 * n + (4 + 8 * i)) 4 ys,
      ← drop-drop (4 + 8 * i) (8 * n) (drop 4 ys),
    )
    (table-row i (behind ys) (rw (cols-are xs) at h))

-- ---- a bit of the presence octets

-- the bit of column c, in the record at `at`
module _ (xs : List ℕ) (at c : ℕ) (es : Row) (rest : List ℕ) (d : drop at xs ≡ row_octets es ++ rest)
    (h : c < length es) where
  pub octet-stands : octet_at xs (presence_place at c) ≡ octet_at (presence_of es) (c / 8)
  octet-stands =
      let z : at + (4 + c / 8) ≡ at + 4 + c / 8 = omega arith in
      let p : take (room (length es)) (drop 4 (drop at xs)) ≡ presence_of es =
      rw d (present-is es rest (length es) refl) in
      rw z at (sym (get_or-drop at xs (4 + c / 8) 0)) ∙ sym (get_or-drop 4 (drop at xs) (c / 8) 0)
      ∙ sym (get_or-take (room (length es)) (drop 4 (drop at xs)) (c / 8) 0 (omega arith))
      ∙ ap (λ (l : List ℕ). get_or l (c / 8) 0) p

  pub octet-inside : presence_place at c < length xs
  octet-inside =
      let l : length xs - at ≡ length (row_octets es) + length rest =
      sym (length-drop at xs) ∙ ap length d ∙ length-append (row_octets es) rest in
      let r = row-length es in
      let q = length-append (presence_of es) (values_of es) in
      let p = presence-length es in
      omega arith

  pub bit-stands : get_or es c none ≡ none → bit_of (octet_at xs (presence_place at c)) (7 - c % 8) ≡ 0
  unfolding bit_at
  bit-stands e =
      let z : 0 + c ≡ c = omega arith in
      let b : is_set (presence_of es) c ≡ false =
      rw z at (bits_at (presence_of es) 0 es (presence-bits es) c h) ∙ ap there e in
      let k = bit-lt (octet_at (presence_of es) (c / 8)) (7 - c % 8) in
      let n : bit_of (octet_at (presence_of es) (c / 8)) (7 - c % 8) ≡ 1 → ⊥ = eqb-false _ 1 b in
      rw octet-stands (zero_bit _ k n)
    where
      zero_bit : (x : ℕ) → x < 2 → (x ≡ 1 → ⊥) → x ≡ 0
      zero_bit zero l n = refl
      zero_bit (suc zero) l n = absurd (n refl)
      zero_bit (suc (suc x)) l n = absurd (omega arith)

-- ---- the replies

-- at p stands the presence octet with the bit of t's column, which is 0
pub record Shown (xs : List ℕ) (b : Book) (w : Which) (t p : ℕ) : Type 0 where
  pub column : ℕ
  pub whole : Whole b w t column
  pub within : p < length xs
  pub bit : bit_of (octet_at xs p) (7 - column % 8) ≡ 0

module _ (xs : List ℕ) (o : Octets xs) (e : judge xs ≡ clear) (w : Which) (h : There (book_in xs) w) (t : ℕ) where
  -- the tag that is named stands in the row at the place that is shown
  pub shown-row : (u p : ℕ) → why_of xs w t ≡ Ok (reason.OtherType u p) → word_of 4 (drop p xs) ≡ u
  shown-row u p q =
      let x = reason-true xs o e w h t (Ok (reason.OtherType u p)) q in
      rw (x.place, x.tag) at (row-stands xs w x.column x.like.there)

  absent-shown : (p : ℕ) → IsAbsent (book_in xs) w (start_for xs w) t p → Shown xs (book_in xs) w t p
  absent-shown p x =
      let b : Book = book_in xs in
      let g = book-reads xs o e in
      let l : length (row_for b w) ≡ length (columns_for b w) =
      row-long (slots_under b w) (row_for b w) (row-sound b g.0 w h) ∙ slots-reach b w in
      let c : x.column < length (row_for b w) = rw l x.whole.there in
      let d = record-stands xs b g.0 g.1 w h in
      record {
        column = x.column;
        whole = x.whole;
        within = rw x.place at (octet-inside xs (start_for xs w) x.column (row_for b w) (behind_for b w) d c);
        bit = rw x.place at (bit-stands xs (start_for xs w) x.column (row_for b w) (behind_for b w) d c x.absent);
      }

  -- the tag's bit is 0 in the octet at the place that is shown
  pub shown-listed : (p : ℕ) → why_of xs w t ≡ Ok (reason.Listed p) → Shown xs (book_in xs) w t p
  shown-listed p q = absent-shown p (reason-true xs o e w h t (Ok (reason.Listed p)) q).0

  pub shown-not-listed : (p : ℕ) → why_of xs w t ≡ Ok (reason.NotListed p) → Shown xs (book_in xs) w t p
  shown-not-listed p q = absent-shown p (reason-true xs o e w h t (Ok (reason.NotListed p)) q).0
