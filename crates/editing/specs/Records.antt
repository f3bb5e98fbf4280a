-- Records replaced by what the octets say alone: the places found by walking are the book's, so what comes out is the corrected book; where it keeps the
-- limits it is sound, so it is judged good.
use Rattle.std.specs.Prelude.{ℕ, ◌+◌, ◌-◌, ◌≤◌, ◌<◌, ◌≡◌, List, [], ◌∷◌}
use Rattle.std.proofs.Common.{add-zero, sym, ap, ◌∙◌}
use native.Mathlib.Omega.{arith}
use Rattle.std.proofs.Math.ListN.{length}
use Rattle.answers.specs.Numbers.{most_octets, most_records}
use Rattle.entry.specs.Present.{Row}
use Rattle.entry.specs.Record.{row_octets, SoundRow}
use Rattle.book.specs.Rows.{rows_octets, SoundRows}
use Rattle.book.specs.Book.{Book, Sound, row_slots, book_octets, count_in}
use Rattle.book.specs.Whole.{count-in}
use Rattle.lookup.specs.Places.{place_of, place_in, place-in, row_at}
use Rattle.editing.specs.Put.{corrected_of}
use Rattle.editing.specs.Edit.{edited, edit, edited-length, edit-sound, edit-length, book-edited, one-row, place-next}

module _ (k m : ℕ) (news : List Row) (b : Book) (s : Sound b) (h : k + m ≤ length b.rows) where
  pub corrected-is : corrected_of k m (length news) (rows_octets news) (book_octets b) ≡ book_octets (edit k m news b)
  unfolding corrected_of
  corrected-is =
      let n = edited-length k m news b.rows h in
      let c : length b.rows + length news - m ≡ length (edited k m news b.rows) = omega arith in
      rw (count-in b s, place-in b s k (omega arith), place-in b s (k + m) h, c) (sym (book-edited k m news b))

  pub corrected-sound : SoundRows (row_slots b.cols) news → 1 ≤ length b.rows + length news - m → length b.rows + length news - m ≤ most_records
      → length (book_octets (edit k m news b)) ≤ most_octets → Sound (edit k m news b)
  corrected-sound g i j l =
      let n = edited-length k m news b.rows h in
      edit-sound k m news b s g (omega arith) (omega arith) l

-- the new length, by the places
corrected-long : (k m : ℕ) (news : List Row) (xs : List ℕ) (b : Book) → xs ≡ book_octets b → Sound b → k + m ≤ count_in xs
    → length (corrected_of k m (length news) (rows_octets news) xs) + place_in xs (k + m) ≡ length xs + (place_in xs k + length (rows_octets news))
corrected-long k m news xs b r s h =
    let c : count_in xs ≡ length b.rows = ap count_in r ∙ count-in b s in
    let comes : corrected_of k m (length news) (rows_octets news) xs ≡ book_octets (edit k m news b) =
    ap (corrected_of k m (length news) (rows_octets news)) r ∙ corrected-is k m news b s (omega arith) in
    let p : place_in xs k ≡ place_of b k = ap (λ (z : List ℕ). place_in z k) r ∙ place-in b s k (omega arith) in
    let q : place_in xs (k + m) ≡ place_of b (k + m) = ap (λ (z : List ℕ). place_in z (k + m)) r ∙ place-in b s (k + m) (omega arith) in
    let y = edit-length k m news b in
    let z = ap length comes in
    let w = ap length r in
    omega arith

-- ---- one record put in before record k

module _ (k : ℕ) (r : Row) (b : Book) (s : Sound b) (h : k ≤ length b.rows) where
  pub inserted : corrected_of k 0 1 (row_octets r) (book_octets b) ≡ book_octets (edit k 0 (r ∷ []) b)
  inserted = ap (λ (l : List ℕ). corrected_of k 0 1 l (book_octets b)) (sym (one-row r)) ∙ corrected-is k 0 (r ∷ []) b s (omega arith)

  pub inserted-sound : SoundRow (row_slots b.cols) r → length b.rows < most_records → length (book_octets (edit k 0 (r ∷ []) b)) ≤ most_octets → Sound (edit k 0 (r ∷ []) b)
  inserted-sound g j l = corrected-sound k 0 (r ∷ []) b s (omega arith) (g, tt) (omega arith) (omega arith) l

  pub inserted-length : length (book_octets (edit k 0 (r ∷ []) b)) ≡ length (book_octets b) + length (row_octets r)
  inserted-length =
      let n = edit-length k 0 (r ∷ []) b in
      let p = ap (place_of b) (add-zero k) in
      let l = ap length (one-row r) in
      omega arith

-- ---- record k taken out

module _ (k : ℕ) (b : Book) (s : Sound b) (h : k < length b.rows) where
  pub deleted : corrected_of k 1 0 [] (book_octets b) ≡ book_octets (edit k 1 [] b)
  deleted = corrected-is k 1 [] b s (omega arith)

  pub deleted-length : length (book_octets (edit k 1 [] b)) + length (row_octets (row_at b k)) ≡ length (book_octets b)
  deleted-length =
      let n = edit-length k 1 [] b in
      let p = place-next b k h in
      omega arith

  -- the book gets shorter, so it keeps the limits
  pub deleted-sound : 1 < length b.rows → Sound (edit k 1 [] b)
  deleted-sound j = corrected-sound k 1 [] b s (omega arith) tt (omega arith) (omega (arith, s.few)) (omega (arith, deleted-length, s.short))
