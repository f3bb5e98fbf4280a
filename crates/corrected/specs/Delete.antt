-- Deleting record k: demand 2, the call is done exactly when what it asks holds; demand 3, it leaves the corrected book.
use Prim.Native.Nat.{ℕ, ◌<◌}
use Rattle.std.proofs.Common.{arith, ◌∙◌, length-take-le, ltb-true, lt-ltb}
use Rattle.std.specs.Prelude.{Ok, ◌≡◌, ltb}
use Rattle.std.proofs.Math.Path.{ap}
use mathlib.Core.List.{List, []}
use Rattle.std.proofs.Math.ListN.{length, take}
use Rattle.octets.specs.Octets.{Octets}
use Rattle.answers.specs.Numbers.{out_of_turn, breaks_rule}
use Rattle.answers.specs.Made.{answered-done, done-answered}
use Rattle.answers.specs.Verdict.{clear}
use Rattle.answers.specs.Verdict.{need, both, apart, met, unmet}
use Rattle.book.specs.Book.{Book, book_octets, count_in}
use Rattle.editing.specs.Put.{corrected_of}
use Rattle.editing.specs.Edit.{edit}
use Rattle.editing.specs.Records.{deleted, deleted-length, deleted-sound}
use Rattle.correcting.specs.Correct.{book_at, delete_book, delete_at, delete_answer, delete_octets}
use Rattle.corrected.specs.Named.{count_of}
use Rattle.corrected.specs.Call.{BookIn, book-may, book-good, Corrects, corrects}

-- the book has record k, and others
pub record DeleteMay (d : List ℕ) (len k : ℕ) : Type 0 where
  pub on : BookIn d len
  pub within : k < length on.book.rows
  pub others : 1 < length on.book.rows

module _ (d : List ℕ) (len k : ℕ) where
  from-delete : (x : BookIn d len) → k < count_in (take len d) → 1 < count_in (take len d) → DeleteMay d len k
  from-delete x h g =
      let c : count_in (take len d) ≡ length x.book.rows = count_of (take len d) x.book x.reads x.sound in
      record { on = x; within = rw c at h; others = rw c at g }

  -- answered with a new length: what is asked holds
  pub delete-may : Octets d → (m : ℕ) → delete_answer d len k ≡ Ok m → DeleteMay d len k
  unfolding delete_answer delete_at
  delete-may od m h =
      let xs : List ℕ = take len d in
      let v = answered-done (delete_at d len k) (length (delete_book d len k)) m h in
      let c₁ = apart (book_at d len) _ v.0 in
      let c₂ = apart (need (ltb k (count_in xs)) out_of_turn 0) _ c₁.1 in
      from-delete (book-may d od len c₁.0) (ltb-true k (count_in xs) (unmet _ out_of_turn 0 c₂.0)) (ltb-true 1 (count_in xs) (unmet _ breaks_rule 0 c₂.1))

  module _ (x : DeleteMay d len k) where
    abbrev b : Book
    b = x.on.book

    pub delete-book : delete_book d len k ≡ book_octets (edit k 1 [] b)
    unfolding delete_book
    delete-book = ap (corrected_of k 1 0 []) x.on.reads ∙ deleted k b x.on.sound x.within

    pub delete-clear : delete_at d len k ≡ clear
    unfolding delete_at
    delete-clear =
        let c : count_in (take len d) ≡ length b.rows = count_of (take len d) b x.on.reads x.on.sound in
        both (book-good d len x.on)
        (both (met out_of_turn 0 (lt-ltb k (count_in (take len d)) (rw c x.within))) (met breaks_rule 0 (lt-ltb 1 (count_in (take len d)) (rw c x.others))))

    -- what is asked holds: answered with the corrected book's length
    pub delete-answered : delete_answer d len k ≡ Ok (length (book_octets (edit k 1 [] b)))
    unfolding delete_answer
    delete-answered = done-answered (delete_at d len k) (length (delete_book d len k)) _ delete-clear (ap length delete-book)

-- What was asked held; and the buffer holds the book with record k taken out.
pub record DeleteDone (d : List ℕ) (len k m : ℕ) : Type 0 where
  pub may : DeleteMay d len k
  pub corrects : Corrects d len (delete_octets d len k) m may.on.book (edit k 1 [] may.on.book)

from-may : (d : List ℕ) (len k m : ℕ) → DeleteMay d len k → delete_answer d len k ≡ Ok m → DeleteDone d len k m
unfolding delete_answer delete_octets
from-may d len k m x h =
    let b : Book = x.on.book in
    let v = answered-done (delete_at d len k) (length (delete_book d len k)) m h in
    let l = deleted-length k b x.on.sound x.within in
    let r = ap length x.on.reads in
    let t = length-take-le len d x.on.whole in
    let w = x.on.whole in
    record {
      may = x;
      corrects = corrects d len (delete_at d len k) (delete_book d len k) m x.on (edit k 1 [] b) v.0 (delete-book d len k x) v.1
          (deleted-sound k b x.on.sound x.within x.others) (omega arith);
    }

-- Deleting record k: where the call is answered with a new length it leaves the corrected book.
pub delete-done : (d : List ℕ) → Octets d → (len k m : ℕ) → delete_answer d len k ≡ Ok m → DeleteDone d len k m
delete-done d od len k m h = from-may d len k m (delete-may d len k od m h) h
