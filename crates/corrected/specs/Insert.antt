-- Inserting a record before record k: demand 2, the call is done exactly when what it asks holds; demand 3, it leaves the corrected book.
use Prim.Native.Nat.{ℕ, ◌^◌, ◌≤◌, ◌<◌}
use Rattle.std.proofs.Common.{arith, sym, ap₂, ◌∙◌, leb-true, le-leb, ltb-true, lt-ltb, eqb-true, eq-eqb}
use Rattle.std.specs.Prelude.{Ok, ◌≡◌, refl, true, eqb, ltb, leb, drop}
use Rattle.std.proofs.Math.Path.{ap}
use mathlib.Core.List.{List, [], ◌∷◌, ◌++◌, append-nil}
use Rattle.std.proofs.Math.ListN.{length, take}
use Rattle.octets.specs.Octets.{Octets}
use Rattle.octets.specs.Word.{word_of}
use Rattle.answers.specs.Numbers.{out_of_turn, breaks_rule, breaks_form, most_octets, most_records}
use Rattle.answers.specs.Made.{answered-done, done-answered}
use Rattle.answers.specs.Verdict.{Verdict}
use Rattle.answers.specs.Verdict.{clear, Refused}
use Rattle.answers.specs.Verdict.{need, both, apart, met, unmet}
use Rattle.entry.specs.Present.{Row, presence_of, presence-bits}
use Rattle.entry.specs.Record.{is_clear, Slot, row_octets, SoundRow, record_at, keys_at, freed, freed-row, present_in, present-is, row-long, row-size, record-back, keys-back}
use Rattle.book.specs.Book.{Book, row_slots, book_octets, cols_in, count_in}
use Rattle.editing.specs.Put.{corrected_of}
use Rattle.editing.specs.Edit.{edit}
use Rattle.editing.specs.Offered.{Offered, offered-keyed}
use Rattle.editing.specs.Records.{inserted, inserted-sound, inserted-length}
use Rattle.correcting.specs.Correct.{book_at, offered_at, insert_book, insert_at, insert_answer, insert_octets}
use Rattle.corrected.specs.Named.{count_of, cols-of}
use Rattle.corrected.specs.Call.{BookIn, book-may, book-good, room-may, room-good, Corrects, corrects}

-- ---- the record offered

is-clear : (v : Verdict) → is_clear v ≡ true → v ≡ clear
is-clear (Ok _) e = refl
is-clear (Refused r) e = let z : ◌≡◌ {A = ℕ} 0 1 = cc in absurd (omega arith)

offered-may : (ss : List Slot) (new : List ℕ) → Octets new → offered_at ss new ≡ clear → Offered ss new
unfolding offered_at
offered-may ss new o e =
    let a = apart (need (is_clear (record_at (freed ss) 0 new)) breaks_form 0) _ e in
    let b = apart (need (eqb (word_of 4 new) (length new)) breaks_form 0) _ a.1 in
    offered-keyed ss new o (is-clear _ (unmet _ breaks_form 0 a.0)) (eqb-true (word_of 4 new) (length new) (unmet _ breaks_form 0 b.0)) (is-clear _ (unmet _ breaks_rule 0 b.1))

offered-good : (ss : List Slot) (es : Row) → SoundRow ss es → length (row_octets es) < 2 ^ 32 → offered_at ss (row_octets es) ≡ clear
unfolding offered_at
offered-good ss es h k =
    let z : row_octets es ≡ row_octets es ++ [] = sym (append-nil (row_octets es)) in
    let r : record_at (freed ss) 0 (row_octets es) ≡ clear = ap (record_at (freed ss) 0) z ∙ record-back (freed ss) es 0 [] (freed-row ss es h) k in
    let w : word_of 4 (row_octets es) ≡ length (row_octets es) = ap (word_of 4) z ∙ row-size es [] k in
    let p : present_in (length ss) (row_octets es) ≡ presence_of es = ap (present_in (length ss)) z ∙ present-is es [] (length ss) (row-long ss es h) in
    both (met breaks_form 0 (ap is_clear r)) (both (met breaks_form 0 (eq-eqb (word_of 4 (row_octets es)) (length (row_octets es)) w))
    (met breaks_rule 0 (ap is_clear (ap (λ (q : List ℕ). keys_at ss 0 q 4) p ∙ keys-back ss es 0 (presence_of es) 4 h (presence-bits es)))))

-- ---- the call

-- k is up to the book's count; what is offered is one record under its columns, to the last octet, keys there; the book isn't full; the corrected book keeps
-- the limit and has room.
pub record InsertMay (d : List ℕ) (len k : ℕ) (new : List ℕ) : Type 0 where
  pub on : BookIn d len
  pub within : k ≤ length on.book.rows
  pub row : Row
  pub offered : new ≡ row_octets row
  pub fits : SoundRow (row_slots on.book.cols) row
  pub few : length on.book.rows < most_records
  pub short : length (book_octets (edit k 0 (row ∷ []) on.book)) ≤ most_octets
  pub room : length (book_octets (edit k 0 (row ∷ []) on.book)) ≤ length d

insert-comes : (d : List ℕ) (len : ℕ) (x : BookIn d len) (k : ℕ) (new : List ℕ) (es : Row) → k ≤ length x.book.rows → new ≡ row_octets es
    → corrected_of k 0 1 new (take len d) ≡ book_octets (edit k 0 (es ∷ []) x.book)
insert-comes d len x k new es h f = ap (λ (l : List ℕ). corrected_of k 0 1 l (take len d)) f ∙ ap (corrected_of k 0 1 (row_octets es)) x.reads ∙ inserted k es x.book x.sound h

module _ (d : List ℕ) (len k : ℕ) (new : List ℕ) where
  from-insert : (x : BookIn d len) → k ≤ count_in (take len d) → Offered (row_slots (cols_in (drop 12 (take len d)))) new → count_in (take len d) < most_records
      → length (corrected_of k 0 1 new (take len d)) ≤ most_octets → length (corrected_of k 0 1 new (take len d)) ≤ length d → InsertMay d len k new
  from-insert x h f g i j =
      let c : count_in (take len d) ≡ length x.book.rows = count_of (take len d) x.book x.reads x.sound in
      let w = ap length (insert-comes d len x k new f.row (rw c at h) f.reads) in
      record {
        on = x;
        within = rw c at h;
        row = f.row;
        offered = f.reads;
        fits = rw (cols-of (take len d) x.book x.reads x.sound) at f.sound;
        few = rw c at g;
        short = omega arith;
        room = omega arith;
      }

  -- answered with a new length: what is asked holds
  pub insert-may : Octets d → Octets new → (m : ℕ) → insert_answer d len k new ≡ Ok m → InsertMay d len k new
  unfolding insert_answer insert_at insert_book
  insert-may od o m h =
      let xs : List ℕ = take len d in
      let v = answered-done (insert_at d len k new) (length (insert_book d len k new)) m h in
      let c₁ = apart (book_at d len) _ v.0 in
      let c₂ = apart (need (leb k (count_in xs)) out_of_turn 0) _ c₁.1 in
      let c₃ = apart (offered_at (row_slots (cols_in (drop 12 xs))) new) _ c₂.1 in
      let c₄ = apart (need (ltb (count_in xs) most_records) breaks_rule 0) _ c₃.1 in
      let r = room-may (length (corrected_of k 0 1 new xs)) d c₄.1 in
      from-insert (book-may d od len c₁.0) (leb-true k (count_in xs) (unmet _ out_of_turn 0 c₂.0)) (offered-may (row_slots (cols_in (drop 12 xs))) new o c₃.0)
      (ltb-true (count_in xs) most_records (unmet _ breaks_rule 0 c₄.0)) r.0 r.1

  module _ (x : InsertMay d len k new) where
    abbrev b : Book
    b = x.on.book

    pub insert-book : insert_book d len k new ≡ book_octets (edit k 0 (x.row ∷ []) b)
    unfolding insert_book
    insert-book = insert-comes d len x.on k new x.row x.within x.offered

    pub insert-clear : insert_at d len k new ≡ clear
    unfolding insert_at
    insert-clear =
        let c : count_in (take len d) ≡ length b.rows = count_of (take len d) b x.on.reads x.on.sound in
        let s : row_slots (cols_in (drop 12 (take len d))) ≡ row_slots b.cols = ap row_slots (cols-of (take len d) b x.on.reads x.on.sound) in
        let l = inserted-length k x.row b x.on.sound x.within in
        let i = x.short in
        let g : offered_at (row_slots b.cols) (row_octets x.row) ≡ clear = offered-good (row_slots b.cols) x.row x.fits (omega arith) in
        let w : length (insert_book d len k new) ≡ length (book_octets (edit k 0 (x.row ∷ []) b)) = ap length insert-book in
        both (book-good d len x.on)
        (both (met out_of_turn 0 (le-leb k (count_in (take len d)) (rw c x.within)))
        (both (ap₂ offered_at s x.offered ∙ g)
        (both (met breaks_rule 0 (lt-ltb (count_in (take len d)) most_records (rw c x.few)))
        (room-good (length (insert_book d len k new)) d (rw w x.short) (rw w x.room)))))

    -- what is asked holds: answered with the corrected book's length
    pub insert-answered : insert_answer d len k new ≡ Ok (length (book_octets (edit k 0 (x.row ∷ []) b)))
    unfolding insert_answer
    insert-answered = done-answered (insert_at d len k new) (length (insert_book d len k new)) _ insert-clear (ap length insert-book)

-- What was asked held; and the buffer holds the book with the record put in before record k.
pub record InsertDone (d : List ℕ) (len k : ℕ) (new : List ℕ) (m : ℕ) : Type 0 where
  pub may : InsertMay d len k new
  pub corrects : Corrects d len (insert_octets d len k new) m may.on.book (edit k 0 (may.row ∷ []) may.on.book)

from-may : (d : List ℕ) (len k : ℕ) (new : List ℕ) (m : ℕ) → InsertMay d len k new
    → insert_answer d len k new ≡ Ok m → InsertDone d len k new m
unfolding insert_answer insert_octets
from-may d len k new m x h =
    let b : Book = x.on.book in
    let v = answered-done (insert_at d len k new) (length (insert_book d len k new)) m h in
    record {
      may = x;
      corrects = corrects d len (insert_at d len k new) (insert_book d len k new) m x.on (edit k 0 (x.row ∷ []) b) v.0 (insert-book d len k new x) v.1
          (inserted-sound k x.row b x.on.sound x.within x.fits x.few x.short) x.room;
    }

-- Inserting a record before record k, k up to the count: where the call is answered with a new length it leaves the corrected book.
pub insert-done : (d : List ℕ) → Octets d → (len k : ℕ) (new : List ℕ) → Octets new → (m : ℕ)
    → insert_answer d len k new ≡ Ok m → InsertDone d len k new m
insert-done d od len k new o m h = from-may d len k new m (insert-may d len k new od o m h) h
