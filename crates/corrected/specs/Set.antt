-- Setting a value of a record, or clearing it: demand 2, the call is done exactly when what it asks holds; demand 3, it leaves the corrected book.
use Prim.Native.Nat.{ℕ, ◌≤◌}
use Rattle.std.proofs.Common.{arith, sym, ◌∙◌}
use Rattle.std.specs.Prelude.{Ok, ◌≡◌}
use Rattle.std.proofs.Math.Path.{ap}
use Rattle.std.proofs.Math.Bool.{true, false, not}
use Rattle.std.proofs.Math.Option.{Option}
use mathlib.Core.List.{List}
use Rattle.std.proofs.Math.ListN.{length, get_or, take}
use Rattle.std.proofs.lemmas.Bool.{not-true}
use Rattle.octets.specs.Octets.{Octets}
use Rattle.answers.specs.Numbers.{out_of_turn, breaks_rule, breaks_form, most_octets}
use Rattle.answers.specs.Made.{answered-done, done-answered}
use Rattle.answers.specs.Verdict.{clear}
use Rattle.answers.specs.Verdict.{need, both, apart, met, unmet}
use Rattle.table.specs.Columns.{tags_of}
use Rattle.table.specs.Found.{Found}
use Rattle.table.specs.Found.{At}
use Rattle.table.specs.Found.{is_found, column_of}
use Rattle.entry.specs.Record.{Slot, SoundEntry, no_slot}
use Rattle.book.specs.Book.{Book, book_octets}
use Rattle.lookup.specs.Look.{column_in}
use Rattle.lookup.specs.Laws.{column-in}
use Rattle.lookup.specs.declared.Which.{Which}
use Rattle.editing.specs.Put.{set_in}
use Rattle.editing.specs.Done.{set_to, set_is, set-sound}
use Rattle.lookup.specs.Named.{There, columns_for, slots_under, has_record, named_in, has_named}
use Rattle.correcting.specs.Correct.{book_at, fits, losing, column_for, slot_for, entry_at, set_at, set_book, set_answer}
use Rattle.correcting.specs.Correct.{set_octets}
use Rattle.corrected.specs.Named.{count_of, column-for, slot-for, found-is, Offers, entry-sound, entry-fits, entry-keeps}
use Rattle.corrected.specs.Call.{BookIn, book-may, book-good, room-may, room-good, Corrects, corrects}

-- The book has the named record and a column with the whole tag; the column may hold what is offered, a value of its form to the last octet, or nothing
-- where it is no key; the corrected book keeps the limit and has room.
pub record SetMay (d : List ℕ) (len : ℕ) (which : Which) (t : ℕ) (e : Option (List ℕ)) : Type 0 where
  pub on : BookIn d len
  pub named : There on.book which
  pub column : ℕ
  pub found : column_in t (tags_of (columns_for on.book which)) ≡ At column
  pub holds : SoundEntry (get_or (slots_under on.book which) column no_slot) e
  pub short : length (book_octets (set_to which column e on.book)) ≤ most_octets
  pub room : length (book_octets (set_to which column e on.book)) ≤ length d

-- the octets of the corrected book
set-comes : (d : List ℕ) (len : ℕ) (x : BookIn d len) (which : Which) (t c : ℕ) (e : Option (List ℕ)) → There x.book which → column_in t (tags_of (columns_for x.book which)) ≡ At c
    → set_in (take len d) which c e ≡ book_octets (set_to which c e x.book)
set-comes d len x which t c e h f = ap (λ (u : List ℕ). set_in u which c e) x.reads ∙ set_is x.book x.sound which c e h (column-in t (columns_for x.book which) c f)

module _ (d : List ℕ) (len : ℕ) (which : Which) (t : ℕ) (e : Option (List ℕ)) where
  from-set : (x : BookIn d len) (c : ℕ) → has_record (take len d) which ≡ true → column_for (take len d) which t ≡ At c → SoundEntry (slot_for (take len d) which c) e
      → length (set_in (take len d) which c e) ≤ most_octets → length (set_in (take len d) which c e) ≤ length d → SetMay d len which t e
  from-set x c h f g i j =
      let y : There x.book which = named_in (take len d) x.book (count_of (take len d) x.book x.reads x.sound) which h in
      let z : column_in t (tags_of (columns_for x.book which)) ≡ At c = sym (column-for (take len d) x.book x.reads x.sound which t) ∙ f in
      let w = ap length (set-comes d len x which t c e y z) in
      record { on = x; named = y; column = c; found = z; holds = rw (slot-for (take len d) x.book x.reads x.sound which c) at g; short = omega arith; room = omega arith }

  -- answered with a new length: what is asked holds
  pub set-may : Octets d → Offers e → (m : ℕ) → set_answer d len which t e ≡ Ok m → SetMay d len which t e
  unfolding set_answer set_at entry_at
  set-may od o m h =
      let xs : List ℕ = take len d in
      let f : Found = column_for xs which t in
      let s : Slot = slot_for xs which (column_of f) in
      let v = answered-done (set_at d len which t e) (length (set_book d len which t e)) m h in
      let c₁ = apart (book_at d len) _ v.0 in
      let c₂ = apart (need (has_record xs which) out_of_turn 0) _ c₁.1 in
      let c₃ = apart (need (is_found f) out_of_turn 0) _ c₂.1 in
      let c₄ = apart (need (fits e s) breaks_form 0) _ c₃.1 in
      let c₅ = apart (need (not (losing e s)) breaks_rule 0) _ c₄.1 in
      let r = room-may (length (set_in xs which (column_of f) e)) d c₅.1 in
      from-set (book-may d od len c₁.0) (column_of f) (unmet _ out_of_turn 0 c₂.0) (found-is f (unmet _ out_of_turn 0 c₃.0))
      (entry-sound e s o (unmet _ breaks_form 0 c₄.0) (not-true (losing e s) (unmet _ breaks_rule 0 c₅.0))) r.0 r.1

  module _ (x : SetMay d len which t e) where
    abbrev b : Book
    b = x.on.book

    column-is : column_for (take len d) which t ≡ At x.column
    column-is = column-for (take len d) b x.on.reads x.on.sound which t ∙ x.found

    pub set-book : set_book d len which t e ≡ book_octets (set_to which x.column e b)
    unfolding set_book
    set-book = ap (λ (f : Found). set_in (take len d) which (column_of f) e) column-is ∙ set-comes d len x.on which t x.column e x.named x.found

    entry-good : entry_at d (take len d) which x.column e ≡ clear
    unfolding entry_at
    entry-good =
        let s : slot_for (take len d) which x.column ≡ get_or (slots_under b which) x.column no_slot = slot-for (take len d) b x.on.reads x.on.sound which x.column in
        let w : length (set_in (take len d) which x.column e) ≡ length (book_octets (set_to which x.column e b)) = ap length (set-comes d len x.on which t x.column e x.named x.found) in
        let f : fits e (slot_for (take len d) which x.column) ≡ true = rw s (entry-fits e (get_or (slots_under b which) x.column no_slot) x.holds) in
        let l : losing e (slot_for (take len d) which x.column) ≡ false = rw s (entry-keeps e (get_or (slots_under b which) x.column no_slot) x.holds) in
        both (met breaks_form 0 f) (both (met breaks_rule 0 (ap not l))
        (room-good (length (set_in (take len d) which x.column e)) d (rw w x.short) (rw w x.room)))

    pub set-clear : set_at d len which t e ≡ clear
    unfolding set_at
    set-clear =
        both (book-good d len x.on)
        (both (met out_of_turn 0 (has_named (take len d) b (count_of (take len d) b x.on.reads x.on.sound) which x.named))
        (both (met out_of_turn 0 (ap is_found column-is))
        (ap (λ (f : Found). entry_at d (take len d) which (column_of f) e) column-is ∙ entry-good)))

    -- what is asked holds: answered with the corrected book's length
    pub set-answered : set_answer d len which t e ≡ Ok (length (book_octets (set_to which x.column e b)))
    unfolding set_answer
    set-answered = done-answered (set_at d len which t e) (length (set_book d len which t e)) _ set-clear (ap length set-book)

-- What was asked held; and the buffer holds the book with the column's entry in the named record become what was offered.
pub record SetDone (d : List ℕ) (len : ℕ) (which : Which) (t : ℕ) (e : Option (List ℕ)) (m : ℕ) : Type 0 where
  pub may : SetMay d len which t e
  pub corrects : Corrects d len (set_octets d len which t e) m may.on.book (set_to which may.column e may.on.book)

from-may : (d : List ℕ) (len : ℕ) (which : Which) (t : ℕ) (e : Option (List ℕ)) (m : ℕ)
    → SetMay d len which t e → set_answer d len which t e ≡ Ok m → SetDone d len which t e m
unfolding set_answer set_octets
from-may d len which t e m x h =
    let b : Book = x.on.book in
    let w = column-in t (columns_for b which) x.column x.found in
    let v = answered-done (set_at d len which t e) (length (set_book d len which t e)) m h in
    record {
      may = x;
      corrects = corrects d len (set_at d len which t e) (set_book d len which t e) m x.on (set_to which x.column e b) v.0 (set-book d len which t e x) v.1
          (set-sound b x.on.sound no_slot which x.column e x.named w x.holds x.short) x.room;
    }

-- Setting or clearing a value in an address record or the header record: where the call is answered with a new length it leaves the corrected book.
pub set-done : (d : List ℕ) → Octets d → (len : ℕ) (which : Which) (t : ℕ) (e : Option (List ℕ)) → Offers e → (m : ℕ)
    → set_answer d len which t e ≡ Ok m → SetDone d len which t e m
set-done d od len which t e o m h = from-may d len which t e m (set-may d len which t e od o m h) h
