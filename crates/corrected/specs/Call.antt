-- What every call asks first and last, and what every call that is done leaves. Demand 3 begins here: a column's unused flag bits are part of its flags in
-- the model, so every theorem of this crate is also that of a book with unused bits set. They stay in place, and the serial is worked out with them.
use Rattle.std.specs.Prelude.{ℕ, ◌≤◌, ◌<◌, ◌≡◌, List, leb, length, take}
use Rattle.std.proofs.Common.{arith, sym, ap, ◌∙◌, leb-true, le-leb}
use Rattle.octets.specs.Octets.{octet_at, Octets, octets-take}
use Rattle.answers.specs.Numbers.{out_of_turn, breaks_rule, no_room, most_octets}
use Rattle.answers.specs.Verdict.{Verdict}
use Rattle.answers.specs.Verdict.{clear}
use Rattle.answers.specs.Verdict.{need, kept, both, apart, met, unmet}
use Rattle.book.specs.Book.{Book, Sound, book_octets, judge, judge-back}
use Rattle.book.specs.Whole.{judge-sound}
use Rattle.editing.specs.Put.{buffer_of}
use Rattle.correcting.specs.Correct.{book_at, room_for}
use Rattle.corrected.specs.Buffer.{buffer-front, buffer-length, buffer-zero, buffer-past}

-- ---- first: a book

-- the stated length is within the buffer, and the octets up to it are a sound book
pub record BookIn (d : List ℕ) (len : ℕ) : Type 0 where
  pub book : Book
  pub sound : Sound book
  pub reads : take len d ≡ book_octets book
  pub whole : len ≤ length d

pub book-may : (d : List ℕ) → Octets d → (len : ℕ) → book_at d len ≡ clear → BookIn d len
unfolding book_at
book-may d o len e =
    let c = apart (need (leb len (length d)) out_of_turn 0) _ e in
    let b = judge-sound (take len d) (octets-take len d o) c.1 in
    record { book = b.book; sound = b.sound; reads = b.reads; whole = leb-true len (length d) (unmet _ out_of_turn 0 c.0) }

pub book-good : (d : List ℕ) (len : ℕ) → BookIn d len → book_at d len ≡ clear
unfolding book_at
book-good d len x = both (met out_of_turn 0 (le-leb len (length d) x.whole)) (ap judge x.reads ∙ judge-back x.book x.sound)

-- ---- last: the limit, then room

pub room-may : (n : ℕ) (d : List ℕ) → room_for n d ≡ clear → (n ≤ most_octets) × (n ≤ length d)
unfolding room_for
room-may n d e =
    let c = apart (need (leb n most_octets) breaks_rule 0) _ e in
    (leb-true n most_octets (unmet _ breaks_rule 0 c.0), leb-true n (length d) (unmet _ no_room 0 c.1))

pub room-good : (n : ℕ) (d : List ℕ) → n ≤ most_octets → n ≤ length d → room_for n d ≡ clear
unfolding room_for
room-good n d h k = both (met breaks_rule 0 (le-leb n most_octets h)) (met no_room 0 (le-leb n (length d) k))

-- ---- what a call that is done leaves

-- In d a book of len octets stands in front: it is the sound book b. In o, as long as d, the book of m octets in front is c, sound and judged good; the
-- octets from the new length m up to the old length len are zero; those past both are d's.
pub record Corrects (d : List ℕ) (len : ℕ) (o : List ℕ) (m : ℕ) (b c : Book) : Type 0 where
  pub sound : Sound b
  pub reads : take len d ≡ book_octets b
  pub again : Sound c
  pub comes : take m o ≡ book_octets c
  pub good : judge (take m o) ≡ clear
  pub long : m ≡ length (book_octets c)
  pub zeros : (i : ℕ) → m ≤ i → i < len → octet_at o i ≡ 0
  pub past : (i : ℕ) → m ≤ i → len ≤ i → octet_at o i ≡ octet_at d i
  pub same : length o ≡ length d

pub corrects : (d : List ℕ) (len : ℕ) (v : Verdict) (new : List ℕ) (m : ℕ) (x : BookIn d len) (c : Book) → v ≡ clear → new ≡ book_octets c → length new ≡ m → Sound c
    → length (book_octets c) ≤ length d → Corrects d len (kept v d (buffer_of d len new)) m x.book c
corrects d len v new m x c e q l t h =
    let o : List ℕ = kept v d (buffer_of d len new) in
    let z : o ≡ buffer_of d len new = ap (λ (u : Verdict). kept u d (buffer_of d len new)) e in
    let f : take m o ≡ book_octets c = ap (take m) z ∙ ap (λ (n : ℕ). take n (buffer_of d len new)) (sym l) ∙ buffer-front d len new ∙ q in
    record {
      sound = x.sound;
      reads = x.reads;
      again = t;
      comes = f;
      good = ap judge f ∙ judge-back c t;
      long = sym l ∙ ap length q;
      zeros = λ i g j. ap (λ (y : List ℕ). octet_at y i) z ∙ buffer-zero d len new i (omega arith) j;
      past = λ i g j. ap (λ (y : List ℕ). octet_at y i) z ∙ buffer-past d len new i (omega arith) j;
      same = ap length z ∙ buffer-length d len new x.whole (rw q h);
    }
