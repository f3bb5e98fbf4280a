-- Where the walk over a record's octets finds a column's value, or where it would stand: what the book says. So a value set or cleared by what the octets
-- say alone gives the corrected book, and that book is sound.
use Rattle.std.specs.Prelude.{ℕ, zero, suc, ◌+◌, ◌^◌, ◌≤◌, ◌<◌, ◌≡◌, true, false, List, [], ◌∷◌, ◌++◌, length, get_or, take, drop, set}
use Rattle.std.proofs.Common.{add-zero, arith, sym, ap, ◌∙◌, length-append}
use Rattle.std.proofs.Math.Option.{Option, none, some}
use Rattle.std.proofs.Math.Seq.{drop-append_seam}
use Rattle.answers.specs.Numbers.{most_octets}
use Rattle.presence.specs.Presence.{room}
use Rattle.value.specs.Form.{value-back}
use Rattle.entry.specs.Present.{Row, presence_of, Bits, presence-bits}
use Rattle.entry.specs.Record.{Slot, values_of, row_octets, SoundEntry, SoundRow, row-long, row-size, present-is, values-are}
use Rattle.book.specs.Rows.{rows_octets}
use Rattle.book.specs.Book.{Book, Sound, slots-long, head_slots, row_slots, book_octets}
use Rattle.book.specs.Whole.{records-short}
use Rattle.lookup.specs.Places.{place_of, row_at, sound-at, row_below, record-from, head-from}
use Rattle.entry.specs.Values.{value_offset}
use Rattle.entry.specs.Values.{entry_octets}
use Rattle.lookup.specs.Laws.{value_place}
use Rattle.editing.specs.Put.{resealed, Spot, spot_from, spot_in, spliced, set_at}
use Rattle.editing.specs.Edit.{edit, edited-length, edit-sound}
use Rattle.editing.specs.Entry.{entry_at, put-sound}
use Rattle.editing.specs.Set.{new_size, book-set, headed, head_place, head-set}

-- the spot of an entry
abbrev pub spot_of : ℕ → Option (List ℕ) → Spot
spot_of at e = record { start = at; long = length (entry_octets e) }

spot-from : (ss : List Slot) (es : Row) (c i : ℕ) (p : List ℕ) (at : ℕ) → SoundRow ss es → Bits p i es → c < length es
    → spot_from ss c i p at (values_of es) ≡ spot_of (at + value_offset c es) (entry_at es c)
unfolding spot_from
spot-from [] [] c i p at h b l = absurd (omega arith)
spot-from [] (e ∷ es) c i p at h b l = absurd h
spot-from (s ∷ ss) [] c i p at h b l = absurd h
spot-from (s ∷ ss) (none ∷ es) zero i p at h b l = rw (b.0, add-zero at)
spot-from (s ∷ ss) (some v ∷ es) zero i p at h b l = rw (b.0, value-back s.form v h.0.0 (values_of es), add-zero at)
spot-from (s ∷ ss) (none ∷ es) (suc c) i p at h b l = rw b.0 (spot-from ss es c (suc i) p at h.1 b.1 (omega arith))
spot-from (s ∷ ss) (some v ∷ es) (suc c) i p at h b l =
    let n = length-append v (values_of (take c es)) in
    let z : at + length v + value_offset c es ≡ at + value_offset (suc c) (some v ∷ es) = omega arith in
    rw (b.0, value-back s.form v h.0.0 (values_of es), drop-append_seam v (values_of es), ← z) (spot-from ss es c (suc i) p (at + length v) h.1 b.1 (omega arith))

pub spot_in_lem : (ss : List Slot) (es : Row) (c at : ℕ) (rest : List ℕ) → SoundRow ss es → length (row_octets es) < 2 ^ 32 → c < length ss
    → spot_in ss c at (row_octets es ++ rest) ≡ spot_of (value_place at (length ss) c es) (entry_at es c)
unfolding spot_in
spot_in_lem ss es c at rest h k l =
    let m : length es ≡ length ss = row-long ss es h in
    rw (present-is es rest (length ss) m, values-are es rest (length ss) m k)
    (spot-from ss es c 0 (presence_of es) (at + 4 + room (length ss)) h (presence-bits es) (omega arith))

-- ---- the corrected book

set-at-is : (ss : List Slot) (es : Row) (c at : ℕ) (e : Option (List ℕ)) (xs rest : List ℕ) → drop at xs ≡ row_octets es ++ rest → SoundRow ss es → length (row_octets es) < 2 ^ 32 → c < length ss
    → set_at ss c at e xs ≡ spliced at (length ss) c (value_place at (length ss) c es) (length (entry_octets (entry_at es c))) (new_size es c e) e (presence_of es) xs
unfolding set_at
set-at-is ss es c at e xs rest d h k l =
    rw (d, spot_in_lem ss es c at rest h k l, row-size es rest k, present-is es rest (length ss) (row-long ss es h))

pub set-row-is : (b : Book) → Sound b → (k c : ℕ) (e : Option (List ℕ)) → k < length b.rows → c < length b.cols
    → resealed (length b.rows) (set_at (row_slots b.cols) c (place_of b k) e (book_octets b)) ≡ book_octets (edit k 1 (set (row_at b k) c e ∷ []) b)
set-row-is b s k c e h l =
    let n = slots-long true b.cols in
    let i = row_below b.rows k h in
    let q = set-at-is (row_slots b.cols) (row_at b k) c (place_of b k) e (book_octets b) (rows_octets (drop (suc k) b.rows)) (record-from b k h)
    (sound-at (row_slots b.cols) b.rows k s.rows h) (omega (arith, records-short b s)) (omega arith) in
    ap (resealed (length b.rows)) (rw n at q) ∙ sym (book-set b s k c e h l)

pub set-head-is : (b : Book) → Sound b → (c : ℕ) (e : Option (List ℕ)) → c < length b.heads
    → resealed (length b.rows) (set_at (head_slots b.heads) c (head_place b) e (book_octets b)) ≡ book_octets (headed (set b.head c e) b)
set-head-is b s c e l =
    let n = slots-long false b.heads in
    let q = set-at-is (head_slots b.heads) b.head c (head_place b) e (book_octets b) (rows_octets b.rows) (head-from b)
    s.head (omega (arith, records-short b s)) (omega arith) in
    ap (resealed (length b.rows)) (rw n at q) ∙ sym (head-set b s c e l)

-- ---- it is sound again

pub set-row-sound : (b : Book) → Sound b → (d : Slot) (k c : ℕ) (e : Option (List ℕ)) → k < length b.rows → c < length b.cols → SoundEntry (get_or (row_slots b.cols) c d) e
    → length (book_octets (edit k 1 (set (row_at b k) c e ∷ []) b)) ≤ most_octets → Sound (edit k 1 (set (row_at b k) c e ∷ []) b)
set-row-sound b s d k c e h l g m =
    let ss : List Slot = row_slots b.cols in
    let n = slots-long true b.cols in
    let i = edited-length k 1 (set (row_at b k) c e ∷ []) b.rows (omega arith) in
    edit-sound k 1 (set (row_at b k) c e ∷ []) b s (put-sound e d c ss (row_at b k) (sound-at ss b.rows k s.rows h) (omega arith) g, tt) (omega (arith, s.some)) (omega (arith, s.few)) m

pub set-head-sound : (b : Book) → Sound b → (d : Slot) (c : ℕ) (e : Option (List ℕ)) → c < length b.heads → SoundEntry (get_or (head_slots b.heads) c d) e
    → length (book_octets (headed (set b.head c e) b)) ≤ most_octets → Sound (headed (set b.head c e) b)
unfolding headed
set-head-sound b s d c e l g m =
    let n = slots-long false b.heads in
    record {
      heads = s.heads;
      cols = s.cols;
      head = put-sound e d c (head_slots b.heads) b.head s.head (omega arith) g;
      rows = s.rows;
      some = s.some;
      few = s.few;
      short = m;
    }
