-- Where there is room, no call is refused that gives a sound book: what its records take is what the calls bring.
use Rattle.std.specs.Prelude.{ℕ, ◌+◌, ◌≤◌, ◌≡◌, refl, List, [], ◌∷◌, length}
use Rattle.std.proofs.Common.{arith, length-append, ne_eqb, lt-ltb, le-leb}
use Rattle.answers.specs.Numbers.{most_octets, most_opened}
use Rattle.answers.specs.Verdict.{clear}
use Rattle.answers.specs.Verdict.{both}
use Rattle.presence.specs.Presence.{room}
use Rattle.entry.specs.Present.{Row}
use Rattle.entry.specs.Record.{Slot, freed-row, row_octets}
use Rattle.book.specs.Rows.{rows_octets}
use Rattle.book.specs.Book.{Book, Sound, book_octets, head_slots, row_slots}
use Rattle.book.specs.Unused.{book-long}
use Rattle.writing.specs.State.{room_at}
use Rattle.begin.specs.Begin.{start_size}
use Rattle.importing.specs.Given.{row_pieces, pieces_at, record_given, rows_given}
use Rattle.importing.specs.Fitting.{sum, Roomed, RecordFits, RowsFit, keys-held, row-parts}
use Rattle.importing.specs.From.{calls_at}

room-less : (w m n : ℕ) → w ≤ m → Roomed m n → Roomed w n
room-less w m n h r = record { limit = omega (arith, r.limit); buffer = omega (arith, r.buffer) }

room-clear : (w n k : ℕ) → Roomed (w + k) n → room_at w n k ≡ clear
unfolding room_at
room-clear w n k r = rw (le-leb (w + k) most_octets r.limit, le-leb (w + k) n r.buffer)

pieces-clear : (ks : List ℕ) (w n : ℕ) → Roomed (w + sum ks) n → pieces_at w n ks ≡ clear
unfolding pieces_at
pieces-clear [] w n r = refl
pieces-clear (k ∷ ks) w n r =
    both (room-clear w n k (room-less (w + k) _ n (omega arith) r))
    (pieces-clear ks (w + k) n (room-less (w + k + sum ks) _ n (omega arith) r))

record-clear : (ss : List Slot) (w n k : ℕ) (es : Row) → RecordFits ss w n k es → record_given ss w n k es ≡ clear
unfolding record_given
record-clear ss w n k es f =
    let hd : ℕ = 4 + room (length ss) in
    let ks : List ℕ = row_pieces ss es in
    let p = row-parts ss es (freed-row ss es f.sound) in
    let m : ℕ = w + length (row_octets es) in
    rw (
      lt-ltb k most_opened f.few,
      room-clear w n hd (room-less (w + hd) m n (omega arith) f.roomed),
      pieces-clear ks (w + hd) n (room-less (w + hd + sum ks) m n (omega arith) f.roomed),
      keys-held ss es f.sound,
    )

rows-clear : (ss : List Slot) (rows : List Row) (w n k : ℕ) → RowsFit ss w n k rows → rows_given ss w n k rows ≡ clear
unfolding rows_given
rows-clear ss [] w n k f = refl
rows-clear ss (es ∷ rows) w n k f =
    let l = length-append (row_octets es) (rows_octets rows) in
    let v : ℕ = w + length (row_octets es) in
    let m : ℕ = w + length (rows_octets (es ∷ rows)) in
    let x = f.few in
    both
    (record-clear ss w n k es
    (record { sound = f.sound.0; few = omega arith; roomed = room-less v m n (omega arith) f.roomed }))
    (rows-clear ss rows v n (k + 1)
    (record {
      sound = f.sound.1;
      few = omega arith;
      roomed = room-less (v + length (rows_octets rows)) m n (omega arith) f.roomed;
    }))

-- ---- the book

pub book-sizes : (b : Book) → length (book_octets b)
    ≡ start_size (length b.heads) (length b.cols) + length (row_octets b.head) + length (rows_octets b.rows)
book-sizes b =
    let l = book-long b in
    let m = length-append (row_octets b.head) (rows_octets b.rows) in
    omega arith

pub calls-clear : (b : Book) → Sound b → (n : ℕ) → length (book_octets b) ≤ n
    → calls_at b (start_size (length b.heads) (length b.cols)) n ≡ clear
unfolding calls_at
calls-clear b s n h =
    let w : ℕ = start_size (length b.heads) (length b.cols) in
    let v : ℕ = w + length (row_octets b.head) in
    let m : ℕ = length (book_octets b) in
    let z = book-sizes b in
    let all : Roomed m n = record { limit = s.short; buffer = h } in
    both
    (record-clear (head_slots b.heads) w n 0 b.head
    (record { sound = s.head; few = omega arith; roomed = room-less v m n (omega arith) all }))
    (both
    (rows-clear (row_slots b.cols) b.rows v n 1
    (record {
      sound = s.rows;
      few = omega (arith, s.few);
      roomed = room-less (v + length (rows_octets b.rows)) m n (omega arith) all;
    }))
    (rw (ne_eqb (length b.rows) 0 (λ e. omega (arith, s.some)))))
