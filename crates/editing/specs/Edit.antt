-- Records put in place of others, as books: the octets of the new book are those of the old one with a part replaced, count and serial worked out again.
-- One law for any number of records taken out and put in; replacing, inserting and deleting one record are cases of it.
use Rattle.std.specs.Prelude.{ℕ, zero, suc, ◌+◌, ◌≤◌, ◌<◌, ◌≡◌, refl, List, [], ◌∷◌, ◌++◌, length, take, drop, set}
use Rattle.std.proofs.Common.{add-one, arith, sym, ap, ap₂, ◌∙◌, append_assoc, append-nil, length-append, length-drop, length-take-le, take-add, drop-cons}
use Rattle.std.proofs.Math.Seq.{take-append-add, drop-append-add}
use Rattle.std.proofs.lemmas.List.{set_split}
use Rattle.octets.specs.Word.{le_of}
use Rattle.serial.specs.Serial.{serial_of}
use Rattle.answers.specs.Numbers.{most_octets, most_records}
use Rattle.entry.specs.Present.{Row}
use Rattle.entry.specs.Record.{Slot, row_octets}
use Rattle.book.specs.Rows.{rows_octets, SoundRows}
use Rattle.book.specs.Book.{Book, Sound, row_slots, sealed, body_octets, book_octets, sealed-length}
use Rattle.lookup.specs.Places.{rows_append, offset, rows_split, rows_before, rows-from, front_octets, place_of, body_is, row_at}
use Rattle.editing.specs.Put.{put, resealed}

-- ---- rows

-- the rows with the m from k on replaced
abbrev pub edited : ℕ → ℕ → List Row → List Row → List Row
edited k m news rs = take k rs ++ (news ++ drop (k + m) rs)

rows-edited : (k m : ℕ) (news rs : List Row) → rows_octets (edited k m news rs) ≡ put (offset k rs) (offset (k + m) rs) (rows_octets news) (rows_octets rs)
rows-edited k m news rs =
    rows_append (take k rs) (news ++ drop (k + m) rs)
    ∙ ap₂ (λ (x y : List ℕ). x ++ y) (sym (rows_before k rs)) (rows_append news (drop (k + m) rs) ∙ ap (λ (l : List ℕ). rows_octets news ++ l) (sym (rows-from (k + m) rs)))

pub edited-length : (k m : ℕ) (news rs : List Row) → k + m ≤ length rs → length (edited k m news rs) + m ≡ length rs + length news
edited-length k m news rs h =
    let a = length-append (take k rs) (news ++ drop (k + m) rs) in
    let b = length-append news (drop (k + m) rs) in
    let c = length-take-le k rs (omega arith) in
    let d = length-drop (k + m) rs in
    omega arith

pub set-row : (k : ℕ) (r : Row) (rs : List Row) → k < length rs → edited k 1 (r ∷ []) rs ≡ set rs k r
set-row k r rs h = rw add-one (sym (set_split rs k r h))

pub rows-measured : (k : ℕ) (rs : List Row) → length (rows_octets rs) ≡ offset k rs + length (rows_octets (drop k rs))
rows-measured k rs = ap length (rows_split k rs) ∙ length-append (rows_octets (take k rs)) (rows_octets (drop k rs))

offset-more : (k m : ℕ) (rs : List Row) → offset (k + m) rs ≡ offset k rs + offset m (drop k rs)
offset-more k m rs =
    ap (λ (l : List Row). length (rows_octets l)) (take-add k m rs) ∙ ap length (rows_append (take k rs) (take m (drop k rs))) ∙ length-append (rows_octets (take k rs)) (rows_octets (take m (drop k rs)))

edited-measured : (k m : ℕ) (news rs : List Row) → length (rows_octets (edited k m news rs)) + offset (k + m) rs ≡ length (rows_octets rs) + (offset k rs + length (rows_octets news))
edited-measured k m news rs =
    let a = ap length (rows_append (take k rs) (news ++ drop (k + m) rs)) ∙ length-append (rows_octets (take k rs)) (rows_octets (news ++ drop (k + m) rs)) in
    let b = ap length (rows_append news (drop (k + m) rs)) ∙ length-append (rows_octets news) (rows_octets (drop (k + m) rs)) in
    let c = rows-measured (k + m) rs in
    omega arith

-- ---- the book

-- the book with the m records from k on replaced; its tables and its header record are the old ones
unfoldable pub edit : ℕ → ℕ → List Row → Book → Book
edit k m news b = record { heads = b.heads; cols = b.cols; head = b.head; rows = edited k m news b.rows }

put-behind : (front xs new : List ℕ) (a e : ℕ) → put (length front + a) (length front + e) new (front ++ xs) ≡ front ++ put a e new xs
put-behind front xs new a e = rw (take-append-add front xs a, drop-append-add front xs e) (append_assoc front (take a xs) (new ++ drop e xs))

body-edited : (k m : ℕ) (news : List Row) (b : Book)
    → body_octets (edit k m news b) ≡ put (length (front_octets b) + offset k b.rows) (length (front_octets b) + offset (k + m) b.rows) (rows_octets news) (body_octets b)
unfolding edit front_octets
body-edited k m news b =
    let f : List ℕ = front_octets b in
    body_is (edit k m news b) ∙ ap (λ (l : List ℕ). f ++ l) (rows-edited k m news b.rows)
    ∙ sym (put-behind f (rows_octets b.rows) (rows_octets news) (offset k b.rows) (offset (k + m) b.rows))
    ∙ ap (put (length f + offset k b.rows) (length f + offset (k + m) b.rows) (rows_octets news)) (sym (body_is b))

pub sealed-put : (n a e : ℕ) (new ys : List ℕ) → drop 12 (put (12 + a) (12 + e) new (sealed n ys)) ≡ put a e new ys
unfolding sealed
sealed-put n a e new ys = ap (drop 12) (put-behind (le_of 4 32 ++ (le_of 4 (serial_of ys) ++ le_of 4 n)) ys new a e)

-- THE law of correcting: the book with records replaced is the old octets with a part replaced, count and serial worked out again
pub book-edited : (k m : ℕ) (news : List Row) (b : Book)
    → book_octets (edit k m news b) ≡ resealed (length (edited k m news b.rows)) (put (place_of b k) (place_of b (k + m)) (rows_octets news) (book_octets b))
unfolding book_octets resealed place_of edit
book-edited k m news b =
    let f : ℕ = length (front_octets b) in
    ap (sealed (length (edited k m news b.rows)))
    (body-edited k m news b ∙ sym (sealed-put (length b.rows) (f + offset k b.rows) (f + offset (k + m) b.rows) (rows_octets news) (body_octets b)))

-- ---- how long it is

pub book-length : (b : Book) → length (book_octets b) ≡ 12 + (length (front_octets b) + length (rows_octets b.rows))
unfolding book_octets
book-length b = sealed-length (length b.rows) (body_octets b) ∙ ap (λ (n : ℕ). 12 + n) (ap length (body_is b) ∙ length-append (front_octets b) (rows_octets b.rows))

front-edited : (k m : ℕ) (news : List Row) (b : Book) → front_octets (edit k m news b) ≡ front_octets b
unfolding edit front_octets
front-edited k m news b = refl

pub rows-of-edit : (k m : ℕ) (news : List Row) (b : Book) → (edit k m news b).rows ≡ edited k m news b.rows
unfolding edit
rows-of-edit k m news b = refl

pub edit-length : (k m : ℕ) (news : List Row) (b : Book) → length (book_octets (edit k m news b)) + place_of b (k + m) ≡ length (book_octets b) + (place_of b k + length (rows_octets news))
unfolding place_of
edit-length k m news b =
    let a = book-length (edit k m news b) in
    let c = book-length b in
    let d = ap length (front-edited k m news b) in
    let e = ap (λ (l : List Row). length (rows_octets l)) (rows-of-edit k m news b) in
    let f = edited-measured k m news b.rows in
    omega arith

-- the next record stands behind record k
pub place-next : (b : Book) (k : ℕ) → k < length b.rows → place_of b (k + 1) ≡ place_of b k + length (row_octets (row_at b k))
unfolding place_of
place-next b k h =
    let a = offset-more k 1 b.rows in
    let c : offset 1 (drop k b.rows) ≡ length (row_octets (row_at b k)) =
    ap (λ (l : List Row). offset 1 l) (drop-cons b.rows k [] h) ∙ ap length (append-nil (row_octets (row_at b k))) in
    omega arith

-- ---- it is sound again

rows-sound-append : (ss : List Slot) (rs qs : List Row) → SoundRows ss rs → SoundRows ss qs → SoundRows ss (rs ++ qs)
rows-sound-append ss [] qs h k = k
rows-sound-append ss (r ∷ rs) qs h k = (h.0, rows-sound-append ss rs qs h.1 k)

rows-sound-take : (ss : List Slot) (k : ℕ) (rs : List Row) → SoundRows ss rs → SoundRows ss (take k rs)
rows-sound-take ss zero rs h = tt
rows-sound-take ss (suc k) [] h = tt
rows-sound-take ss (suc k) (r ∷ rs) h = (h.0, rows-sound-take ss k rs h.1)

rows-sound-drop : (ss : List Slot) (k : ℕ) (rs : List Row) → SoundRows ss rs → SoundRows ss (drop k rs)
rows-sound-drop ss zero rs h = h
rows-sound-drop ss (suc k) [] h = tt
rows-sound-drop ss (suc k) (r ∷ rs) h = rows-sound-drop ss k rs h.1

pub edit-sound : (k m : ℕ) (news : List Row) (b : Book) → Sound b → SoundRows (row_slots b.cols) news
    → 1 ≤ length (edited k m news b.rows) → length (edited k m news b.rows) ≤ most_records → length (book_octets (edit k m news b)) ≤ most_octets → Sound (edit k m news b)
unfolding edit
edit-sound k m news b s h i j l =
    let ss : List Slot = row_slots b.cols in
    record {
      heads = s.heads;
      cols = s.cols;
      head = s.head;
      rows = rows-sound-append ss (take k b.rows) (news ++ drop (k + m) b.rows) (rows-sound-take ss k b.rows s.rows)
          (rows-sound-append ss news (drop (k + m) b.rows) h (rows-sound-drop ss (k + m) b.rows s.rows));
      some = i;
      few = j;
      short = l;
    }

-- ---- one record replaced, put in or taken out

pub one-row : (r : Row) → rows_octets (r ∷ []) ≡ row_octets r
one-row r = append-nil (row_octets r)

pub book-replaced : (k : ℕ) (r : Row) (b : Book) → k < length b.rows
    → book_octets (edit k 1 (r ∷ []) b) ≡ resealed (length b.rows) (put (place_of b k) (place_of b (k + 1)) (row_octets r) (book_octets b))
book-replaced k r b h =
    let n = edited-length k 1 (r ∷ []) b.rows (omega arith) in
    let c : length (edited k 1 (r ∷ []) b.rows) ≡ length b.rows = omega arith in
    book-edited k 1 (r ∷ []) b ∙ ap₂ (λ (n : ℕ) (l : List ℕ). resealed n (put (place_of b k) (place_of b (k + 1)) l (book_octets b))) c (one-row r)
