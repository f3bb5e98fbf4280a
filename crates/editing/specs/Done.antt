-- A value set or cleared by what the octets say alone, in any record: what comes out is the corrected book, sound again. Set to what is there, or cleared
-- where nothing is, the book is the same.
use Rattle.std.specs.Prelude.{ℕ, ◌+◌, ◌≤◌, ◌<◌, ◌≡◌, refl, true, false, List, [], ◌∷◌, length, get_or, set}
use Rattle.std.proofs.Common.{arith, sym, ap, ◌∙◌}
use Rattle.std.proofs.Math.Option.{Option, none}
use Rattle.std.proofs.lemmas.List.{set-get_or}
use Rattle.answers.specs.Numbers.{most_octets}
use Rattle.entry.specs.Present.{Row}
use Rattle.entry.specs.Record.{Slot, SoundEntry, row-long}
use Rattle.book.specs.Book.{Book, Sound, slots-long, head_slots, row_slots, book_octets}
use Rattle.book.specs.Whole.{heads-in, cols-in, body-in, count-in, same-book}
use Rattle.lookup.specs.Places.{place-in, place-first, row_at, sound-at}
use Rattle.entry.specs.Values.{entry_octets}
use Rattle.lookup.specs.declared.Which.{Which}
use Rattle.lookup.specs.declared.Which.TheVariants.{Header, Number}
use Rattle.lookup.specs.Named.{There, columns_for, slots_under, row_for}
use Rattle.editing.specs.Put.{slots_for, set_in}
use Rattle.editing.specs.Edit.{edit, edit-length, place-next, one-row, set-row}
use Rattle.editing.specs.Entry.{entry_at}
use Rattle.editing.specs.Set.{headed, row-lengthened, headed-length}
use Rattle.editing.specs.Spot.{set-row-is, set-head-is, set-row-sound, set-head-sound}

-- the book with the entry of column c of a record become e; its tables and every other record are the old ones
abbrev pub set_to : Which → ℕ → Option (List ℕ) → Book → Book
set_to Header c e b = headed (set b.head c e) b
set_to (Number k) c e b = edit k 1 (set (row_at b k) c e ∷ []) b

pub slots-in : (b : Book) → Sound b → (which : Which) → slots_for (book_octets b) which ≡ slots_under b which
slots-in b s Header = rw (body-in b s, heads-in b s)
slots-in b s (Number k) = rw (body-in b s, cols-in b s)

-- ---- the corrected book

row-set : (b : Book) → Sound b → (k c : ℕ) (e : Option (List ℕ)) → k < length b.rows → c < length b.cols → set_in (book_octets b) (Number k) c e ≡ book_octets (edit k 1 (set (row_at b k) c e ∷ []) b)
unfolding set_in
row-set b s k c e h l = rw (count-in b s, body-in b s, cols-in b s, place-in b s k (omega arith)) (set-row-is b s k c e h l)

head-set : (b : Book) → Sound b → (c : ℕ) (e : Option (List ℕ)) → c < length b.heads → set_in (book_octets b) Header c e ≡ book_octets (headed (set b.head c e) b)
unfolding set_in
head-set b s c e l = rw (count-in b s, body-in b s, heads-in b s, place-first b s) (set-head-is b s c e l)

pub set_is : (b : Book) → Sound b → (which : Which) (c : ℕ) (e : Option (List ℕ)) → There b which → c < length (columns_for b which) → set_in (book_octets b) which c e ≡ book_octets (set_to which c e b)
set_is b s Header c e h l = head-set b s c e l
set_is b s (Number k) c e h l = row-set b s k c e h l

pub set-sound : (b : Book) → Sound b → (d : Slot) (which : Which) (c : ℕ) (e : Option (List ℕ)) → There b which → c < length (columns_for b which) → SoundEntry (get_or (slots_under b which) c d) e
    → length (book_octets (set_to which c e b)) ≤ most_octets → Sound (set_to which c e b)
set-sound b s d Header c e h l g m = set-head-sound b s d c e l g m
set-sound b s d (Number k) c e h l g m = set-row-sound b s d k c e h l g m

-- its length: the new value comes for the old one
pub set-length : (b : Book) → Sound b → (which : Which) (c : ℕ) (e : Option (List ℕ)) → There b which → c < length (columns_for b which)
    → length (book_octets (set_to which c e b)) + length (entry_octets (entry_at (row_for b which) c)) ≡ length (book_octets b) + length (entry_octets e)
set-length b s Header c e h l =
    let n = row-long (head_slots b.heads) b.head s.head ∙ slots-long false b.heads in
    let r = row-lengthened b.head e c (omega arith) in
    let m = headed-length (set b.head c e) b in
    omega arith
set-length b s (Number k) c e h l =
    let es : Row = row_at b k in
    let n = row-long (row_slots b.cols) es (sound-at (row_slots b.cols) b.rows k s.rows h) ∙ slots-long true b.cols in
    let r = row-lengthened es e c (omega arith) in
    let m = edit-length k 1 (set es c e ∷ []) b in
    let p = place-next b k h in
    let o = ap length (one-row (set es c e)) in
    omega arith

-- ---- the same book

head-same : (b : Book) (c : ℕ) (e : Option (List ℕ)) → entry_at b.head c ≡ e → headed (set b.head c e) b ≡ b
unfolding headed
head-same b c e q = same-book (headed (set b.head c e) b) b refl refl (ap (set b.head c) (sym q) ∙ set-get_or b.head c none) refl

row_same : (b : Book) (k c : ℕ) (e : Option (List ℕ)) → k < length b.rows → entry_at (row_at b k) c ≡ e → edit k 1 (set (row_at b k) c e ∷ []) b ≡ b
unfolding edit
row_same b k c e h q =
    let r : set (row_at b k) c e ≡ row_at b k = ap (set (row_at b k) c) (sym q) ∙ set-get_or (row_at b k) c none in
    same-book (edit k 1 (set (row_at b k) c e ∷ []) b) b refl refl refl (set-row k (set (row_at b k) c e) b.rows h ∙ ap (set b.rows k) r ∙ set-get_or b.rows k [])

pub set_same : (b : Book) (which : Which) (c : ℕ) (e : Option (List ℕ)) → There b which → entry_at (row_for b which) c ≡ e → set_to which c e b ≡ b
set_same b Header c e h q = head-same b c e q
set_same b (Number k) c e h q = row_same b k c e h q
