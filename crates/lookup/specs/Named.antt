-- A record by its name, the header record or a number. In a table: whether there is one, its columns and its row. In
-- octets: whether there is one, and where it starts.
use Rattle.std.specs.Prelude.{ℕ, zero, suc, ◌%◌, ◌<◌, ◌≡◌, refl, Bool, true, false, List, [], ◌∷◌, ltb, length, get_or, drop}
use Rattle.std.proofs.Common.{arith, lt-ltb, ltb-true}
use Rattle.std.proofs.Math.Option.{Option, none, some}
use Rattle.value.specs.Types.{form_of}
use Rattle.value.specs.Form.{IsValue}
use Rattle.table.specs.Table.{Column, SoundTable}
use Rattle.table.specs.Columns.{tags_of}
use Rattle.table.specs.Found.{Found}
use Rattle.table.specs.Found.{At, Nothing}
use Rattle.entry.specs.Present.{Row}
use Rattle.entry.specs.Record.{Slot, no_slot, SoundRow, sound-entry}
use Rattle.book.specs.Book.{Book, Sound, slots_of, slots-long, head_slots, row_slots, records_place, count_in}
use Rattle.lookup.specs.Places.{place_in, row_at, sound-at}
use Rattle.lookup.specs.Look.{column_in}
use Rattle.lookup.specs.declared.Which.{Which}
use Rattle.lookup.specs.declared.Which.TheVariants.{Header, Number}

-- ---- in a table

abbrev pub There : Book → Which → Type 0
There b Header = Unit {0}
There b (Number k) = k < length b.rows

-- the columns of the record's table, their tags, and what the record may hold under them
abbrev pub columns_for : Book → Which → List Column
columns_for b Header = b.heads
columns_for b (Number k) = b.cols

abbrev pub tags_under : Book → Which → List ℕ
tags_under b which = tags_of (columns_for b which)

abbrev pub slots_under : Book → Which → List Slot
slots_under b Header = head_slots b.heads
slots_under b (Number k) = row_slots b.cols

pub slots-reach : (b : Book) (w : Which) → length (slots_under b w) ≡ length (columns_for b w)
slots-reach b Header = slots-long false b.heads
slots-reach b (Number k) = slots-long true b.cols

abbrev pub row_for : Book → Which → Row
row_for b Header = b.head
row_for b (Number k) = row_at b k

-- what a row has in the column that was found, nothing where none was; and what a record has under a whole tag
abbrev pub value_in : Found → Row → Option (List ℕ)
value_in Nothing es = none
value_in (At c) es = get_or es c none

unfoldable pub value_for : Book → Which → ℕ → Option (List ℕ)
value_for b w t = value_in (column_in t (tags_under b w)) (row_for b w)

-- in a sound book the table is sound, and the record is a sound row under its columns
pub columns-sound : (b : Book) → Sound b → (w : Which) → SoundTable (columns_for b w)
columns-sound b s Header = s.heads
columns-sound b s (Number k) = s.cols

pub row-sound : (b : Book) → Sound b → (w : Which) → There b w → SoundRow (slots_under b w) (row_for b w)
row-sound b s Header h = s.head
row-sound b s (Number k) h = sound-at (row_slots b.cols) b.rows k s.rows h

-- and each of its values has the form of its column's type
slots-form : (m : Bool) (cs : List Column) (c : ℕ) → c < length cs
    → (get_or (slots_of m cs) c no_slot).form ≡ form_of (get_or (tags_of cs) c 0 % 65536)
slots-form m [] c l = absurd (omega arith)
slots-form m (x ∷ cs) zero l = refl
slots-form m (x ∷ cs) (suc c) l = slots-form m cs c (omega arith)

slot-form : (b : Book) (w : Which) (c : ℕ) → c < length (columns_for b w)
    → (get_or (slots_under b w) c no_slot).form ≡ form_of (get_or (tags_under b w) c 0 % 65536)
slot-form b Header = slots-form false b.heads
slot-form b (Number k) = slots-form true b.cols

pub value-formed : (b : Book) → Sound b → (w : Which) → There b w → (c : ℕ) (v : List ℕ)
    → c < length (columns_for b w) → get_or (row_for b w) c none ≡ some v
    → IsValue (form_of (get_or (tags_under b w) c 0 % 65536)) v
value-formed b s w h c v l e =
    let k = rw e at (sound-entry (slots_under b w) (row_for b w) c no_slot (row-sound b s w h) (rw (slots-reach b w) l)) in
    rw (slot-form b w c l) at k.0

-- ---- in octets

abbrev pub has_record : List ℕ → Which → Bool
has_record xs Header = true
has_record xs (Number k) = ltb k (count_in xs)

abbrev pub start_for : List ℕ → Which → ℕ
start_for xs Header = records_place (drop 12 xs)
start_for xs (Number k) = place_in xs k

-- of a book that has as many records as the octets say
module _ (xs : List ℕ) (b : Book) (e : count_in xs ≡ length b.rows) where
  pub named_in : (which : Which) → has_record xs which ≡ true → There b which
  named_in Header h = tt
  named_in (Number k) h = rw e at (ltb-true k (count_in xs) h)

  pub has_named : (which : Which) → There b which → has_record xs which ≡ true
  has_named Header h = refl
  has_named (Number k) h = lt-ltb k (count_in xs) (rw e h)
