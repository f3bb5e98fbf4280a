-- The row that stands in a record, read from any octets: a value that breaks is read as absent, and the walk goes on
-- from its start. What a sound row
-- is written as reads back as that row.
use Rattle.std.specs.Prelude.{ℕ, suc, ◌^◌, ◌<◌, ◌≡◌, refl, cond, List, [], ◌∷◌, ◌++◌, length, take, drop}
use Rattle.std.proofs.Common.{ap}
use Rattle.std.proofs.Math.Option.{Option, none, some}
use Rattle.std.proofs.Math.Seq.{take-append_seam, drop-append_seam}
use Rattle.answers.specs.Walk.{Walk}
use Rattle.answers.specs.Walk.{Ends, Broken}
use Rattle.presence.specs.Presence.{is_set}
use Rattle.value.specs.Types.{Form}
use Rattle.value.specs.Value.{value_of}
use Rattle.value.specs.Form.{value-back}
use Rattle.entry.specs.Present.{Row, Bits, presence_of, presence-bits}
use Rattle.entry.specs.Record.{Slot, values_of, row_octets, SoundRow, present_in, values_in, row-long, present-is}
use Rattle.entry.specs.Record.{values-are}
use Rattle.entry.specs.Slots.{step_of}

-- how many octets a walk passes
abbrev pub width_of : Walk → ℕ
width_of (Ends w) = w
width_of (Broken q) = 0

-- the entry that a walk over ys finds
abbrev pub entry_by : Walk → List ℕ → Option (List ℕ)
entry_by (Ends w) ys = some (take w ys)
entry_by (Broken q) ys = none

-- the entry of column i, whose value, where its bit is set, starts at the front of ys
abbrev pub entry_at : List ℕ → ℕ → Form → List ℕ → Option (List ℕ)
entry_at p i form ys = cond (is_set p i) (entry_by (value_of form ys) ys) none

-- the entries from bit i on; ys is what is left of the record
unfoldable pub row_from : List Slot → ℕ → List ℕ → List ℕ → Row
row_from [] i p ys = []
row_from (s ∷ ss) i p ys = entry_at p i s.form ys ∷ row_from ss (suc i) p (drop (width_of (step_of p i s.form ys)) ys)

-- the row of the record that starts at the front of xs
unfoldable pub row_in : List Slot → List ℕ → Row
row_in ss xs = row_from ss 0 (present_in (length ss) xs) (values_in (length ss) xs)

-- a row has an entry for each column
pub row-from-long : (ss : List Slot) (i : ℕ) (p ys : List ℕ) → length (row_from ss i p ys) ≡ length ss
unfolding row_from
row-from-long [] i p ys = refl
row-from-long (s ∷ ss) i p ys = ap suc (row-from-long ss (suc i) p (drop (width_of (step_of p i s.form ys)) ys))

pub row-in-long : (ss : List Slot) (xs : List ℕ) → length (row_in ss xs) ≡ length ss
unfolding row_in
row-in-long ss xs = row-from-long ss 0 (present_in (length ss) xs) (values_in (length ss) xs)

-- ---- what was written reads back

pub row-from-back : (ss : List Slot) (es : Row) (i : ℕ) (p : List ℕ) → SoundRow ss es → Bits p i es
    → row_from ss i p (values_of es) ≡ es
unfolding row_from step_of
row-from-back [] [] i p h b = refl
row-from-back [] (e ∷ es) i p h b = absurd h
row-from-back (s ∷ ss) [] i p h b = absurd h
row-from-back (s ∷ ss) (none ∷ es) i p h b =
    rw b.0 (ap (λ (l : Row). none ∷ l) (row-from-back ss es (suc i) p h.1 b.1))
row-from-back (s ∷ ss) (some v ∷ es) i p h b =
    rw (
      b.0,
      value-back s.form v h.0.0 (values_of es),
      take-append_seam v (values_of es),
      drop-append_seam v (values_of es),
    )
    (ap (λ (l : Row). some v ∷ l) (row-from-back ss es (suc i) p h.1 b.1))

pub row-in : (ss : List Slot) (es : Row) (rest : List ℕ) → SoundRow ss es → length (row_octets es) < 2 ^ 32
    → row_in ss (row_octets es ++ rest) ≡ es
unfolding row_in
row-in ss es rest h k =
    let l : length es ≡ length ss = row-long ss es h in
    rw (present-is es rest (length ss) l, values-are es rest (length ss) l k)
    (row-from-back ss es 0 (presence_of es) h (presence-bits es))
