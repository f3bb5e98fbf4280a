-- A part of a book replaced (document 01, "Correcting a book"), by octets alone: records put in place of others, and the value of one column set or cleared.
-- Count and serial follow. Places are found by walking over the octets.
use Rattle.std.specs.Prelude.{ℕ, zero, suc, ◌+◌, ◌-◌, cond, List, [], ◌∷◌, ◌++◌, length, take, drop, replicate}
use Rattle.std.proofs.Math.Option.{Option, none, some}
use Rattle.octets.specs.Word.{le_of, word_of}
use Rattle.answers.specs.Walk.{Walk}
use Rattle.answers.specs.Walk.{Ends, Broken}
use Rattle.presence.specs.Presence.{room, is_set, set_bit, clear_bit}
use Rattle.value.specs.Value.{value_of}
use Rattle.entry.specs.Record.{Slot, present_in, values_in}
use Rattle.book.specs.Book.{sealed, head_slots, row_slots, heads_in, cols_in, count_in}
use Rattle.lookup.specs.Named.{start_for}
use Rattle.lookup.specs.Places.{place_in}
use Rattle.entry.specs.Values.{entry_octets}
use Rattle.lookup.specs.declared.Which.{Which}
use Rattle.lookup.specs.declared.Which.TheVariants.{Header, Number}

-- xs with the octets from a up to e replaced
abbrev pub put : ℕ → ℕ → List ℕ → List ℕ → List ℕ
put a e new xs = take a xs ++ (new ++ drop e xs)

-- xs with the count n and the serial worked out
unfoldable pub resealed : ℕ → List ℕ → List ℕ
resealed n xs = sealed n (drop 12 xs)

-- the buffer with a new book in front, where one of len octets stood: zeros up to len, and the rest as lent
abbrev pub buffer_of : List ℕ → ℕ → List ℕ → List ℕ
buffer_of d len new = new ++ (replicate (len - length new) 0 ++ drop (length new + (len - length new)) d)

-- ---- records

-- m records from record k on replaced by the octets of n others
unfoldable pub corrected_of : ℕ → ℕ → ℕ → List ℕ → List ℕ → List ℕ
corrected_of k m n new xs = resealed (count_in xs + n - m) (put (place_in xs k) (place_in xs (k + m)) new xs)

-- ---- a value

-- where a value stands or would stand, and how long it is
pub record Spot : Type 0 where
  pub start : ℕ
  pub long : ℕ

abbrev pub spot_on : Walk → (ℕ → Spot) → ℕ → Spot
spot_on (Ends w) f at = f w
spot_on (Broken q) f at = record { start = at; long = 0 }

-- of column c of those from bit i on; ys is what is left of the record, and stands at `at`
unfoldable pub spot_from : List Slot → ℕ → ℕ → List ℕ → ℕ → List ℕ → Spot
spot_from [] c i p at ys = record { start = at; long = 0 }
spot_from (s ∷ ss) zero i p at ys = cond (is_set p i) (spot_on (value_of s.form ys) (λ w. record { start = at; long = w }) at) (record { start = at; long = 0 })
spot_from (s ∷ ss) (suc c) i p at ys =
    cond (is_set p i) (spot_on (value_of s.form ys) (λ w. spot_from ss c (suc i) p (at + w) (drop w ys)) at) (spot_from ss c (suc i) p at ys)

-- of column c of the record xs, which stands at `at`
unfoldable pub spot_in : List Slot → ℕ → ℕ → List ℕ → Spot
spot_in ss c at xs = spot_from ss c 0 (present_in (length ss) xs) (at + 4 + room (length ss)) (values_in (length ss) xs)

-- presence octets with the bit of column i as the entry says
abbrev pub mark : Option (List ℕ) → List ℕ → ℕ → List ℕ
mark none p i = clear_bit p i
mark (some v) p i = set_bit p i

-- the record of n columns at `at`, with the entry of column i, which starts at v and is o octets long, become e: the value, the presence octets, the size
unfoldable pub spliced : ℕ → ℕ → ℕ → ℕ → ℕ → ℕ → Option (List ℕ) → List ℕ → List ℕ → List ℕ
spliced at n i v o size e p xs = put at (at + 4) (le_of 4 size) (put (at + 4) (at + 4 + room n) (mark e p i) (put v (v + o) (entry_octets e) xs))

-- column c of the record at `at`
unfoldable pub set_at : List Slot → ℕ → ℕ → Option (List ℕ) → List ℕ → List ℕ
set_at ss c at e xs =
    spliced at (length ss) c (spot_in ss c at (drop at xs)).start (spot_in ss c at (drop at xs)).long
    (word_of 4 (drop at xs) + length (entry_octets e) - (spot_in ss c at (drop at xs)).long) e (present_in (length ss) (drop at xs)) xs

-- the columns of a record
abbrev pub slots_for : List ℕ → Which → List Slot
slots_for xs Header = head_slots (heads_in (drop 12 xs))
slots_for xs (Number k) = row_slots (cols_in (drop 12 xs))

-- column c of a record set to a value, or cleared
unfoldable pub set_in : List ℕ → Which → ℕ → Option (List ℕ) → List ℕ
set_in xs which c e = resealed (count_in xs) (set_at (slots_for xs which) c (start_for xs which) e xs)
