-- What the writer's calls answer that give a record (document 01, "Writing a book"), by the table alone: a record is
-- opened, its values are given, a list by its count and then each element, and it is closed. Assumes nothing.
use Rattle.std.specs.Prelude.{ℕ, zero, suc, ◌+◌, Bool, true, false, cond, List, [], ◌∷◌, ◌++◌, ltb, length, drop}
use Rattle.std.proofs.Math.Option.{none, some}
use Rattle.answers.specs.Numbers.{breaks_rule, most_opened}
use Rattle.answers.specs.Verdict.{Verdict}
use Rattle.answers.specs.Verdict.{clear}
use Rattle.answers.specs.Verdict.{◌then◌, need}
use Rattle.answers.specs.Walk.{Walk}
use Rattle.answers.specs.Walk.{Ends, Broken}
use Rattle.presence.specs.Presence.{room}
use Rattle.whole.specs.Number.{Number}
use Rattle.whole.specs.Number.{Some, Broken as NoNumber}
use Rattle.whole.specs.Number.{number_of}
use Rattle.value.specs.Types.{Kind, Form, one, many, unknown}
use Rattle.value.specs.Value.{element_of}
use Rattle.entry.specs.Present.{Row}
use Rattle.entry.specs.Record.{Slot, row_octets}
use Rattle.writing.specs.State.{room_at}

-- ---- how many octets each call brings

abbrev pub width_then : Walk → (ℕ → List ℕ) → List ℕ
width_then (Ends w) f = w ∷ f w
width_then (Broken p) f = []

-- n elements at the front of xs
unfoldable pub elements_of : Kind → ℕ → List ℕ → List ℕ
elements_of k zero xs = []
elements_of k (suc n) xs = width_then (element_of k xs) (λ w. elements_of k n (drop w xs))

abbrev pub count_then : Number → (ℕ → ℕ → List ℕ) → List ℕ
count_then (Some (n, w)) f = w ∷ f n w
count_then NoNumber f = []

-- the calls that give the value v
unfoldable pub pieces_of : Form → List ℕ → List ℕ
pieces_of (one k) v = length v ∷ []
pieces_of (many k) v = count_then (number_of v) (λ n w. elements_of k n (drop w v))
pieces_of unknown v = []

-- those that give a row's values
unfoldable pub row_pieces : List Slot → Row → List ℕ
row_pieces [] es = []
row_pieces (s ∷ ss) [] = []
row_pieces (s ∷ ss) (none ∷ es) = row_pieces ss es
row_pieces (s ∷ ss) (some v ∷ es) = pieces_of s.form v ++ row_pieces ss es

-- ---- their verdicts: w octets are written, n are lent

unfoldable pub pieces_at : ℕ → ℕ → List ℕ → Verdict
pieces_at w n [] = clear
pieces_at w n (k ∷ ks) = room_at w n k then pieces_at (w + k) n ks

-- each column that must be there is
unfoldable pub keys_in : List Slot → Row → Bool
keys_in [] es = true
keys_in (s ∷ ss) [] = true
keys_in (s ∷ ss) (none ∷ es) = cond s.must false (keys_in ss es)
keys_in (s ∷ ss) (some v ∷ es) = keys_in ss es

-- the row es as a record, k records having been opened before
unfoldable pub record_given : List Slot → ℕ → ℕ → ℕ → Row → Verdict
record_given ss w n k es =
    need (ltb k most_opened) breaks_rule 0
    then room_at w n (4 + room (length ss))
    then pieces_at (w + (4 + room (length ss))) n (row_pieces ss es)
    then need (keys_in ss es) breaks_rule 0

unfoldable pub rows_given : List Slot → ℕ → ℕ → ℕ → List Row → Verdict
rows_given ss w n k [] = clear
rows_given ss w n k (es ∷ rows) =
    record_given ss w n k es then rows_given ss (w + length (row_octets es)) n (k + 1) rows
