-- The header record as it is offered with its table: that it is one record to its last octet, and the ways of the code
-- that goes over it value by value. Assumes nothing.
use Rattle.std.specs.Prelude.{ℕ, suc, ◌+◌, ◌%◌, cond, List, [], ◌∷◌, eqb, length, take, drop}
use Rattle.octets.specs.Word.{word_of}
use Rattle.answers.specs.Numbers.{breaks_form}
use Rattle.answers.specs.Verdict.{Answer, Verdict, answered}
use Rattle.answers.specs.Verdict.{clear}
use Rattle.answers.specs.Verdict.{◌then◌, need}
use Rattle.presence.specs.Presence.{room}
use Rattle.value.specs.Types.{Form, number_of, form_at}
use Rattle.entry.specs.Record.{Slot, is_clear, record_at}
use Rattle.entry.specs.Slots.{step_of}
use Rattle.entry.specs.Read.{width_of}
use Rattle.writing.specs.State.{room_at}
use Rattle.importing.specs.Given.{pieces_of, pieces_at}

-- one record to its last octet
unfoldable pub offered_in : List Slot → List ℕ → Verdict
offered_in ss new =
    need (is_clear (record_at ss 0 new)) breaks_form 0
    then need (eqb (word_of 4 new) (length new)) breaks_form 0

-- ---- the ways of the code

abbrev pub forms_for : List ℕ → List ℕ
forms_for [] = []
forms_for (t ∷ ts) = number_of (t % 65536) ∷ forms_for ts

-- the calls that give v, of which there are none where v is absent
unfoldable pub column_given : Form → List ℕ → ℕ → ℕ → Verdict
column_given f v w n = cond (eqb (length v) 0) clear (pieces_at w n (pieces_of f v))

-- how many octets the value of column i takes
abbrev pub column_long : ℕ → List ℕ → ℕ → List ℕ → ℕ
column_long i p f xs = width_of (step_of p i (form_at f) xs)

-- what the calls answer that give it, where it stands at i of xs and w octets are written before the values; and where
-- it ends
unfoldable pub next_given : List ℕ → ℕ → ℕ → List ℕ → ℕ → ℕ → ℕ → Answer ℕ
next_given p j f xs i w n =
    answered (column_given (form_at f) (take (column_long j p f (drop i xs)) (drop i xs)) (w + i) n)
    (i + column_long j p f (drop i xs))

-- the values from column i on; xs is what is left of the record
unfoldable pub head_from : List ℕ → ℕ → List ℕ → ℕ → ℕ → List ℕ → Verdict
head_from [] i p w n xs = clear
head_from (f ∷ forms) i p w n xs =
    column_given (form_at f) (take (column_long i p f xs) xs) w n
    then head_from forms (suc i) p (w + column_long i p f xs) n (drop (column_long i p f xs) xs)

unfoldable pub head_given : List ℕ → ℕ → ℕ → List ℕ → Verdict
head_given forms w n xs =
    room_at w n (4 + room (length forms))
    then head_from forms 0 (take (room (length forms)) (drop 4 xs)) (w + (4 + room (length forms))) n
    (drop (4 + room (length forms)) xs)
