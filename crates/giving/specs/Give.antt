-- Giving values (document 01, "Writing a book"; decisions 14 to 16): one definition for a number, yes or no, octets and the count of a list, and one for the
-- elements of a list.
use Rattle.std.specs.Prelude.{ℕ, ◌+◌, ◌-◌, ◌%◌, Bool, true, false, cond, not, List, [], ◌∷◌, ◌++◌, ltb, eqb, length, take, drop}
use Rattle.octets.specs.Splice.{stored}
use Rattle.answers.specs.Numbers.{out_of_turn, breaks_form}
use Rattle.answers.specs.Verdict.{Verdict}
use Rattle.answers.specs.Verdict.{◌then◌, need, kept}
use Rattle.answers.specs.Walk.{ends_at}
use Rattle.presence.specs.Presence.{set_bit}
use Rattle.whole.specs.Number.{encode_number}
use Rattle.text.specs.Narrow.{narrow_of}
use Rattle.text.specs.Utf8.{text_of}
use Rattle.value.specs.Types.{Kind, number, truth, narrow, text, binary, Form, one, many, unknown, kind_number}
use Rattle.value.specs.Types.{number_of, form_at, form_of}
use Rattle.table.specs.Found.{is_found, column_of}
use Rattle.writing.specs.declared.Writing.{Writing}
use Rattle.writing.specs.declared.Outcome.{Outcome}
use Rattle.writing.specs.State.{settled, within_of, room_at}
use Rattle.writing.specs.Column.{column_for}

-- what is handed over, by kind; octets without length or final 00
pub data Given : Type 0 where
  Number : ℕ → Given
  Truth : Bool → Given
  Octets : List ℕ → Given
  Count : ℕ → Given

-- ---- its form

abbrev pub is_one : Kind → Form → Bool
is_one k (one j) = eqb (kind_number j) (kind_number k)
is_one k (many j) = false
is_one k unknown = false

abbrev pub is_many : Form → Bool
is_many (one k) = false
is_many (many k) = true
is_many unknown = false

-- octets that a kind of value takes
abbrev pub octets_of : Kind → List ℕ → Bool
octets_of number s = false
octets_of truth s = false
octets_of narrow s = ends_at (narrow_of (s ++ (0 ∷ []))) (length s + 1)
octets_of text s = ends_at (text_of (s ++ (0 ∷ []))) (length s + 1)
octets_of binary s = cond (eqb (length s) 0) false (ltb (length s) 4294967296)

abbrev pub octets_formed : Form → List ℕ → Bool
octets_formed (one k) s = octets_of k s
octets_formed (many k) s = false
octets_formed unknown s = false

-- what is handed over has the form
abbrev pub formed : Form → Given → Bool
formed f (Number x) = is_one number f
formed f (Truth b) = is_one truth f
formed f (Octets s) = octets_formed f s
formed f (Count n) = cond (eqb n 0) false (is_many f)

-- and these are its octets
abbrev pub octets_for : Form → Given → List ℕ
octets_for f (Number x) = encode_number x
octets_for f (Truth b) = cond b 1 0 ∷ []
octets_for f (Octets s) = cond (is_one binary f) (encode_number (length s) ++ s) (s ++ (0 ∷ []))
octets_for f (Count n) = encode_number n

-- ---- a value

-- the column, then the form, then the room
unfoldable pub give_at : Writing → List ℕ → ℕ → Given → Verdict
give_at st d tag v =
    need (is_found (column_for st d tag)) out_of_turn 0
    then need (formed (form_of (tag % 65536)) v) breaks_form 0
    then room_at st.written (length d) (length (octets_for (form_of (tag % 65536)) v))

-- the elements due after it, and the form that the state has to keep for them
abbrev pub left_of : Given → ℕ
left_of (Number x) = 0
left_of (Truth b) = 0
left_of (Octets s) = 0
left_of (Count n) = n

abbrev pub form_left : ℕ → Given → ℕ
form_left f (Number x) = 0
form_left f (Truth b) = 0
form_left f (Octets s) = 0
form_left f (Count n) = f

-- k octets more, up to and with a column
abbrev pub given_to : Writing → ℕ → ℕ → ℕ → ℕ → Writing
given_to st column k left form = record {
  written = st.written + k;
  header = st.header;
  address = st.address;
  opened = st.opened;
  start = st.start;
  next = column + 1;
  left = left;
  form = form;
  stage = st.stage;
}

abbrev pub give_next : Writing → List ℕ → ℕ → Given → Writing
give_next st d tag v =
    given_to st (column_of (column_for st d tag)) (length (octets_for (form_of (tag % 65536)) v)) (left_of v) (form_left (number_of (tag % 65536)) v)

-- d with the bit of a column set in the presence octets from i
unfoldable pub marked : List ℕ → ℕ → ℕ → List ℕ
marked d i column = take i d ++ set_bit (drop i d) column

unfoldable pub give_outcome : Writing → List ℕ → ℕ → Given → Outcome
give_outcome st d tag v = settled (give_at st d tag v) st (give_next st d tag v)

unfoldable pub give_octets : Writing → List ℕ → ℕ → Given → List ℕ
give_octets st d tag v =
    kept (give_at st d tag v) d
    (stored (marked d (st.start + 4) (column_of (column_for st d tag))) st.written (octets_for (form_of (tag % 65536)) v))

-- ---- an element of a list

abbrev pub element_form : Form → Form
element_form (one k) = unknown
element_form (many k) = one k
element_form unknown = unknown

-- the form of the elements that the state waits for
abbrev pub due_form : Writing → Form
due_form st = element_form (form_at st.form)

unfoldable pub element_at : Writing → List ℕ → Given → Verdict
element_at st d v =
    need (within_of st (length d)) out_of_turn 0
    then need (not (eqb st.left 0)) out_of_turn 0
    then need (formed (due_form st) v) breaks_form 0
    then room_at st.written (length d) (length (octets_for (due_form st) v))

abbrev pub added_to : Writing → ℕ → Writing
added_to st k = record {
  written = st.written + k;
  header = st.header;
  address = st.address;
  opened = st.opened;
  start = st.start;
  next = st.next;
  left = st.left - 1;
  form = st.form;
  stage = st.stage;
}

abbrev pub element_next : Writing → Given → Writing
element_next st v = added_to st (length (octets_for (due_form st) v))

unfoldable pub element_outcome : Writing → List ℕ → Given → Outcome
element_outcome st d v = settled (element_at st d v) st (element_next st v)

unfoldable pub element_octets : Writing → List ℕ → Given → List ℕ
element_octets st d v = kept (element_at st d v) d (stored d st.written (octets_for (due_form st) v))
