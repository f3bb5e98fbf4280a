-- Opening and closing a record, and the finish (document 01, "Writing a book"; decisions 13, 15 and 17): the verdict in the published order (15, then 16,
-- then 17), the state behind the call, and every octet.
use Rattle.std.specs.Prelude.{ℕ, zero, suc, ◌+◌, ◌-◌, ◌*◌, Bool, true, false, cond, not, List, eqb, ltb, length, drop, replicate}
use Rattle.octets.specs.Splice.{stored}
use Rattle.octets.specs.Word.{le_of, word_of}
use Rattle.answers.specs.Numbers.{out_of_turn, breaks_rule, most_opened}
use Rattle.answers.specs.Verdict.{Verdict}
use Rattle.answers.specs.Verdict.{◌then◌, need, kept}
use Rattle.presence.specs.Presence.{room, is_set}
use Rattle.entry.specs.Slots.{key_bit}
use Rattle.book.specs.Sealed.{sealed_to}
use Rattle.writing.specs.State.{settled, columns_of, idle_of, within_of, room_at, finished_stage}
use Rattle.writing.specs.declared.Writing.{Writing}
use Rattle.writing.specs.declared.Outcome.{Outcome}

-- ---- open: size and presence octets of 0

abbrev pub open_size : Writing → ℕ
open_size st = 4 + room (columns_of st (st.opened + 1))

-- a 65,536th address record isn't opened
unfoldable pub open_at : Writing → ℕ → Verdict
open_at st n =
    need (idle_of st n) out_of_turn 0
    then need (ltb st.opened most_opened) breaks_rule 0
    then room_at st.written n (open_size st)

abbrev pub open_next : Writing → ℕ → Writing
open_next st k = record {
  written = st.written + k;
  header = st.header;
  address = st.address;
  opened = st.opened + 1;
  start = st.written;
  next = 0;
  left = 0;
  form = 0;
  stage = st.stage;
}

unfoldable pub open_outcome : Writing → List ℕ → Outcome
open_outcome st d = settled (open_at st (length d)) st (open_next st (open_size st))

unfoldable pub open_octets : Writing → List ℕ → List ℕ
open_octets st d = kept (open_at st (length d)) d (stored d st.written (replicate (open_size st) 0))

-- ---- close: the size is filled in

-- the state between records, in a stage
abbrev pub between_of : Writing → ℕ → Writing
between_of st s = record {
  written = st.written;
  header = st.header;
  address = st.address;
  opened = st.opened;
  start = 0;
  next = 0;
  left = 0;
  form = 0;
  stage = s;
}

-- each key of the m columns from column i on has its bit; the first column's flags field stands at flags, the presence octets are the front of p
unfoldable pub keys_from : List ℕ → ℕ → List ℕ → ℕ → ℕ → Bool
keys_from d flags p zero i = true
keys_from d flags p (suc m) i = cond (cond (key_bit (word_of 4 (drop (flags + 8 * i) d))) (is_set p i) true) (keys_from d flags p m (i + 1)) false

unfoldable pub close_at : Writing → List ℕ → Verdict
close_at st d =
    need (within_of st (length d)) out_of_turn 0
    then need (eqb st.left 0) out_of_turn 0
    then need (cond (eqb st.opened 1) true (keys_from d (28 + 8 * st.header) (drop (st.start + 4) d) st.address 0)) breaks_rule 0

abbrev pub close_next : Writing → Writing
close_next st = between_of st st.stage

unfoldable pub close_outcome : Writing → List ℕ → Outcome
close_outcome st d = settled (close_at st d) st (close_next st)

unfoldable pub close_octets : Writing → List ℕ → List ℕ
close_octets st d = kept (close_at st d) d (stored d st.start (le_of 4 (st.written - st.start)))

-- ---- finish: serial and count are filled in

unfoldable pub finish_at : Writing → ℕ → Verdict
finish_at st n =
    need (idle_of st n) out_of_turn 0
    then need (not (eqb st.opened 0)) out_of_turn 0
    then need (not (eqb st.opened 1)) breaks_rule 0

abbrev pub finish_next : Writing → Writing
finish_next st = between_of st finished_stage

unfoldable pub finish_outcome : Writing → List ℕ → Outcome
finish_outcome st d = settled (finish_at st (length d)) st (finish_next st)

unfoldable pub finish_octets : Writing → List ℕ → List ℕ
finish_octets st d = kept (finish_at st (length d)) d (sealed_to d st.written (st.opened - 1))
