-- The ways of the code over a line, as it goes from field to field: what the writer's calls answer, and what is laid
-- down. Assumes nothing.
use Rattle.std.specs.Prelude.{Ok, Err, ℕ, ◌+◌, Bool, true, false, cond, List, [], ◌∷◌, eqb, ltb, length, drop, get_or}
use Rattle.answers.specs.Numbers.{breaks_rule, most_opened}
use Rattle.answers.specs.Verdict.{Answer, Verdict, refusal}
use Rattle.answers.specs.Verdict.{Refused}
use Rattle.answers.specs.Verdict.{need}
use Rattle.presence.specs.Presence.{room}
use Rattle.entry.specs.Present.{marks}
use Rattle.entry.specs.Record.{values_of, row_octets}
use Rattle.entry.specs.Values.{entry_octets}
use Rattle.entry.specs.Slots.{key_bit}
use Rattle.writing.specs.State.{room_at}
use Rattle.sheet.specs.Reading.{content_in}
use Rattle.importing.specs.Fields.{field_long, field_in, field_behind, laid_from, laid_row, line_long}
use Rattle.importing.specs.declared.lines.Line.{Line}
use Rattle.importing.specs.declared.lines.Put.{Put}

-- what follows a verdict that is clear
abbrev pub onward : Verdict → Answer Line → Answer Line
onward (Ok _) l = l
onward (Refused r) l = Err r

-- every key has a value still
unfoldable pub key_held : Bool → ℕ → ℕ → Bool
key_held held flags long = cond (eqb long 0) (cond (key_bit flags) false held) held

abbrev pub field_size : ℕ → List ℕ → ℕ
field_size c xs = length (entry_octets (laid_from c (content_in (field_in xs))))

-- the fields of these types at the front of xs, which stands at `at`, and the close
unfoldable pub line_from : List ℕ → List ℕ → Bool → ℕ → ℕ → ℕ → List ℕ → Answer Line
line_from [] flags held w n at xs =
    cond held (Ok (record { written = w; end = at + 1 })) (Err (refusal breaks_rule 0))
line_from (c ∷ cs) flags held w n at xs =
    onward (room_at w n (field_size c xs))
    (line_from cs (drop 1 flags) (key_held held (get_or flags 0 0) (field_size c xs)) (w + field_size c xs) n
    (at + field_long false xs + 1) (field_behind xs))

-- opened, given and closed
unfoldable pub record_from : List ℕ → List ℕ → ℕ → ℕ → ℕ → ℕ → List ℕ → Answer Line
record_from codes flags w n opened at xs =
    onward (need (ltb opened most_opened) breaks_rule 0)
    (onward (room_at w n (4 + room (length codes)))
    (line_from codes flags true (w + (4 + room (length codes))) n at xs))

-- ---- laid down

unfoldable pub values_put : List ℕ → ℕ → ℕ → List ℕ → Put
values_put codes at from xs = record {
  written = at + length (values_of (laid_row codes xs));
  end = from + line_long codes xs;
  bits = marks 2 0 (laid_row codes xs);
}

unfoldable pub line_put : List ℕ → ℕ → ℕ → List ℕ → Put
line_put codes at from xs = record {
  written = at + length (row_octets (laid_row codes xs));
  end = from + line_long codes xs;
  bits = marks 2 0 (laid_row codes xs);
}
