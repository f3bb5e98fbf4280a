-- The rows that a sheet is made of: for each of the types a value of it, or none.
use Rattle.std.specs.Prelude.{ℕ, ◌%◌, ◌≡◌, true, List, [], ◌∷◌}
use Rattle.entry.specs.Present.{Row}
use Rattle.octets.specs.Cases.{taken}
use Rattle.entry.specs.Record.{Slot, SoundRow, unlike}
use Rattle.sheet.specs.Field.{is_exported, all_exported, codes_of}
use Rattle.sheet.specs.Values.{free_slot}

abbrev pub free_slots : List ℕ → List Slot
free_slots [] = []
free_slots (c ∷ cs) = free_slot c ∷ free_slots cs

-- each type can be exported
abbrev pub Exported : List ℕ → Type 0
Exported [] = Unit {0}
Exported (c ∷ cs) = (is_exported c ≡ true) × Exported cs

pub exported-each : (tags : List ℕ) → all_exported tags ≡ true → Exported (codes_of tags)
unfolding all_exported
exported-each [] h = tt
exported-each (t ∷ tags) h =
    taken (is_exported (t % 65536)) _ _ _ h (λ p q. (p, exported-each tags q)) (λ p q. unlike q)

-- rows that have, for each of the types, a value of it or none
abbrev pub SoundChoice : List ℕ → List Row → Type 0
SoundChoice codes [] = Unit {0}
SoundChoice codes (es ∷ rows) = SoundRow (free_slots codes) es × SoundChoice codes rows
