-- The values that a sheet was made of come back from its text; so no two different selections of values give the same
-- text for the same tags (request 101), and the number of records is told with them.
use Rattle.std.specs.Prelude.{ℕ, ◌≡◌, refl, true, List, [], ◌∷◌, drop}
use Rattle.std.proofs.Common.{sym, ap, ap₂, ◌∙◌}
use Rattle.std.proofs.Math.Option.{Option, none, some}
use Rattle.entry.specs.Present.{Row}
use Rattle.entry.specs.Record.{SoundEntry, SoundRow}
use Rattle.sheet.specs.Field.{narrows, texts, is_exported, codes_of, content_of, sheet_of}
use Rattle.sheet.specs.Reading.{value_from, values_from, rows_from, rows_in}
use Rattle.sheet.specs.Back.{contents_of, held_by, sheet-read}
use Rattle.sheet.specs.Values.{by-type, narrow-string, text-string, free_slot}
use Rattle.sheet.specs.Values.{number-value, truth-value, narrow-value, text-value}
use Rattle.sheet.specs.Values.{number-again, truth-again, string-back}
use Rattle.sheet.specs.One.{free_slots, Exported, SoundChoice}

none-back : (code : ℕ) → value_from code (content_of code none) ≡ none
unfolding value_from content_of
none-back code = refl

pub value-back : (code : ℕ) (e : Option (List ℕ)) → is_exported code ≡ true → SoundEntry (free_slot code) e
    → value_from code (content_of code e) ≡ e
value-back code none h s = none-back code
value-back code (some v) h s =
    by-type code h
    (λ p. rw p (number-again v (number-value v (rw p at s.0))))
    (λ p. rw p (truth-again v (truth-value v (rw p at s.0))))
    (λ p. rw p (string-back narrows v narrow-string (narrow-value v (rw p at s.0))))
    (λ p. rw p (string-back texts v text-string (text-value v (rw p at s.0))))

row_back : (cs : List ℕ) (es : Row) → Exported cs → SoundRow (free_slots cs) es → values_from cs (contents_of cs es) ≡ es
row_back [] [] h s = refl
row_back [] (e ∷ es) h s = absurd s
row_back (c ∷ cs) [] h s = absurd s
row_back (c ∷ cs) (e ∷ es) h s =
    ap₂ (λ (x : Option (List ℕ)) (l : Row). x ∷ l) (value-back c e h.0 s.0) (row_back cs es h.1 s.1)

rows_back : (cs : List ℕ) (rows : List Row) → Exported cs → SoundChoice cs rows → rows_from cs (held_by cs rows) ≡ rows
rows_back cs [] h s = refl
rows_back cs (es ∷ rows) h s =
    ap₂ (λ (x : Row) (l : List Row). x ∷ l) (row_back cs es h s.0) (rows_back cs rows h s.1)

-- the reading of a sheet gives its rows
pub sheet-back : (tags : List ℕ) (rows : List Row) → Exported (codes_of tags) → SoundChoice (codes_of tags) rows
    → rows_in tags (sheet_of tags rows) ≡ rows
unfolding rows_in
sheet-back tags rows h s =
    ap (λ (l : List (List (List ℕ))). rows_from (codes_of tags) (drop 1 l)) (sheet-read tags rows)
    ∙ rows_back (codes_of tags) rows h s

pub sheet-one : (tags : List ℕ) (ds es : List Row) → Exported (codes_of tags) → SoundChoice (codes_of tags) ds
    → SoundChoice (codes_of tags) es → sheet_of tags ds ≡ sheet_of tags es → ds ≡ es
sheet-one tags ds es h g k q = sym (sheet-back tags ds h g) ∙ ap (rows_in tags) q ∙ sheet-back tags es h k
