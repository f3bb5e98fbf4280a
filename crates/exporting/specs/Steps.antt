-- The sheet in the steps of the code: by the edges of each record, laid down in an array that goes from record to
-- record, and by the column of each chosen tag.
use Rattle.std.specs.Prelude.{ℕ, zero, suc, ◌+◌, ◌-◌, ◌%◌, cond, List, [], ◌∷◌, ◌++◌, ltb, leb, length, get_or, take, drop, replicate}
use Rattle.std.proofs.Math.Option.{Option, none, some}
use Rattle.octets.specs.Splice.{stored}
use Rattle.octets.specs.Word.{word_of}
use Rattle.answers.specs.Numbers.{no_room}
use Rattle.answers.specs.Verdict.{Verdict}
use Rattle.answers.specs.Verdict.{◌then◌, need, kept}
use Rattle.answers.specs.Made.{Made}
use Rattle.answers.specs.Made.{answered}
use Rattle.table.specs.Found.{column_of}
use Rattle.table.specs.declared.Columns.{Columns}
use Rattle.edges.specs.Edges.{most_edges, edges_in, cell_in}
use Rattle.lookup.specs.Look.{column_in}
use Rattle.sheet.specs.Field.{most_chosen, comma, cr, field_of, line_of, tag_fields}
use Rattle.exporting.specs.Export.{choice_at}

-- ---- a field

-- a value by its octets, of which there are none where it is absent
abbrev pub entry_for : List ℕ → Option (List ℕ)
entry_for v = cond (ltb (length v) 1) none (some v)

unfoldable pub field_for : ℕ → List ℕ → List ℕ
field_for code v = field_of code (entry_for v)

-- of a tag whose column is c
unfoldable pub field_at : List ℕ → List ℕ → ℕ → ℕ → List ℕ
field_at xs edges tag c = field_for (tag % 65536) (cell_in xs edges c)

-- field i of n and what stands behind it
unfoldable pub ended : List ℕ → ℕ → ℕ → List ℕ
ended f i n = f ++ (cond (ltb (i + 1) n) comma cr ∷ [])

-- ---- lines

unfoldable pub chosen_fields : List ℕ → List ℕ → List ℕ → List ℕ → List (List ℕ)
chosen_fields xs edges [] places = []
chosen_fields xs edges (t ∷ tags) places =
    field_at xs edges t (get_or places 0 0) ∷ chosen_fields xs edges tags (drop 1 places)

abbrev pub line_by : List ℕ → List ℕ → List ℕ → List ℕ → List ℕ
line_by xs edges tags places = line_of (chosen_fields xs edges tags places)

-- the edges of the record at `at` over those of another
unfoldable pub edges_over : List ℕ → List ℕ → ℕ → List ℕ → List ℕ
edges_over xs forms at d = stored d 0 (edges_in forms at (drop at xs))

-- of n records from `at` on
unfoldable pub lines_by : List ℕ → List ℕ → List ℕ → List ℕ → ℕ → ℕ → List ℕ → List ℕ
lines_by xs forms tags places zero at d = []
lines_by xs forms tags places (suc n) at d =
    line_by xs (edges_over xs forms at d) tags places
    ++ lines_by xs forms tags places n (at + word_of 4 (drop at xs)) (edges_over xs forms at d)

unfoldable pub sheet_by : List ℕ → List ℕ → List ℕ → List ℕ → ℕ → ℕ → List ℕ
sheet_by xs forms tags places n at =
    line_of (tag_fields tags) ++ lines_by xs forms tags places n at (replicate most_edges 0)

-- ---- the columns of the chosen tags

unfoldable pub place_of : List ℕ → ℕ → ℕ
place_of cols tag = column_of (column_in tag cols)

abbrev pub places_in : List ℕ → List ℕ → List ℕ
places_in cols [] = []
places_in cols (t ∷ tags) = place_of cols t ∷ places_in cols tags

abbrev pub places_for : List ℕ → List ℕ → List ℕ
places_for cols tags = places_in cols tags ++ replicate (most_chosen - length tags) 0

-- ---- the sheet of a good book, by its address columns

unfoldable pub sheet_from : List ℕ → Columns → List ℕ → ℕ → ℕ → List ℕ
sheet_from xs columns tags n at =
    sheet_by xs (take columns.count columns.forms) tags
    (places_in (take columns.count columns.tags) tags) n at

abbrev pub choice_from : Columns → List ℕ → Verdict
choice_from columns tags = choice_at (take columns.count columns.tags) tags

unfoldable pub good_length : List ℕ → Columns → List ℕ → ℕ → ℕ → Made
good_length xs columns tags n at = answered (choice_from columns tags) (length (sheet_from xs columns tags n at))

abbrev pub good_at : List ℕ → Columns → List ℕ → ℕ → ℕ → List ℕ → Verdict
good_at xs columns tags n at d =
    choice_from columns tags then need (leb (length (sheet_from xs columns tags n at)) (length d)) no_room 0

unfoldable pub good_answer : List ℕ → Columns → List ℕ → ℕ → ℕ → List ℕ → Made
good_answer xs columns tags n at d = answered (good_at xs columns tags n at d) (length (sheet_from xs columns tags n at))

unfoldable pub good_octets : List ℕ → Columns → List ℕ → ℕ → ℕ → List ℕ → List ℕ
good_octets xs columns tags n at d = kept (good_at xs columns tags n at d) d (stored d 0 (sheet_from xs columns tags n at))
