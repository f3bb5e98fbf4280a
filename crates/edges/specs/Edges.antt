-- The edges of a record: one in front of the value of each column, and one behind the last. Between two edges stands
-- what the row that is read there has in that column.
use Prim.Native.Nat.{ℕ, zero, suc, ◌+◌, ◌-◌, ◌≤◌, ◌<◌}
use Rattle.std.proofs.Common.{arith, add-one, sym, ◌∙◌, length-append, length-drop, drop-drop, length-take-le}
use Rattle.std.specs.Prelude.{◌≡◌, refl, Bool, true, false, cond, List, [], ◌∷◌, ◌++◌, ltb, leb, get_or, take, drop}
use Rattle.std.proofs.Math.Path.{ap}
use Rattle.std.proofs.Math.Option.{Option, none}
use Rattle.std.proofs.Math.ListN.{length, get_or-append}
use Rattle.std.proofs.lemmas.List.{take-append-le, drop-append-le}
use borrow.Author.Tests.{le-leb, le-ltb}
use Rattle.octets.specs.Splice.{splice, stored, stored-in}
use Rattle.octets.specs.Word.{word_of}
use Rattle.answers.specs.Numbers.{most_columns, most_octets}
use Rattle.answers.specs.Walk.{Walk}
use Rattle.answers.specs.Walk.{Ends, Broken}
use Rattle.presence.specs.Presence.{room, is_set}
use Rattle.value.specs.Types.{Form, form_at}
use Rattle.value.specs.Value.{value_of}
use Rattle.value.specs.Within.{value-within}
use Rattle.entry.specs.Present.{Row, presence_of, presence-length}
use Rattle.entry.specs.Record.{values_of, inner_of, row_octets, SoundRow, present_in, values_in, part-to, row-long}
use Rattle.entry.specs.Record.{row-length, row-size}
use Rattle.entry.specs.Values.{entry_octets}
use Rattle.entry.specs.Slots.{slots_from, slots-many, step_of}
use Rattle.entry.specs.Read.{width_of, entry_by, entry_at, row_from, row_in, row-in}
use Rattle.edges.specs.Passed.{passed, passed-long, row-passed}

-- as many as a record may have
abbrev pub most_edges : ℕ
most_edges = most_columns + 1

-- an edge in front of each value from bit i on, and one behind the last; ys is what is left of the record, and stands
-- at `at`
unfoldable pub edges_from : List ℕ → ℕ → List ℕ → ℕ → List ℕ → List ℕ
edges_from [] i p at ys = at ∷ []
edges_from (f ∷ forms) i p at ys =
    at ∷ edges_from forms (suc i) p (at + width_of (step_of p i (form_at f) ys))
    (drop (width_of (step_of p i (form_at f) ys)) ys)

-- of the record at the front of xs, which stands at `at`; a record that isn't whole has none. Texts are passed over as
-- narrow strings
unfoldable pub edges_in : List ℕ → ℕ → List ℕ → List ℕ
edges_in forms at xs =
    cond (leb (4 + room (length forms)) (word_of 4 xs))
    (cond (leb (word_of 4 xs) (length xs))
    (edges_from (passed forms) 0 (present_in (length forms) xs) (at + 4 + room (length forms))
    (values_in (length forms) xs))
    [])
    []

-- the octets of xs in column c, between its edges; none where they aren't there
unfoldable pub cell_in : List ℕ → List ℕ → ℕ → List ℕ
cell_in xs edges c =
    cond (ltb (length xs) (get_or edges (c + 1) 0)) []
    (take (get_or edges (c + 1) 0 - get_or edges c 0) (drop (get_or edges c 0) xs))

-- ---- the edges

pub edges-long : (forms : List ℕ) (i : ℕ) (p : List ℕ) (at : ℕ) (ys : List ℕ)
    → length (edges_from forms i p at ys) ≡ suc (length forms)
unfolding edges_from
edges-long [] i p at ys = refl
edges-long (f ∷ forms) i p at ys =
    ap suc
    (edges-long forms (suc i) p (at + width_of (step_of p i (form_at f) ys))
    (drop (width_of (step_of p i (form_at f) ys)) ys))

pub first_edge : (forms : List ℕ) (i : ℕ) (p : List ℕ) (at : ℕ) (ys : List ℕ)
    → get_or (edges_from forms i p at ys) 0 0 ≡ at
unfolding edges_from
first_edge [] i p at ys = refl
first_edge (f ∷ forms) i p at ys = refl

-- ---- what a column's walk passes is the octets of its entry

pub entry-reads : (p : List ℕ) (i : ℕ) (f : Form) (ys : List ℕ)
    → take (width_of (step_of p i f ys)) ys ≡ entry_octets (entry_at p i f ys)
unfolding step_of
entry-reads p i f ys = go (is_set p i) (value_of f ys)
  where
    go : (b : Bool) (r : Walk) → take (width_of (cond b r (Ends 0))) ys ≡ entry_octets (cond b (entry_by r ys) none)
    go true (Ends w) = refl
    go true (Broken q) = refl
    go false r = refl

pub width-in : (p : List ℕ) (i : ℕ) (f : Form) (ys : List ℕ) → width_of (step_of p i f ys) ≤ length ys
unfolding step_of
width-in p i f ys = go (is_set p i) (value_of f ys) refl
  where
    go : (b : Bool) (r : Walk) → value_of f ys ≡ r → width_of (cond b r (Ends 0)) ≤ length ys
    go true (Ends w) e = value-within f ys w e
    go true (Broken q) e = omega arith
    go false r e = omega arith

-- ---- between two edges stands what the row has in that column

-- what stands from a up to z is the entry e; ys is what stands from `at` on
pub record CellIs (e : Option (List ℕ)) (at : ℕ) (ys : List ℕ) (a z : ℕ) : Type 0 where
  pub behind : at ≤ a
  pub wide : z ≡ a + length (entry_octets e)
  pub within : z ≤ at + length ys
  pub reads : take (z - a) (drop (a - at) ys) ≡ entry_octets e

pub edges_are : (forms flags : List ℕ) (c i : ℕ) (p : List ℕ) (at : ℕ) (ys : List ℕ) → c < length forms
    → CellIs (get_or (row_from (slots_from forms flags) i p ys) c none) at ys (get_or (edges_from forms i p at ys) c 0)
    (get_or (edges_from forms i p at ys) (suc c) 0)
unfolding edges_from row_from
edges_are [] flags c i p at ys h = absurd (omega arith)
edges_are (f ∷ forms) flags zero i p at ys h =
    let w : ℕ = width_of (step_of p i (form_at f) ys) in
    let z : get_or (edges_from forms (suc i) p (at + w) (drop w ys)) 0 0 ≡ at + w =
    first_edge forms (suc i) p (at + w) (drop w ys) in
    let r : take w ys ≡ entry_octets (entry_at p i (form_at f) ys) = entry-reads p i (form_at f) ys in
    let k : w ≤ length ys = width-in p i (form_at f) ys in
    let l : length (entry_octets (entry_at p i (form_at f) ys)) ≡ w = ap length (sym r) ∙ length-take-le w ys k in
    let d : at + w - at ≡ w = omega arith in
    let n : at - at ≡ 0 = omega arith in
    record {
      behind = omega arith;
      wide = z
          ∙ ap (λ (x : ℕ). at + x) (sym l);
      within = omega arith;
      reads = rw (z, d, n) r;
    }
edges_are (f ∷ forms) flags (suc c) i p at ys h =
    let w : ℕ = width_of (step_of p i (form_at f) ys) in
    further w (width-in p i (form_at f) ys)
    (edges_are forms (drop 1 flags) c (suc i) p (at + w) (drop w ys) (omega arith))
  where
    further : {e : Option (List ℕ)} {a z : ℕ} (w : ℕ) → w ≤ length ys → CellIs e (at + w) (drop w ys) a z
        → CellIs e at ys a z
    further {e} {a} {z} w k c =
        let l = length-drop w ys in
        let b = c.behind in
        let d : w + (a - (at + w)) ≡ a - at = omega arith in
        record {
          behind = omega arith;
          wide = c.wide;
          within = omega (arith, c.within);
          reads = rw (drop-drop (a - (at + w)) w ys, d) at c.reads;
        }

-- ---- in the book

-- the stretch of xs from a up to z is the value of the entry e, and empty where it has none
pub record CellOf (e : Option (List ℕ)) (xs : List ℕ) (a z : ℕ) : Type 0 where
  pub wide : z ≡ a + length (entry_octets e)
  pub within : z ≤ length xs
  pub reads : take (z - a) (drop a xs) ≡ entry_octets e

cell-of : (e : Option (List ℕ)) (xs ys rest : List ℕ) (at a z : ℕ) → at ≤ length xs → drop at xs ≡ ys ++ rest
    → CellIs e at ys a z → CellOf e xs a z
cell-of e xs ys rest at a z h q c =
    let l : length xs - at ≡ length ys + length rest = sym (length-drop at xs) ∙ ap length q ∙ length-append ys rest in
    let b = c.behind in
    let w = c.wide in
    let i = c.within in
    let k : at + (a - at) ≡ a = omega arith in
    let d : drop a xs ≡ drop (a - at) ys ++ rest = rw k at (sym (drop-drop (a - at) at xs)) ∙ ap (drop (a - at)) q
    ∙ drop-append-le (a - at) ys rest (omega arith) in
    let n = length-drop (a - at) ys in
    record {
      wide = w;
      within = omega arith;
      reads = ap (take (z - a)) d
          ∙ take-append-le (z - a) (drop (a - at) ys) rest (omega arith) ∙ c.reads;
    }

-- the edges of a record that is whole, in any octets, and of the row that is passed over there
record-edge : (forms flags xs : List ℕ) (at c : ℕ)
    → 4 + room (length forms) ≤ word_of 4 (drop at xs) → word_of 4 (drop at xs) ≤ length (drop at xs) → c < length forms
    → CellOf (get_or (row_in (slots_from (passed forms) flags) (drop at xs)) c none) xs
    (get_or (edges_in forms at (drop at xs)) c 0) (get_or (edges_in forms at (drop at xs)) (c + 1) 0)
unfolding edges_in row_in
record-edge forms flags xs at c s w g =
    let n : ℕ = length forms in
    let m : ℕ = room n in
    let ys : List ℕ = drop at xs in
    let l : length ys ≡ length xs - at = length-drop at xs in
    let t : length (take (word_of 4 ys) ys) ≡ word_of 4 ys = length-take-le (word_of 4 ys) ys w in
    let v : length (values_in n ys) ≡ length (take (word_of 4 ys) ys) - (4 + m) =
    length-drop (4 + m) (take (word_of 4 ys) ys) in
    let d : drop (at + 4 + m) xs ≡ values_in n ys ++ drop (word_of 4 ys) ys =
    (let a : at + (4 + m) ≡ at + 4 + m = omega arith in rw a at (sym (drop-drop (4 + m) at xs)))
    ∙ part-to (4 + m) (word_of 4 ys) ys s w in
    let p = passed-long forms in
    let i = edges_are (passed forms) flags c 0 (present_in n ys) (at + 4 + m) (values_in n ys) (omega arith) in
    rw
    (le-leb (4 + m) (word_of 4 ys) s, le-leb (word_of 4 ys) (length ys) w, slots-many (passed forms) flags, p, add-one c)
    (cell-of (get_or (row_from (slots_from (passed forms) flags) 0 (present_in n ys) (values_in n ys)) c none) xs
    (values_in n ys) (drop (word_of 4 ys) ys) (at + 4 + m) _ _ (omega arith) d i)

-- the octets of a sound row are a whole record
row-whole : (forms flags xs : List ℕ) (at : ℕ) (es : Row) (rest : List ℕ) → length xs ≤ most_octets
    → SoundRow (slots_from forms flags) es → drop at xs ≡ row_octets es ++ rest
    → (4 + room (length forms) ≤ word_of 4 (drop at xs)) × (word_of 4 (drop at xs) ≤ length (drop at xs))
row-whole forms flags xs at es rest k sd q =
    let l : length (drop at xs) ≡ length xs - at = length-drop at xs in
    let n : length es ≡ length forms = row-long (slots_from forms flags) es sd ∙ slots-many forms flags in
    let a : length (drop at xs) ≡ length (row_octets es) + length rest = ap length q
    ∙ length-append (row_octets es) rest in
    let b : length (row_octets es) ≡ 4 + length (inner_of es) = row-length es in
    let p : length (inner_of es) ≡ room (length forms) + length (values_of es) =
    length-append (presence_of es) (values_of es)
    ∙ ap (λ (x : ℕ). x + length (values_of es)) (presence-length es ∙ ap room n) in
    let w : word_of 4 (drop at xs) ≡ length (row_octets es) = ap (word_of 4) q ∙ row-size es rest (omega arith) in
    (omega arith, omega arith)

-- between the edges of a sound row stand its values; it has an edge more than columns
module _ (forms flags xs : List ℕ) (at : ℕ) (es : Row) (rest : List ℕ) (k : length xs ≤ most_octets)
    (sd : SoundRow (slots_from forms flags) es) (q : drop at xs ≡ row_octets es ++ rest) where
  row-edge : (c : ℕ) → c < length forms
      → CellOf (get_or es c none) xs (get_or (edges_in forms at (drop at xs)) c 0)
      (get_or (edges_in forms at (drop at xs)) (c + 1) 0)
  row-edge c g =
      let w = row-whole forms flags xs at es rest k sd q in
      let l : length (drop at xs) ≡ length xs - at = length-drop at xs in
      let a : length (drop at xs) ≡ length (row_octets es) + length rest = ap length q
      ∙ length-append (row_octets es) rest in
      let r : row_in (slots_from (passed forms) flags) (drop at xs) ≡ es = ap (row_in (slots_from (passed forms) flags)) q
      ∙ row-in (slots_from (passed forms) flags) es rest (row-passed forms flags es sd) (omega arith) in
      rw r at (record-edge forms flags xs at c w.0 w.1 g)

  row-edges : length (edges_in forms at (drop at xs)) ≡ suc (length forms)
  unfolding edges_in
  row-edges =
      let w = row-whole forms flags xs at es rest k sd q in
      let n : ℕ = length forms in
      rw (
        le-leb (4 + room n) (word_of 4 (drop at xs)) w.0,
        le-leb (word_of 4 (drop at xs)) (length (drop at xs)) w.1,
      )
      (edges-long (passed forms) 0 (present_in n (drop at xs)) (at + 4 + room n) (values_in n (drop at xs))
      ∙ ap suc (passed-long forms))

-- the octets of a column are those of its entry
cell-is : (e : Option (List ℕ)) (xs edges : List ℕ) (c : ℕ)
    → CellOf e xs (get_or edges c 0) (get_or edges (c + 1) 0) → cell_in xs edges c ≡ entry_octets e
unfolding cell_in
cell-is e xs edges c i = rw (le-ltb (length xs) (get_or edges (c + 1) 0) i.within) i.reads

-- an edge that is laid down in an array
edge-laid : (d es : List ℕ) (c : ℕ) → length es ≤ length d → c < length es → get_or (stored d 0 es) c 0 ≡ get_or es c 0
unfolding splice
edge-laid d es c h k = rw (stored-in d 0 es (omega arith)) (get_or-append es (drop (0 + length es) d) 0 c k)

-- the edges of a sound row laid down in an array d: in each column stands the row's entry
pub row-cell : (forms flags xs : List ℕ) (at : ℕ) (es : Row) (rest : List ℕ) → length xs ≤ most_octets
    → SoundRow (slots_from forms flags) es → drop at xs ≡ row_octets es ++ rest
    → (d : List ℕ) → length forms < length d → (c : ℕ) → c < length forms
    → cell_in xs (stored d 0 (edges_in forms at (drop at xs))) c ≡ entry_octets (get_or es c none)
row-cell forms flags xs at es rest k sd q d h c g =
    let es' : List ℕ = edges_in forms at (drop at xs) in
    let l : length es' ≡ suc (length forms) = row-edges forms flags xs at es rest k sd q in
    cell-is (get_or es c none) xs (stored d 0 es') c
    (rw (edge-laid d es' c (omega arith) (omega arith), edge-laid d es' (c + 1) (omega arith) (omega arith))
    (row-edge forms flags xs at es rest k sd q c g))
