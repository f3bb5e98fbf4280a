-- The calls that give a row's values to an open record, in one buffer: their first refusal is that of the octets which
-- they bring, one after another, and where there is none the record has the row.
use Prim.Native.Nat.{ℕ, suc, ◌+◌, ◌≤◌, ◌<◌}
use native.Mathlib.Omega.{arith}
use Rattle.std.specs.Prelude.{◌≡◌, drop, get_or}
use Rattle.std.proofs.Math.Path.{refl, sym, ap, subst}
use Rattle.std.proofs.Common.{◌∙◌}
use Rattle.std.proofs.Math.Option.{none, some}
use mathlib.Core.List.{List, [], ◌∷◌, ◌++◌, append_assoc}
use Rattle.std.proofs.Math.ListN.{length, set, length-append, length-replicate}
use Rattle.std.proofs.Math.Seq.{set_at}
use Rattle.answers.specs.Verdict.{Verdict}
use Rattle.answers.specs.Verdict.{◌then◌}
use Rattle.value.specs.Types.{Form}
use Rattle.table.specs.Table.{Column}
use Rattle.table.specs.Columns.{tags_of}
use Rattle.entry.specs.Present.{Row}
use Rattle.entry.specs.Record.{Slot, SoundRow, freed}
use Rattle.drafting.specs.Open.{blank_row}
use Rattle.drafting.specs.Spell.{Spelling, value-spelled}
use Rattle.drafting.specs.Start.{open_columns}
use Rattle.drafting.specs.Draft.{Part, closed_octets, open_slots}
use Rattle.drafting.specs.Gives.{given-long}
use Rattle.drafting.specs.Run.{Call}
use Rattle.drafting.specs.Written.{Stand}
use Rattle.drafting.specs.Goes.{entry_calls}
use Rattle.drafting.specs.Again.{row_calls, slot-here}
use Rattle.importing.specs.Given.{pieces_of, row_pieces, pieces_at}
use Rattle.importing.specs.Fitting.{pieces-sum, pieces-append}
use Rattle.imported.specs.Calls.{Answers, answers-append}
use Rattle.imported.specs.Value.{InPart, Brings, more-written, entry-brings}

module _ (d₀ : List ℕ) (hs cs : List Column) (rows : List Row) where
  abbrev k : ℕ
  k = length rows + 1

  abbrev ss : List Slot
  ss = open_slots hs cs k

  abbrev ts : List ℕ
  ts = tags_of (open_columns hs cs k)

  abbrev Inner : Part → Stand → Type 0
  Inner p s = InPart d₀ hs cs rows p s

  -- the record that is open has the row
  pub record Has (es : Row) (t : Stand) : Type 0 where
    pub next : ℕ
    pub inside : InPart d₀ hs cs rows (record { row = es; next = next; due = 0 }) t

  -- from column c on
  unfoldable RowBrings : List Slot → Row → Type 0
  RowBrings us es = (h : SoundRow (freed us) es) (pre : Row) (c : ℕ) (s : Stand) (p : Part) → Inner p s → c ≡ length pre
      → p.row ≡ pre ++ blank_row (length es) → p.next ≤ c → p.due ≡ 0 → drop c ss ≡ us
      → Brings (length d₀) (row_calls (freed us) ts c es h) (row_pieces us es) (Has (pre ++ es)) s

  none-brings : RowBrings [] []
  unfolding RowBrings row_calls row_pieces pieces_at
  none-brings h pre c s p i e q n z u =
      record {
        verdict = refl;
        leaves = λ y.
            record {
              next = p.next;
              inside = subst (λ (x : Part). Inner x s) (λ j. record { row = q j; next = p.next; due = z j }) i;
            };
      }

  absent-brings : (x : Slot) (us : List Slot) (es : Row) → RowBrings us es → RowBrings (x ∷ us) (none ∷ es)
  unfolding RowBrings row_calls row_pieces
  absent-brings x us es ih h pre c s p i e q n z u =
      let b : p.row ≡ (pre ++ (none ∷ [])) ++ blank_row (length es) =
      q ∙ sym (append_assoc pre (none ∷ []) (blank_row (length es))) in
      let m : suc c ≡ length (pre ++ (none ∷ [])) = (let w = length-append pre (none ∷ []) in omega arith) in
      let o : p.next ≤ suc c = omega arith in
      subst (λ (r : Row). Brings (length d₀) (row_calls (freed us) ts (suc c) es h.1) (row_pieces us es) (Has r) s)
      (append_assoc pre (none ∷ []) es)
      (ih h.1 (pre ++ (none ∷ [])) (suc c) s p i m b o z (slot-here ss c x us u).1)

  value-brings : (x : Slot) (us : List Slot) (v : List ℕ) (es : Row) → RowBrings us es
      → RowBrings (x ∷ us) (some v ∷ es)
  unfolding RowBrings row_calls row_pieces
  value-brings x us v es ih h pre c s p i e q n z u =
      let g = slot-here ss c x us u in
      let f : Form = x.form in
      let w : ℕ = s.state.written in
      let m : ℕ = length d₀ in
      let sp : Spelling f v = value-spelled f v h.0.0 h.0.1 in
      let calls : List Call = entry_calls f v (get_or ts c 0) sp in
      let more : List Call = row_calls (freed us) ts (suc c) es h.1 in
      let l : c < length p.row = inner e q in
      let p' : Part = record { row = set p.row c (some v); next = c + 1; due = 0 } in
      let a : Brings (length d₀) calls (pieces_of f v) (Inner p') s =
      subst (λ (y : Form). (sp : Spelling y v)
      → Brings (length d₀) (entry_calls y v (get_or ts c 0) sp) (pieces_of y v) (Inner p') s)
      g.0 (λ sp. entry-brings d₀ hs cs rows s p i c v z n l sp) sp in
      let b : set p.row c (some v) ≡ (pre ++ (some v ∷ [])) ++ blank_row (length es) =
      ap (λ (y : Row). set y c (some v)) q ∙ set_at pre none (blank_row (length es)) (some v) c (sym e)
      ∙ sym (append_assoc pre (some v ∷ []) (blank_row (length es))) in
      let o : suc c ≡ length (pre ++ (some v ∷ [])) = (let y = length-append pre (some v ∷ []) in omega arith) in
      let long = given-long (closed_octets hs cs rows) p.row p.next c v l i.blank n in
      let k : pieces_at w m (pieces_of f v ++ row_pieces us es)
      ≡ (pieces_at w m (pieces_of f v) then pieces_at (w + length v) m (row_pieces us es)) =
      pieces-append w m (pieces_of f v) (row_pieces us es)
      ∙ ap (λ (y : ℕ). pieces_at w m (pieces_of f v) then pieces_at (w + y) m (row_pieces us es))
      (pieces-sum f v h.0.0) in
      subst (λ (y : Verdict). Answers (calls ++ more) y (Has (pre ++ (some v ∷ es))) s) (sym k)
      (subst (λ (r : Row). Answers (calls ++ more)
      (pieces_at w m (pieces_of f v) then pieces_at (w + length v) m (row_pieces us es)) (Has r) s)
      (append_assoc pre (some v ∷ []) es)
      (answers-append calls more (pieces_at w m (pieces_of f v)) (pieces_at (w + length v) m (row_pieces us es))
      (Inner p') (Has ((pre ++ (some v ∷ [])) ++ es)) s a
      (λ t j. subst (λ (y : ℕ). Answers more (pieces_at y m (row_pieces us es)) (Has ((pre ++ (some v ∷ [])) ++ es)) t)
      (more-written d₀ hs cs rows p p' v s t i j long)
      (ih h.1 (pre ++ (some v ∷ [])) (suc c) t p' j o b (next-in c) refl g.1))))
    where
      inner : c ≡ length pre → p.row ≡ pre ++ blank_row (length (some v ∷ es)) → c < length p.row
      inner e q =
          let w = length-append pre (blank_row (suc (length es))) in
          let r : length (blank_row (suc (length es))) ≡ suc (length es) = length-replicate (suc (length es)) none in
          omega (arith, ap length q)

      next-in : (c : ℕ) → c + 1 ≤ suc c
      next-in c = omega arith

  brings : (us : List Slot) (es : Row) → SoundRow (freed us) es → RowBrings us es
  brings [] [] h = none-brings
  brings [] (x ∷ es) h = absurd h
  brings (x ∷ us) [] h = absurd h
  brings (x ∷ us) (none ∷ es) h = absent-brings x us es (brings us es h.1)
  brings (x ∷ us) (some v ∷ es) h = value-brings x us v es (brings us es h.1)

  -- of a whole row, from the blank one on
  pub row-brings : (es : Row) (h : SoundRow (freed ss) es) (s : Stand) (p : Part) → Inner p s
      → p.row ≡ blank_row (length es) → p.next ≡ 0 → p.due ≡ 0
      → Brings (length d₀) (row_calls (freed ss) ts 0 es h) (row_pieces ss es) (Has es) s
  unfolding RowBrings
  row-brings es h s p i q n z = brings ss es h h [] 0 s p i refl q (omega arith) z refl
