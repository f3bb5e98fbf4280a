-- The calls that give a value to an open record, in one buffer: their first refusal is that of the octets which they
-- bring, one after another, and where there is none the record has the value.
use Prim.Native.Nat.{ℕ, suc, ◌+◌, ◌-◌, ◌%◌, ◌≤◌, ◌<◌}
use native.Mathlib.Omega.{arith}
use Rattle.std.proofs.Common.{add-one, ◌∙◌, length-set, get_or-set_same, ne_eqb}
use Rattle.std.specs.Prelude.{◌≡◌, refl, true}
use Rattle.std.proofs.Math.Path.{sym, ap, subst}
use Rattle.std.proofs.Math.Option.{none, some}
use mathlib.Core.List.{List, [], ◌∷◌, ◌++◌, append_assoc, append-nil}
use Rattle.std.proofs.Math.ListN.{length, get_or, set}
use Rattle.std.proofs.lemmas.List.{set-get_or}
use Rattle.answers.specs.Verdict.{clear}
use Rattle.value.specs.Types.{Form, form_of}
use Rattle.table.specs.Table.{Column}
use Rattle.table.specs.Columns.{tags_of}
use Rattle.table.specs.Found.{At}
use Rattle.entry.specs.Present.{Row}
use Rattle.entry.specs.Record.{Slot}
use Rattle.writing.specs.State.{within_of, room_at, room_in_lem}
use Rattle.writing.specs.Column.{column_for}
use Rattle.writing.specs.declared.Writing.{Writing}
use Rattle.giving.specs.Give.{Given, formed, octets_for, left_of, element_form, due_form, give_at, element_at}
use Rattle.drafting.specs.Open.{Blank, open_record}
use Rattle.drafting.specs.Spell.{Elements, joined, Spelling}
use Rattle.drafting.specs.Start.{open_columns, seek-there}
use Rattle.drafting.specs.Draft.{Part, closed_octets, open_slots, form_in, Front, Inside}
use Rattle.drafting.specs.Turns.{front_long, inside-taken, column-is}
use Rattle.drafting.specs.Gives.{giving, set_twice, given-long, added-long, open-form}
use Rattle.drafting.specs.Run.{Call, Give, Add}
use Rattle.drafting.specs.Written.{Stand, after, due-form}
use Rattle.drafting.specs.Goes.{Room, open-sound, give-goes, add_goes, adds, filled, entry_calls}
use Rattle.importing.specs.Given.{pieces_of, pieces_at}
use Rattle.imported.specs.Calls.{Answers, answers-first}
use Rattle.imported.specs.Pieces.{sizes, pieces_are}

-- ---- one call

give-verdict : (st : Writing) (d : List ℕ) (tag c : ℕ) (v : Given) → column_for st d tag ≡ At c
    → formed (form_of (tag % 65536)) v ≡ true
    → give_at st d tag v ≡ room_at st.written (length d) (length (octets_for (form_of (tag % 65536)) v))
unfolding give_at
give-verdict st d tag c v q f = rw (q, f)

add-verdict : (st : Writing) (d : List ℕ) (v : Given) → within_of st (length d) ≡ true → 1 ≤ st.left
    → formed (due_form st) v ≡ true
    → element_at st d v ≡ room_at st.written (length d) (length (octets_for (due_form st) v))
unfolding element_at
add-verdict st d v w l f = rw (w, ne_eqb st.left 0 (λ e. omega arith), f)

let-in : (st : Writing) (d d₀ p : List ℕ) (k : ℕ) → Front st d d₀ p → room_at st.written (length d₀) k ≡ clear
    → Room (length p + k) d₀
let-in st d d₀ p k f e =
    let r = room_in_lem st.written (length d₀) k e in
    let w = f.length-is in
    record { limit = omega (arith, r.limit); buffer = omega (arith, r.buffer) }

-- calls whose verdict is that of the octets which they bring, n octets being lent; and what is left then
abbrev pub Brings : ℕ → List Call → List ℕ → (Stand → Type 0) → Stand → Type 0
Brings n calls ks P s = Answers calls (pieces_at s.state.written n ks) P s

module _ (d₀ : List ℕ) (hs cs : List Column) (rows : List Row) where
  abbrev k : ℕ
  k = length rows + 1

  abbrev ss : List Slot
  ss = open_slots hs cs k

  abbrev ts : List ℕ
  ts = tags_of (open_columns hs cs k)

  -- the record that is open, in the one buffer
  abbrev pub InPart : Part → Stand → Type 0
  InPart p s = Inside s.state s.octets d₀ hs cs rows p

  -- what is written then
  pub more-written : (p q : Part) (v : List ℕ) (s t : Stand) → InPart p s → InPart q t
      → length (closed_octets hs cs rows ++ open_record q.row)
      ≡ length (closed_octets hs cs rows ++ open_record p.row) + length v
      → t.state.written ≡ s.state.written + length v
  more-written p q v s t i j e =
      j.front.length-is ∙ e ∙ ap (λ (n : ℕ). n + length v) (sym i.front.length-is)

  -- ---- a value

  adds-bring : (vs : List Given) (s : Stand) (p : Part) → InPart p s → (c : ℕ) (u : List ℕ) → p.next ≡ suc c
      → c < length p.row → get_or p.row c none ≡ some u → p.due ≡ length vs
      → Elements (element_form (form_in ss c)) vs
      → Brings (length d₀) (adds vs) (sizes (element_form (form_in ss c)) vs)
      (InPart (filled p c (u ++ joined (element_form (form_in ss c)) vs))) s
  unfolding pieces_at
  adds-bring [] s p i c u n l g z h =
      let q : p.row ≡ set p.row c (some (u ++ [])) =
      sym (set-get_or p.row c none) ∙ ap (set p.row c) (g ∙ ap some (sym (append-nil u))) in
      record {
        verdict = refl;
        leaves = λ e. subst (λ (x : Part). InPart x s) (λ j. record { row = q j; next = p.next; due = z j }) i;
      }
  adds-bring (v ∷ vs) s p i c u n l g z h =
      let st : Writing = s.state in
      let d : List ℕ = s.octets in
      let f : Form = element_form (form_in ss c) in
      let w : List ℕ = octets_for f v in
      let due : 1 ≤ st.left = omega (arith, i.left) in
      let m : p.next - 1 ≡ c = omega arith in
      let o : due_form st ≡ f =
      due-form st d d₀ (record { heads = hs; cols = cs; rows = rows; part = none }) p i due
      ∙ ap (λ (y : ℕ). element_form (form_in ss y)) m in
      let e : element_at st d v ≡ room_at st.written (length d₀) (length w) =
      rw (o, front_long i.front) at
      (add-verdict st d v (inside-taken st d d₀ hs cs rows p i) due (rw o h.1)) in
      answers-first (Add v) (adds vs) (room_at st.written (length d₀) (length w))
      (pieces_at (st.written + length w) (length d₀) (sizes f vs)) (InPart (filled p c (u ++ (w ++ joined f vs)))) s e
      (λ y.
      let a =
      (add_goes s d₀ hs cs rows p i c u v n g (omega arith) h.0 h.1
      (let-in st d d₀ _ (length w) i.front y)).1 in
      let t : Stand = after (Add v) s in
      let p' : Part = record { row = set p.row c (some (u ++ w)); next = p.next; due = p.due - 1 } in
      let bl : Blank (suc c) p.row = rw n at i.blank in
      let x = more-written p p' w s t i a (added-long (closed_octets hs cs rows) p.row c u w l bl g) in
      let ih =
      adds-bring vs t p' a c (u ++ w) n (rw (length-set p.row c (some (u ++ w))) l)
      (get_or-set_same p.row c (some (u ++ w)) none l) (omega arith) h.2 in
      let q : set (set p.row c (some (u ++ w))) c (some ((u ++ w) ++ joined f vs))
      ≡ set p.row c (some (u ++ (w ++ joined f vs))) =
      set_twice p.row c (some (u ++ w)) (some ((u ++ w) ++ joined f vs))
      ∙ ap (λ (y : List ℕ). set p.row c (some y)) (append_assoc u w (joined f vs)) in
      subst (λ (m : ℕ). Answers (adds vs) (pieces_at m (length d₀) (sizes f vs))
      (InPart (filled p c (u ++ (w ++ joined f vs)))) t) x
      (subst (λ (r : Row). Brings (length d₀) (adds vs) (sizes f vs)
      (InPart (record { row = r; next = p.next; due = 0 })) t) q ih))

  -- given to column c
  pub entry-brings : (s : Stand) (p : Part) → InPart p s → (c : ℕ) (v : List ℕ) → p.due ≡ 0 → p.next ≤ c
      → c < length p.row → (sp : Spelling (form_in ss c) v)
      → Brings (length d₀) (entry_calls (form_in ss c) v (get_or ts c 0) sp) (pieces_of (form_in ss c) v)
      (InPart (record { row = set p.row c (some v); next = c + 1; due = 0 })) s
  unfolding pieces_at
  entry-brings s p i c v z n l sp =
      let st : Writing = s.state in
      let d : List ℕ = s.octets in
      let tag : ℕ = get_or ts c 0 in
      let f : Form = form_in ss c in
      let u : List ℕ = octets_for f sp.first in
      let w : List ℕ = joined (element_form f) sp.rest in
      let b : c < length (open_columns hs cs k) = rw i.wide at l in
      let q : column_for st d tag ≡ At c =
      column-is st d d₀ hs cs rows p tag i (i.left ∙ z)
      ∙ seek-there (open_columns hs cs k) (open-sound st hs cs k i.begun) p.next c n b in
      let g : f ≡ form_of (tag % 65536) = open-form hs cs k c b in
      let e : give_at st d tag sp.first ≡ room_at st.written (length d₀) (length u) =
      rw (← g, front_long i.front) at (give-verdict st d tag c sp.first q (rw g at sp.formed)) in
      let end : Part = record { row = set p.row c (some v); next = c + 1; due = 0 } in
      rw (← pieces_are f v sp)
      (answers-first (Give tag sp.first) (adds sp.rest) (room_at st.written (length d₀) (length u))
      (pieces_at (st.written + length u) (length d₀) (sizes (element_form f) sp.rest)) (InPart end) s e
      (λ y.
      let a =
      (give-goes s d₀ hs cs rows p i c sp.first z n b sp.handed sp.formed
      (let-in st d d₀ _ (length u) i.front y)).1 in
      let t : Stand = after (Give tag sp.first) s in
      let p' : Part = giving p c u (left_of sp.first) in
      let x =
      more-written p p' u s t i a (given-long (closed_octets hs cs rows) p.row p.next c u l i.blank n) in
      let ih =
      adds-bring sp.rest t p' a c u (add-one c) (rw (length-set p.row c (some u)) l)
      (get_or-set_same p.row c (some u) none l) sp.due sp.elements in
      let r : set (set p.row c (some u)) c (some (u ++ w)) ≡ set p.row c (some v) =
      set_twice p.row c (some u) (some (u ++ w)) ∙ ap (λ (y : List ℕ). set p.row c (some y)) (sym sp.reads) in
      subst (λ (m : ℕ). Answers (adds sp.rest) (pieces_at m (length d₀) (sizes (element_form f) sp.rest))
      (InPart end) t) x
      (subst (λ (r : Row). Brings (length d₀) (adds sp.rest) (sizes (element_form f) sp.rest)
      (InPart (record { row = r; next = c + 1; due = 0 })) t) r ih)))
