-- The ways of the code that sets and clears a value, on plain values.
use Rattle.std.specs.Prelude.{Err, Ok, ℕ, ◌+◌, ◌-◌, ◌^◌, ◌≤◌, ◌<◌, ◌≡◌, Bool, true, false, not, get_or, take, drop}
use Rattle.std.proofs.Common.{arith, add-zero, ap, ◌∙◌, length-drop, get_or-drop, drop-drop, length-take-le}
use Rattle.std.proofs.Math.Nat.{sub-zero}
use Rattle.std.proofs.Math.Path.{refl, sym}
use Rattle.std.proofs.Math.Option.{Option}
use mathlib.Core.List.{List, []}
use Rattle.std.proofs.Math.ListN.{length}
use borrow.Author.Tests.{le-leb, lt-leb, lt-ltb, le-ltb, ltb-true, eq-eqb, ne_eqb}
use Rattle.octets.specs.Word.{le_of, word_of, length-le_of}
use Rattle.answers.specs.Numbers.{out_of_turn, breaks_rule, breaks_form, most_octets, most_records}
use Rattle.answers.specs.declared.Refusal.{Refusal}
use Rattle.answers.specs.Verdict.{Answer, verdict_of, same-value, no-value, refusal}
use Rattle.answers.specs.Verdict.{Verdict}
use Rattle.answers.specs.Verdict.{clear, Refused}
use Rattle.answers.specs.Verdict.{refused, ◌then◌, need, apart, unmet, then-assoc}
use Rattle.answers.specs.Walk.{Walk}
use Rattle.answers.specs.Walk.{Ends, Broken}
use Rattle.presence.specs.Presence.{room}
use Rattle.value.specs.Types.{form_at}
use Rattle.value.specs.Value.{value_of}
use Rattle.table.specs.Table.{Column}
use Rattle.table.specs.Columns.{tags_of, columns_in}
use Rattle.table.specs.Found.{Found}
use Rattle.table.specs.Found.{At, Nothing}
use Rattle.table.specs.Found.{is_found, column_of}
use Rattle.entry.specs.Record.{Slot, present_in, no_slot}
use Rattle.entry.specs.Slots.{key_bit, slot, slots_from, slots-many, slots_next}
use Rattle.book.specs.Book.{slots-long, heads_in, cols_in, records_place, count_in, judge, sealed-length}
use Rattle.book.specs.Judged.{judged_of}
use Rattle.book.specs.JudgeCases.{slots-head, slots-row}
use Rattle.book.specs.Good.{GoodIs, good-is, refused-by, good-keeps, tags-in, forms-in, bits_in, reach-tags}
use Rattle.book.specs.Good.{reach-forms, reach-bits}
use Rattle.book.specs.declared.Judgement.{Judgement}
use Rattle.lookup.specs.Places.{walk_behind, walk-behind, place_in}
use Rattle.lookup.specs.Cases.{walk-place}
use Rattle.lookup.specs.Look.{column_in}
use Rattle.lookup.specs.Laws.{column-below}
use Rattle.entry.specs.Values.{entry_octets}
use Rattle.lookup.specs.declared.Which.{Which}
use Rattle.lookup.specs.declared.Which.TheVariants.{Header, Number}
use Rattle.editing.specs.Put.{put, resealed, mark, spliced, spot_in, set_at, slots_for, set_in}
use Rattle.lookup.specs.Named.{start_for, has_record}
use Rattle.editing.specs.InPlace.{room_in, room-keeps, offered, put-length, word-taken}
use Rattle.editing.specs.Fits.{entry_behind, entry-fit}
use Rattle.editing.specs.Stands.{Stands, header-stands, number-stands}
use Rattle.editing.specs.declared.Cell.{Cell}
use Rattle.correcting.specs.Correct.{book_at, room_for, fits, losing, column_for, slot_for, entry_at}
use Rattle.correcting.specs.Correct.{set_at as set_verdict, set_book, set_answer, set_octets}
use Rattle.correcting.specs.Find.{cell_at, cell_free, Lies, cell_lies}
use Rattle.correcting.specs.declared.Plan.{Plan}
use Rattle.editing.specs.Entry.{mark-length}

-- ---- what is decided before anything is written

abbrev pub on_plan : Verdict → Answer Plan → Answer Plan
on_plan (Ok _) p = p
on_plan (Refused r) p = Err r

-- ---- judge_entry

unfoldable pub entry_of : Slot → Option (List ℕ) → Verdict
entry_of s e =
    need (fits e s) breaks_form 0
    then need (not (losing e s)) breaks_rule 0

module _ (form flags : ℕ) (v : List ℕ) (t : Bool) where
  module _ (z : t ≡ true) (r : Walk) (e : r ≡ value_of (form_at form) v) where
    pub entry-broken : (x : Verdict) (q : ℕ) → r ≡ Broken q → x ≡ refused breaks_form 0 → x ≡ entry_of (slot form flags) (offered t v)
    unfolding entry_of
    entry-broken x q y p = rw (z, ← e, y) p

    pub entry-longer : (x : Verdict) (w : ℕ) → r ≡ Ends w → (w ≡ length v → ⊥) → x ≡ refused breaks_form 0 → x ≡ entry_of (slot form flags) (offered t v)
    unfolding entry_of
    entry-longer x w y h p = rw (z, ← e, y, ne_eqb w (length v) h) p

    pub entry-good : (w : ℕ) → r ≡ Ends w → w ≡ length v → clear ≡ entry_of (slot form flags) (offered t v)
    unfolding entry_of
    entry-good w y h = rw (z, ← e, y, eq-eqb w (length v) h)

  module _ (z : t ≡ false) (k : Bool) (e : k ≡ key_bit flags) where
    pub entry_key : (x : Verdict) → k ≡ true → x ≡ refused breaks_rule 0 → x ≡ entry_of (slot form flags) (offered t v)
    unfolding entry_of
    entry_key x y p = rw (z, ← e, y) p

    pub entry_free : k ≡ false → clear ≡ entry_of (slot form flags) (offered t v)
    unfolding entry_of
    entry_free y = rw (z, ← e, y)

pub ruleset entries = (entry-broken, entry-longer, entry-good, entry_key, entry_free)

-- ---- how long the corrected book is

pub spliced-length : (at n i v o size : ℕ) (e : Option (List ℕ)) (p xs : List ℕ) → length p ≡ room n → at + 4 + room n ≤ v → v + o ≤ length xs
    → length (spliced at n i v o size e p xs) ≡ length xs - o + length (entry_octets e)
unfolding spliced
spliced-length at n i v o size e p xs h k l =
    let ys : List ℕ = put v (v + o) (entry_octets e) xs in
    let zs : List ℕ = put (at + 4) (at + 4 + room n) (mark e p i) ys in
    let m = mark-length e p i in
    let f : length (le_of 4 size) ≡ 4 = length-le_of 4 size in
    let a : length ys ≡ v + length (entry_octets e) + (length xs - (v + o)) = put-length v (v + o) (entry_octets e) xs (omega arith) in
    let b : length zs ≡ at + 4 + length (mark e p i) + (length ys - (at + 4 + room n)) = put-length (at + 4) (at + 4 + room n) (mark e p i) ys (omega arith) in
    let c : length (put at (at + 4) (le_of 4 size) zs) ≡ at + length (le_of 4 size) + (length zs - (at + 4)) = put-length at (at + 4) (le_of 4 size) zs (omega arith) in
    c ∙ sums (length zs) (length ys) (length xs) (length (entry_octets e)) (length (mark e p i)) (length (le_of 4 size)) f (m ∙ h) a b l
  where
    sums : (z y x e m f : ℕ) → f ≡ 4 → m ≡ room n → y ≡ v + e + (x - (v + o)) → z ≡ at + 4 + m + (y - (at + 4 + room n)) → v + o ≤ x → at + f + (z - (at + 4)) ≡ x - o + e
    sums z y x e m f p q r s u = omega arith

module _ (ss : List Slot) (c at : ℕ) (b : List ℕ) (st : Stands (length ss) at b) where
  present-length : length (present_in (length ss) (drop at b)) ≡ room (length ss)
  present-length =
      let h = st.head in
      let k = st.whole in
      let d : length (drop 4 (drop at b)) ≡ length b - (at + 4) = ap length (drop-drop 4 at b) ∙ length-drop (at + 4) b in
      length-take-le (room (length ss)) (drop 4 (drop at b)) (omega arith)

  pub set-length : (e : Option (List ℕ)) → length (set_at ss c at e b) ≡ length b - (cell_at ss c at b).long + length (entry_octets e)
  unfolding set_at cell_at
  set-length e =
      let l = cell_lies ss c at b st in
      let k = st.whole in
      let h : at + 4 + room (length ss) ≤ (spot_in ss c at (drop at b)).start = start_of l in
      let i : (spot_in ss c at (drop at b)).start + (spot_in ss c at (drop at b)).long ≤ at + word_of 4 (drop at b) = end_of l in
      spliced-length at (length ss) c (spot_in ss c at (drop at b)).start (spot_in ss c at (drop at b)).long _ e (present_in (length ss) (drop at b)) b present-length h (omega arith)
    where
      start_of : Lies (cell_at ss c at b) (length ss) at b → at + 4 + room (length ss) ≤ (cell_at ss c at b).start
      start_of l = l.behind

      end_of : Lies (cell_at ss c at b) (length ss) at b → (cell_at ss c at b).start + (cell_at ss c at b).long ≤ at + word_of 4 (drop at b)
      end_of l = l.before

  -- as the verdict counts it
  pub set-size : (e : Option (List ℕ)) (v : List ℕ) → v ≡ entry_octets e → 12 + (length (set_at ss c at e b) - 12) ≡ length b - (cell_at ss c at b).long + length v
  set-size e v w =
      let l = cell_lies ss c at b st in
      let x = l.behind in
      let y = l.before in
      let k = st.whole in
      let o = st.behind in
      let s = set-length e in
      let n : length v ≡ length (entry_octets e) = ap length w in
      rw (s, n) (tail (length b - (cell_at ss c at b).long) (length (entry_octets e)) (omega arith))
    where
      tail : (x y : ℕ) → 12 ≤ x → 12 + (x + y - 12) ≡ x + y
      tail x y h = omega arith

-- ---- plan_column

unfoldable pub entry_in : List Slot → ℕ → ℕ → Option (List ℕ) → List ℕ → ℕ → Verdict
entry_in ss c at e b room = entry_of (get_or ss c no_slot) e then room_in (12 + (length (set_at ss c at e b) - 12)) room

unfoldable pub plan_column : List Slot → ℕ → ℕ → Option (List ℕ) → List ℕ → ℕ → ℕ → Answer Plan
plan_column ss c at e b room count = on_plan (entry_in ss c at e b room) (Ok (record { cell = cell_at ss c at b; count = count }))

slot_at : (forms flags : List ℕ) (c : ℕ) → c < length forms → get_or (slots_from forms flags) c no_slot ≡ slot (get_or forms c 0) (get_or flags c 0)
slot_at forms flags c h =
    ap (λ (n : ℕ). get_or (slots_from forms flags) n no_slot) (sym (add-zero c)) ∙ sym (get_or-drop c (slots_from forms flags) 0 no_slot) ∙ ap (λ (l : List Slot). get_or l 0 no_slot) (slots_next forms flags c h)

module _ (forms flags b v : List ℕ) (c at room count : ℕ) (t : Bool) (h : c < length forms) (st : Stands (length forms) at b) (w : v ≡ entry_octets (offered t v))
    (g : ℕ) (ge : g ≡ get_or flags c 0) (j : Verdict) (je : j ≡ entry_of (slot (get_or forms c 0) g) (offered t v)) where
  abbrev ss : List Slot
  ss = slots_from forms flags

  entry-was : entry_of (get_or (slots_from forms flags) c no_slot) (offered t v) ≡ j
  entry-was = rw (slot_at forms flags c h, ← ge) (sym je)

  stands : Stands (length (slots_from forms flags)) at b
  stands = rw (slots-many forms flags) st

  pub column-refused : (r : Refusal) → j ≡ Refused r → Err r ≡ plan_column (slots_from forms flags) c at (offered t v) b room count
  unfolding plan_column entry_in
  column-refused r z = rw (entry-was, z)

  module _ (z : j ≡ clear) where
    pub column-long : (p : Answer Plan) → most_octets < length v → p ≡ Err (refusal breaks_rule 0) → p ≡ plan_column (slots_from forms flags) c at (offered t v) b room count
    unfolding plan_column entry_in room_in
    column-long p l q =
        let s = set-size ss c at b stands (offered t v) v w in
        let m = lt-leb (length b - (cell_at ss c at b).long + length v) most_octets (omega arith) in
        rw (entry-was, z, s, m) q

    module _ (k : Cell) (ke : k ≡ cell_at (slots_from forms []) c at b) (x : Verdict) (xe : x ≡ room_in (length b - k.long + length v) room) where
      cell-was : cell_at (slots_from forms flags) c at b ≡ k
      cell-was = cell_free forms flags c at b ∙ sym ke

      room_was : room_in (12 + (length (set_at (slots_from forms flags) c at (offered t v) b) - 12)) room ≡ x
      room_was = ap (λ (n : ℕ). room_in n room) (set-size ss c at b stands (offered t v) v w ∙ ap (λ (k : Cell). length b - k.long + length v) cell-was) ∙ sym xe

      pub column-room : (r : Refusal) → x ≡ Refused r → Err r ≡ plan_column (slots_from forms flags) c at (offered t v) b room count
      unfolding plan_column entry_in
      column-room r y = rw (entry-was, z, room_was, y)

      pub column-done : x ≡ clear
          → Ok (record { cell = k; count = count }) ≡ plan_column (slots_from forms flags) c at (offered t v) b room count
      unfolding plan_column entry_in
      column-done y = rw (entry-was, z, room_was, y, cell-was)

-- what find_cell found stands in the book
pub cell_in_lem : (forms b : List ℕ) (c at : ℕ) (k : Cell) → Stands (length forms) at b → k ≡ cell_at (slots_from forms []) c at b → k.long ≤ length b
cell_in_lem forms b c at k st e =
    let l = cell_lies (slots_from forms []) c at b (rw (slots-many forms []) st) in
    let h = st.whole in
    let y = l.before in
    let x = l.behind in
    rw e (omega arith)

-- ---- plan_in

unfoldable pub plan_in : List ℕ → List Slot → ℕ → ℕ → Option (List ℕ) → List ℕ → ℕ → ℕ → Answer Plan
plan_in tags ss at t e b room count = on_plan (need (is_found (column_in t tags)) out_of_turn 0) (plan_column ss (column_of (column_in t tags)) at e b room count)

module _ (tags forms flags b v : List ℕ) (n keys at tag room count : ℕ) (t : Bool) (ts : List ℕ) (te : ts ≡ take n tags)
    (f : Found) (fe : f ≡ column_in tag ts) where
  found-is : column_in tag (take n tags) ≡ f
  found-is = rw te at (sym fe)

  pub in-none : (p : Answer Plan) → f ≡ Nothing → p ≡ Err (refusal out_of_turn 0)
      → p ≡ plan_in (take n tags) (slots_from (take n forms) (take keys flags)) at tag (offered t v) b room count
  unfolding plan_in
  in-none p z q = rw (found-is, z) q

  pub in-column : (c : ℕ) (p : Answer Plan) (fs : List ℕ) → f ≡ At c → fs ≡ take n forms
      → p ≡ plan_column (slots_from fs (take (keys - 0) flags)) c at (offered t v) b room count
      → p ≡ plan_in (take n tags) (slots_from (take n forms) (take keys flags)) at tag (offered t v) b room count
  unfolding plan_in
  in-column c p fs z y q = rw (found-is, z) (rw (y, sub-zero keys) at q)

pub column-there : (tags forms : List ℕ) (n tag c : ℕ) (ts fs : List ℕ) → ts ≡ take n tags → fs ≡ take n forms
    → (f : Found) → f ≡ column_in tag ts → f ≡ At c → n ≤ length tags → n ≤ length forms → c < length fs
column-there tags forms n tag c ts fs te fe f e z h k =
    let l = column-below tag ts c (sym e ∙ z) in
    let a : length ts ≡ n = ap length te ∙ length-take-le n tags h in
    let d : length fs ≡ n = ap length fe ∙ length-take-le n forms k in
    omega arith

pub stands-there : (forms b : List ℕ) (n at : ℕ) (fs : List ℕ) → fs ≡ take n forms → n ≤ length forms → Stands n at b
    → Stands (length fs) at b
stands-there forms b n at fs e k st = rw (e, length-take-le n forms k) st

-- ---- plan

abbrev pub tags_for : List ℕ → Which → List ℕ
tags_for b Header = tags_of (heads_in (drop 12 b))
tags_for b (Number k) = tags_of (cols_in (drop 12 b))

unfoldable pub plan_of : List ℕ → ℕ → Which → ℕ → Option (List ℕ) → Answer Plan
plan_of b room which t e =
    on_plan (judge b then need (has_record b which) out_of_turn 0) (plan_in (tags_for b which) (slots_for b which) (start_for b which) t e b room (count_in b))

module _ (b v : List ℕ) (room tag : ℕ) (t : Bool) (u : Answer Judgement) (je : u ≡ judged_of b) where
  pub plan-refused : (which : Which) (r : Refusal) → u ≡ Err r → Err r ≡ plan_of b room which tag (offered t v)
  unfolding plan_of
  plan-refused which r z = rw (refused-by b u je r z)

  module _ (j : Judgement) (q : u ≡ Ok j) where
    good : GoodIs b j
    good = good-is b u j je q

    pub plan-header : (which : Which) (p : Answer Plan) → which ≡ Header
        → p ≡ plan_in (take j.header.count j.header.tags) (slots_from (take j.header.count j.header.forms) (take 0 j.header.flags)) j.head tag (offered t v) b room j.count
        → p ≡ plan_of b room which tag (offered t v)
    unfolding plan_of
    plan-header which p w z =
        let hs : List Column = heads_in (drop 12 b) in
        rw (w, good.clears) (rw (good.heads, good.header, good.count, tags-in hs, forms-in hs, slots-head hs) at z)

    pub plan-none : (which : Which) (k : ℕ) (p : Answer Plan) → which ≡ Number k → j.count ≤ k
        → p ≡ Err (refusal out_of_turn 0) → p ≡ plan_of b room which tag (offered t v)
    unfolding plan_of
    plan-none which k p w g z =
        let n : count_in b ≡ j.count = sym good.count in
        rw (w, good.clears, n, le-ltb k j.count g) z

    pub number-walks : (j.first < 2 ^ 32) × (j.count ≤ most_records)
    number-walks =
        let k = good-keeps b good.clears in
        let g = good.first in
        let n = good.count in
        (omega arith, omega arith)

    pub plan-number : (which : Which) (k at : ℕ) (p : Answer Plan) → which ≡ Number k → k < j.count → at ≡ walk_behind k j.first b
        → p ≡ plan_in (take j.address.count j.address.tags) (slots_from (take j.address.count j.address.forms) (take j.address.count j.address.flags)) at tag (offered t v) b room j.count
        → p ≡ plan_of b room which tag (offered t v)
    unfolding plan_of
    plan-number which k at p w g y z =
        let cs : List Column = cols_in (drop 12 b) in
        let n : count_in b ≡ j.count = sym good.count in
        let w₂ = number-walks in
        let a : at ≡ place_in b k = y ∙ walk-behind k j.first b w₂.0 (omega (arith, w₂.1)) ∙ walk-place b k j.first good.first in
        rw (w, good.clears, n, lt-ltb k j.count g) (rw (good.cols, a, tags-in cs, forms-in cs, bits_in cs, slots-row cs) at z)

    columns-many : (cs : List Column) → (columns_in cs).count ≡ length cs
    unfolding columns_in
    columns-many cs = refl

    pub header-reach : (j.header.count ≤ length j.header.tags) × (j.header.count ≤ length j.header.forms) × (0 ≤ length j.header.flags) × Stands j.header.count j.head b × (length b ≤ most_octets)
    header-reach =
        let hs : List Column = heads_in (drop 12 b) in
        let s : Stands (length hs) (records_place (drop 12 b)) b = rw (slots-long false hs) at (header-stands b good.clears) in
        (rw good.heads (reach-tags hs), rw good.heads (reach-forms hs), omega arith, rw (good.heads, columns-many hs, good.header) s, (good-keeps b good.clears).0)

    pub number-reach : (k at : ℕ) → k < j.count → at ≡ walk_behind k j.first b
        → (j.address.count ≤ length j.address.tags) × (j.address.count ≤ length j.address.forms) × (j.address.count ≤ length j.address.flags) × Stands j.address.count at b × (length b ≤ most_octets)
    number-reach k at g y =
        let cs : List Column = cols_in (drop 12 b) in
        let w₂ = number-walks in
        let a : at ≡ place_in b k = y ∙ walk-behind k j.first b w₂.0 (omega (arith, w₂.1)) ∙ walk-place b k j.first good.first in
        let n = good.count in
        let s : Stands (length cs) (place_in b k) b =
        rw (slots-long true cs) at (number-stands b good.clears k (omega arith)) in (
          rw good.cols (reach-tags cs),
          rw good.cols (reach-forms cs),
          rw good.cols (reach-bits cs),
          rw (good.cols, columns-many cs, a) s,
          (good-keeps b good.clears).0,
        )

-- ---- the verdict of a plan is that of the call

four : (u v w x : Verdict) (p : Answer Plan) → verdict_of p ≡ clear
    → verdict_of (on_plan (u then v) (on_plan w (on_plan x p))) ≡ (u then (v then (w then x)))
four (Refused r) v w x p e = refl
four (Ok _) (Refused r) w x p e = refl
four (Ok _) (Ok _) (Refused r) x p e = refl
four (Ok _) (Ok _) (Ok _) (Refused r) p e = refl
four (Ok _) (Ok _) (Ok _) (Ok _) p e = e

abbrev column_here : List ℕ → Which → ℕ → ℕ
column_here b which t = column_of (column_in t (tags_for b which))

plan-verdict : (b : List ℕ) (room : ℕ) (which : Which) (t : ℕ) (e : Option (List ℕ)) → verdict_of (plan_of b room which t e)
    ≡ (judge b then (need (has_record b which) out_of_turn 0 then (need (is_found (column_in t (tags_for b which))) out_of_turn 0 then entry_in (slots_for b which) (column_here b which t) (start_for b which) e b room)))
unfolding plan_of plan_in plan_column
plan-verdict b room which t e = four (judge b) (need (has_record b which) out_of_turn 0) (need (is_found (column_in t (tags_for b which))) out_of_turn 0)
    (entry_in (slots_for b which) (column_here b which t) (start_for b which) e b room) (Ok (record { cell = cell_at (slots_for b which) (column_here b which t) (start_for b which) b; count = count_in b })) refl

column-for : (b : List ℕ) (which : Which) (t : ℕ) → column_for b which t ≡ column_in t (tags_for b which)
column-for b Header t = refl
column-for b (Number k) t = refl

set_long : (b : List ℕ) (which : Which) (c : ℕ) (e : Option (List ℕ)) → length (set_in b which c e) ≡ 12 + (length (set_at (slots_for b which) c (start_for b which) e b) - 12)
unfolding set_in resealed
set_long b which c e = sealed-length (count_in b) (drop 12 (set_at (slots_for b which) c (start_for b which) e b)) ∙ ap (λ (n : ℕ). 12 + n) (length-drop 12 (set_at (slots_for b which) c (start_for b which) e b))

entry-at : (d b : List ℕ) (which : Which) (c : ℕ) (e : Option (List ℕ)) → entry_at d b which c e ≡ entry_in (slots_for b which) c (start_for b which) e b (length d)
unfolding entry_at entry_in entry_of room_for room_in
entry-at d b which c e =
    rw (set_long b which c e) (then-assoc (need (fits e (slot_for b which c)) breaks_form 0) (need (not (losing e (slot_for b which c))) breaks_rule 0) _)

set-verdict : (d : List ℕ) (len : ℕ) (which : Which) (t : ℕ) (e : Option (List ℕ)) → len ≤ length d → set_verdict d len which t e ≡ verdict_of (plan_of (take len d) (length d) which t e)
unfolding set_verdict book_at
set-verdict d len which t e h =
    rw (le-leb len (length d) h, column-for (take len d) which t, entry-at d (take len d) which (column_here (take len d) which t) e) (sym (plan-verdict (take len d) (length d) which t e))

-- ---- what a plan that is clear has found

on-clear : (v : Verdict) (p q : Answer Plan) (x : Plan) → q ≡ on_plan v p → q ≡ Ok x → (v ≡ clear) × (q ≡ p)
on-clear (Ok _) p q x e z = (refl, e)
on-clear (Refused r) p q x e z = no-value (sym e ∙ z)

stands-for : (b : List ℕ) (which : Which) → judge b ≡ clear → has_record b which ≡ true → Stands (length (slots_for b which)) (start_for b which) b
stands-for b Header e h = header-stands b e
stands-for b (Number k) e h = number-stands b e k (ltb-true k (count_in b) h)

-- a plan that is clear: the record stands, the new book fits, and the plan names the entry and the count
record Finding (b : List ℕ) (room : ℕ) (which : Which) (t : ℕ) (e : Option (List ℕ)) (q : Plan) : Type 0 where
  pub stands : Stands (length (slots_for b which)) (start_for b which) b
  pub fits : room_in (12 + (length (set_at (slots_for b which) (column_here b which t) (start_for b which) e b) - 12)) room ≡ clear
  pub cell : q.cell ≡ cell_at (slots_for b which) (column_here b which t) (start_for b which) b
  pub count : q.count ≡ count_in b

plan-found : (b : List ℕ) (room : ℕ) (which : Which) (t : ℕ) (e : Option (List ℕ)) (u : Answer Plan) (q : Plan)
    → u ≡ plan_of b room which t e → u ≡ Ok q → Finding b room which t e q
unfolding plan_of plan_in plan_column entry_in
plan-found b room which t e u q p z =
    let c₁ = on-clear (judge b then need (has_record b which) out_of_turn 0) _ u q p z in
    let c₂ = on-clear (need (is_found (column_in t (tags_for b which))) out_of_turn 0) _ u q c₁.1 z in
    let c₃ = on-clear _ _ u q c₂.1 z in
    let same = same-value (sym z ∙ c₃.1) in
    let a = apart (judge b) _ c₁.0 in
    let f = apart (entry_of (get_or (slots_for b which) (column_here b which t) no_slot) e) _ c₃.0 in
    record {
      stands = stands-for b which a.0 (unmet _ out_of_turn 0 a.1);
      fits = f.1;
      cell = ap (λ (x : Plan). x.cell) same;
      count = ap (λ (x : Plan). x.count) same;
    }

-- ---- correct

module _ (d v : List ℕ) (len tag : ℕ) (which : Which) (t : Bool) where
  pub set-short : length d < len → (r : Refusal) → r ≡ record { number = out_of_turn; place = 0 }
      → Err r ≡ set_answer d len which tag (offered t v)
  unfolding set_answer set_verdict book_at
  set-short h r q = rw (lt-leb len (length d) h, q)

  pub set-kept : length d < len → d ≡ set_octets d len which tag (offered t v)
  unfolding set_octets set_verdict book_at
  set-kept h = rw (lt-leb len (length d) h)

  module _ (h : len ≤ length d) (u : Answer Plan)
      (pe : u ≡ plan_of (take (len - 0) d) (length d) which tag (offered t v)) where
    plan-is : u ≡ plan_of (take len d) (length d) which tag (offered t v)
    plan-is = rw (sub-zero len) at pe

    verdict-is : set_verdict d len which tag (offered t v) ≡ verdict_of u
    verdict-is = set-verdict d len which tag (offered t v) h ∙ ap (λ (x : Answer Plan). verdict_of x) (sym plan-is)

    pub set-refused : (r : Refusal) → u ≡ Err r → Err r ≡ set_answer d len which tag (offered t v)
    unfolding set_answer
    set-refused r z = rw (verdict-is, z)

    pub set-left : (r : Refusal) → u ≡ Err r → d ≡ set_octets d len which tag (offered t v)
    unfolding set_octets
    set-left r z = rw (verdict-is, z)

    module _ (p : Plan) (z : u ≡ Ok p) (w : v ≡ entry_octets (offered t v)) where
      abbrev b : List ℕ
      b = take len d

      found : Finding (take len d) (length d) which tag (offered t v) p
      found = plan-found b (length d) which tag (offered t v) u p plan-is z

      book-long : length (take len d) ≡ len
      book-long = length-take-le len d h

      size_is : 12 + (length (set_at (slots_for (take len d) which) (column_here (take len d) which tag) (start_for (take len d) which) (offered t v) (take len d)) - 12) ≡ len - p.cell.long + length v
      size_is =
          rw found.cell (set-size (slots_for b which) (column_here b which tag) (start_for b which) b found.stands (offered t v) v w ∙ ap (λ (n : ℕ). n - (cell_at (slots_for b which) (column_here b which tag) (start_for b which) b).long + length v) book-long)

      pub set_keeps : (12 ≤ p.cell.place) × (p.cell.place + 4 + room p.cell.columns ≤ p.cell.start) × (p.cell.start + p.cell.long ≤ len) × (len ≤ length d)
          × (len - p.cell.long + length v ≤ length d) × (p.cell.long ≤ word_of 4 (drop p.cell.place d)) × (v ≡ entry_octets (offered t v))
      set_keeps =
          let n : len - p.cell.long + length v ≤ length d = rw size_is at (room-keeps _ (length d) found.fits).1 in
          keeps p.cell found.cell n
        where
          keeps : (k : Cell) → k ≡ cell_at (slots_for (take len d) which) (column_here (take len d) which tag) (start_for (take len d) which) (take len d) → len - k.long + length v ≤ length d
              → (12 ≤ k.place) × (k.place + 4 + room k.columns ≤ k.start) × (k.start + k.long ≤ len) × (len ≤ length d)
              × (len - k.long + length v ≤ length d) × (k.long ≤ word_of 4 (drop k.place d)) × (v ≡ entry_octets (offered t v))
          keeps k ke n =
              let st = found.stands in
              let l = rw (← ke) at (cell_lies (slots_for b which) (column_here b which tag) (start_for b which) b st) in
              let o = st.behind in
              let g = st.head in
              let y = st.whole in
              let m = book-long in
              let x = l.behind in
              let u = l.before in
              let f : word_of 4 (drop (start_for b which) d) ≡ word_of 4 (drop (start_for b which) b) = word-taken d len (start_for b which) (omega arith) h in
              rw (l.place, l.columns) (o, x, omega arith, h, n, rw f (omega arith), w)

      pub set-done : Ok (len - p.cell.long + length v) ≡ set_answer d len which tag (offered t v)
      unfolding set_answer set_book
      set-done = rw (verdict-is, z, column-for (take len d) which tag, set_long (take len d) which (column_here (take len d) which tag) (offered t v), size_is)

      pub set-put : (x : List ℕ) → x ≡ entry_behind d len p.cell t v p.count → x ≡ set_octets d len which tag (offered t v)
      unfolding set_octets set_book set_in set_at cell_at
      set-put x q = rw (verdict-is, z, column-for (take len d) which tag) (rw (found.cell, found.count) at (entry-fit d v len p.cell t p.count x set_keeps q))
