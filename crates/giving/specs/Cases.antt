-- The ways of the calls, on plain values: what a clear verdict stands on, what it makes of state and octets, and a refusal.
use Rattle.std.specs.Prelude.{Err, Ok, ℕ, zero, suc, ◌+◌, ◌-◌, ◌*◌, ◌%◌, ◌≤◌, ◌<◌, ◌≡◌, Bool, true, false, cond, not, List, eqb, length, take, drop}
use Rattle.std.proofs.Common.{arith, sym, ap, ◌∙◌, append-nil, length-drop, drop_of_length-le}
use Rattle.std.proofs.Math.Path.{refl}
use borrow.Author.Tests.{eq-eqb, ne_eqb, eqb-true}
use borrow.Rule.Slice.PartMut.{put_mid}
use Rattle.octets.specs.Cases.{taken}
use Rattle.octets.specs.Octets.{rest_of}
use Rattle.octets.specs.Splice.{stored}
use Rattle.octets.specs.Word.{word_of}
use Rattle.answers.specs.Numbers.{out_of_turn, breaks_form, most_octets, most_columns}
use Rattle.answers.specs.declared.Refusal.{Refusal}
use Rattle.answers.specs.Verdict.{Verdict}
use Rattle.answers.specs.Verdict.{clear, Refused}
use Rattle.answers.specs.Verdict.{refused, need, apart, unmet, kept}
use Rattle.presence.specs.Presence.{set_bit}
use Rattle.value.specs.Types.{number_of, form_at, form_of}
use Rattle.table.specs.Found.{Found}
use Rattle.table.specs.Found.{At, Nothing}
use Rattle.writing.specs.declared.Writing.{Writing}
use Rattle.writing.specs.declared.Outcome.{Outcome}
use Rattle.writing.specs.State.{settled, done_with, columns_of, within_of, room_at, Roomy, room_in_lem, Within, within_in}
use Rattle.writing.specs.Column.{row_from, column_for}
use Rattle.table.specs.Found.{is_found, column_of}
use Rattle.giving.specs.Give.{Given, Octets, formed, octets_for, left_of, form_left, given_to, marked, give_at}
use Rattle.giving.specs.Give.{give_outcome, give_octets, element_form, due_form, element_at, added_to, element_outcome}
use Rattle.giving.specs.Give.{element_octets}
use Rattle.giving.specs.Size.{size_of, sized_at, placed_at, added_at, sized, octets-long}

-- ---- what a clear verdict stands on

sized-in : (w n k : ℕ) → sized_at w n k ≡ clear → Roomy w n k
unfolding sized_at
sized-in w n k e = room_in_lem w n k (apart (need (not (eqb k 0)) breaks_form 0) _ e).1

row-in : (d : List ℕ) (base t m i j : ℕ) → row_from d base t m i ≡ At j → (i ≤ j) × (j < i + m)
unfolding row_from
row-in d base t zero i j e = absurd (let z : ◌≡◌ {A = ℕ} 0 1 = cc in omega arith)
row-in d base t (suc m) i j e =
    let more = row-in d base t m (i + 1) j in
    taken (eqb (word_of 4 (drop (base + 8 * i) d)) t) _ _ _ e
    (λ u q. let z : i ≡ j = cc in (omega arith, omega arith))
    (λ u q. let r = more q in (omega (arith, r.0), omega (arith, r.1)))

-- the column that a value goes to
pub record Turn (st : Writing) (n column : ℕ) : Type 0 where
  pub within : Within st n
  pub whole : st.left ≡ 0
  pub later : st.next ≤ column
  pub there : column < columns_of st st.opened

no-column : {X : Type 0} {j : ℕ} → Nothing ≡ At j → X
no-column e = absurd (let z : ◌≡◌ {A = ℕ} 0 1 = cc in omega arith)

pub turn_in : (st : Writing) (d : List ℕ) (t j : ℕ) → column_for st d t ≡ At j → Turn st (length d) j
unfolding column_for
turn_in st d t j e =
    taken (within_of st (length d)) _ _ _ e
    (λ u q. taken (eqb st.left 0) _ _ _ q
    (λ z r. let b = table (eqb st.opened 1) r in
    record { within = within_in st (length d) u; whole = eqb-true _ _ z; later = b.0; there = b.1 })
    (λ z r. no-column r))
    (λ u q. no-column q)
  where
    table : (b : Bool) → cond b (row_from d 20 t (st.header - st.next) st.next) (row_from d (24 + 8 * st.header) t (st.address - st.next) st.next) ≡ At j
        → (st.next ≤ j) × (j < cond b st.header st.address)
    table true r = let w = row-in d 20 t _ _ j r in (w.0, omega (arith, w.0, w.1))
    table false r = let w = row-in d (24 + 8 * st.header) t _ _ j r in (w.0, omega (arith, w.0, w.1))

pub record Gives (st : Writing) (d : List ℕ) (column k : ℕ) : Type 0 where
  pub limit : st.written + k ≤ most_octets
  pub few : column < most_columns
  pub started : st.start + 4 ≤ length d

pub gives : (st : Writing) (d : List ℕ) (tag column k : ℕ) (p : Found) (v : Verdict)
    → p ≡ column_for st d tag → p ≡ At column → v ≡ sized_at st.written (length d) k → v ≡ clear → Gives st d column k
gives st d tag column k p v e z q c =
    let t = turn_in st d tag column (sym e ∙ z) in
    let r = sized-in st.written (length d) k (sym q ∙ c) in
    let w = t.within in
    record { limit = r.limit; few = omega (arith, t.there, w.columns); started = omega (arith, w.framed, w.sane.in_buffer) }

pub adds : (w n k : ℕ) (v : Verdict) → v ≡ sized_at w n k → v ≡ clear → w + k ≤ most_octets
adds w n k v q c = (sized-in w n k (sym q ∙ c)).limit

-- ---- judge_size and mark

module _ (w n k : ℕ) (v : Verdict) where
  pub size_none : k ≡ 0 → v ≡ refused breaks_form 0 → v ≡ sized_at w n k
  unfolding sized_at
  size_none e q = rw (eq-eqb k 0 e) q

  pub size-some : (k ≡ 0 → ⊥) → v ≡ room_at w n k → v ≡ sized_at w n k
  unfolding sized_at
  size-some e q = rw (ne_eqb k 0 e) q

pub ruleset judges = (size_none, size-some)

pub mark-part : (d m : List ℕ) (i column : ℕ) → i ≤ length d → m ≡ set_bit (take (length d - i) (drop i d)) column → put_mid i (length d - i) d m ≡ marked d i column
unfolding marked
mark-part d m i column h e =
    let n : length (drop i d) ≤ length d - i = simp length-drop (omega arith) in
    rw (e, rest_of d i, drop_of_length-le (drop i d) {i = length d - i} n, append-nil)

-- ---- give

module _ (st : Writing) (d : List ℕ) (tag k : ℕ) (p : Found) (e : p ≡ column_for st d tag) where
  pub give-none : (left form : ℕ) (u : Verdict) (r : Outcome) → p ≡ Nothing → u ≡ refused out_of_turn 0 → r ≡ settled u st st
      → r ≡ settled (placed_at st d tag k) st (given_to st (column_of (column_for st d tag)) k left form)
  unfolding placed_at
  give-none left form u r z w q = rw (← e, z) (rw w at q)

  pub keep-none : p ≡ Nothing → d ≡ kept (placed_at st d tag k) d (marked d (st.start + 4) (column_of (column_for st d tag)))
  unfolding placed_at
  keep-none z = rw (← e, z)

  module _ (column : ℕ) (z : p ≡ At column) (v : Verdict) (w : v ≡ sized_at st.written (length d) k) where
    pub give-refused : (left form : ℕ) (x : Refusal) (r : Outcome) → v ≡ Refused x → r ≡ settled v st st
        → r ≡ settled (placed_at st d tag k) st (given_to st (column_of (column_for st d tag)) k left form)
    unfolding placed_at
    give-refused left form x r c q = rw (← e, z, ← w, c) (rw c at q)

    pub keep-refused : (x : Refusal) → v ≡ Refused x → d ≡ kept (placed_at st d tag k) d (marked d (st.start + 4) (column_of (column_for st d tag)))
    unfolding placed_at
    keep-refused x c = rw (← e, z, ← w, c)

    pub give-clear : (left form : ℕ) (b : Writing) (r : Outcome) → v ≡ clear → b ≡ given_to st column k left form → r ≡ settled v st b
        → r ≡ settled (placed_at st d tag k) st (given_to st (column_of (column_for st d tag)) k left form)
    unfolding placed_at
    give-clear left form b r c g q = rw (← e, z, ← w, c) (rw (c, g) at q)

    pub keep-clear : (m : List ℕ) → v ≡ clear → m ≡ marked d (st.start + 4) column → m ≡ kept (placed_at st d tag k) d (marked d (st.start + 4) (column_of (column_for st d tag)))
    unfolding placed_at
    keep-clear m c q = rw (← e, z, ← w, c) q

pub ruleset placing = (give-none, give-refused)

pub ruleset keeping = (keep-none, keep-refused)

-- ---- what an outcome tells of its verdict

next-same : (v : Verdict) (st a b : Writing) → (v ≡ clear → a ≡ b) → settled v st a ≡ settled v st b
next-same (Ok _) st a b h = ap done_with (h refl)
next-same (Refused r) st a b h = refl

was-clear : (v : Verdict) (st a : Writing) (o : Outcome) (w : ℕ) → o ≡ settled v st a → o.answer ≡ Ok w → v ≡ clear
was-clear (Ok _) st a o w e q = refl
was-clear (Refused r) st a o w e q =
    let p : o.answer ≡ Err r = ap (λ (x : Outcome). x.answer) e in
    absurd (let z : ◌≡◌ {A = ℕ} 0 1 = cc in omega arith)

kept_same : (v : Verdict) (st a : Writing) (o : Outcome) (r : Refusal) (d x y : List ℕ) → o ≡ settled v st a → o.answer ≡ Err r → kept v d x ≡ kept v d y
kept_same (Ok _) st a o r d x y e q =
    let p : o.answer ≡ Ok a.written = ap (λ (x : Outcome). x.answer) e in
    absurd (let z : ◌≡◌ {A = ℕ} 0 1 = cc in omega arith)
kept_same (Refused s) st a o r d x y e q = refl

-- ---- the values

module _ (st : Writing) (d : List ℕ) (tag : ℕ) (v : Given) (f k : ℕ) (e : f ≡ number_of (tag % 65536)) (s : k ≡ size_of (form_at f) v) where
  same : placed_at st d tag k ≡ give_at st d tag v
  unfolding placed_at give_at form_of
  same = rw (s, e, sized (form_at (number_of (tag % 65536))) v st.written (length d))

  -- a value that is taken has its form and its room
  full : give_at st d tag v ≡ clear → k ≡ length (octets_for (form_of (tag % 65536)) v)
  unfolding give_at form_of
  full c =
      let a = apart (need (is_found (column_for st d tag)) out_of_turn 0) _ c in
      let b = apart (need (formed (form_of (tag % 65536)) v) breaks_form 0) _ a.1 in
      s ∙ rw (e, unmet (formed (form_of (tag % 65536)) v) breaks_form 0 b.0)

  module _ (o : Outcome) (g : o ≡ settled (placed_at st d tag k) st (given_to st (column_of (column_for st d tag)) k (left_of v) (form_left f v))) where
    pub gave : o ≡ give_outcome st d tag v
    unfolding give_outcome
    gave = g ∙ rw (same, e) (next-same (give_at st d tag v) st _ _ (λ c. rw (full c)))

    module _ (m : List ℕ) (h : m ≡ kept (placed_at st d tag k) d (marked d (st.start + 4) (column_of (column_for st d tag)))) where
      pub gave-none : (r : Refusal) → o.answer ≡ Err r → m ≡ give_octets st d tag v
      unfolding give_octets
      gave-none r q = rw (← same) (h ∙ kept_same (placed_at st d tag k) st _ o r d _ _ g q)

      pub gave-octets : (w : ℕ) (l : List ℕ) → o.answer ≡ Ok w → l ≡ stored m st.written (octets_for (form_at f) v) → l ≡ give_octets st d tag v
      unfolding give_octets form_of
      gave-octets w l q i =
          let c = was-clear (placed_at st d tag k) st _ o w g q in
          rw (← same, c) (rw (h, c, e) at i)

pub ruleset giving = (gave-none, gave-octets)

-- ---- the elements

module _ (st : Writing) (n k : ℕ) (b : Bool) (e : b ≡ within_of st n) where
  pub add-out : (u : Verdict) (r : Outcome) → b ≡ false → u ≡ refused out_of_turn 0 → r ≡ settled u st st → r ≡ settled (added_at st n k) st (added_to st k)
  unfolding added_at
  add-out u r z w q = rw (← e, z) (rw w at q)

  module _ (z : b ≡ true) where
    pub add_none : (u : Verdict) (r : Outcome) → st.left ≡ 0 → u ≡ refused out_of_turn 0 → r ≡ settled u st st → r ≡ settled (added_at st n k) st (added_to st k)
    unfolding added_at
    add_none u r h w q = rw (← e, z, eq-eqb st.left 0 h) (rw w at q)

    module _ (h : st.left ≡ 0 → ⊥) (v : Verdict) (w : v ≡ sized_at st.written n k) where
      pub add-refused : (x : Refusal) (r : Outcome) → v ≡ Refused x → r ≡ settled v st st → r ≡ settled (added_at st n k) st (added_to st k)
      unfolding added_at
      add-refused x r c q = rw (← e, z, ne_eqb st.left 0 h, ← w, c) (rw c at q)

      pub add-clear : (a : Writing) (r : Outcome) → v ≡ clear → a ≡ added_to st k → r ≡ settled v st a → r ≡ settled (added_at st n k) st (added_to st k)
      unfolding added_at
      add-clear a r c g q = rw (← e, z, ne_eqb st.left 0 h, ← w, c) (rw (c, g) at q)

pub ruleset adding = (add-out, add_none, add-refused, add-clear)

module _ (st : Writing) (d : List ℕ) (v : Given) (f k : ℕ) (e : form_at f ≡ element_form (form_at st.form)) (s : k ≡ size_of (form_at f) v) where
  element-same : added_at st (length d) k ≡ element_at st d v
  unfolding added_at element_at
  element-same = rw (s, e, sized (due_form st) v st.written (length d))

  element-full : element_at st d v ≡ clear → k ≡ length (octets_for (due_form st) v)
  unfolding element_at
  element-full c =
      let a = apart (need (within_of st (length d)) out_of_turn 0) _ c in
      let b = apart (need (not (eqb st.left 0)) out_of_turn 0) _ a.1 in
      let g = apart (need (formed (due_form st) v) breaks_form 0) _ b.1 in
      s ∙ rw (e, unmet (formed (due_form st) v) breaks_form 0 g.0)

  module _ (o : Outcome) (g : o ≡ settled (added_at st (length d) k) st (added_to st k)) where
    pub added : o ≡ element_outcome st d v
    unfolding element_outcome
    added = g ∙ rw element-same (next-same (element_at st d v) st _ _ (λ c. rw (element-full c)))

    pub added_none : (r : Refusal) → o.answer ≡ Err r → d ≡ element_octets st d v
    unfolding element_octets
    added_none r q = rw (← element-same) (alone (added_at st (length d) k) ∙ kept_same (added_at st (length d) k) st _ o r d d _ g q)
      where
        alone : (x : Verdict) → d ≡ kept x d d
        alone (Ok _) = refl
        alone (Refused y) = refl

    pub added-octets : (w : ℕ) (l : List ℕ) → o.answer ≡ Ok w → l ≡ stored d st.written (octets_for (form_at f) v) → l ≡ element_octets st d v
    unfolding element_octets
    added-octets w l q i =
        let c = was-clear (added_at st (length d) k) st _ o w g q in
        rw (← element-same, c) (rw e at i)

pub ruleset elementing = (added_none, added-octets)

-- ---- octets that are taken fit

pub record Fits (st : Writing) (d : List ℕ) (f : ℕ) (s : List ℕ) : Type 0 where
  pub fit : st.written + length (octets_for (form_at f) (Octets s)) ≤ length d
  pub short : length s ≤ most_octets

placed-in : (st : Writing) (d : List ℕ) (tag k : ℕ) → placed_at st d tag k ≡ clear → Roomy st.written (length d) k
unfolding placed_at
placed-in st d tag k c = sized-in st.written (length d) k (apart (need (is_found (column_for st d tag)) out_of_turn 0) _ c).1

pub gave_fits : (st : Writing) (d : List ℕ) (tag f k : ℕ) (s : List ℕ) (o : Outcome) (x : Writing) (w : ℕ) → f ≡ number_of (tag % 65536) → k ≡ size_of (form_at f) (Octets s)
    → o ≡ settled (placed_at st d tag k) st x → o.answer ≡ Ok w → Fits st d f s
unfolding form_of
gave_fits st d tag f k s o x w e q g a =
    let c = was-clear (placed_at st d tag k) st x o w g a in
    let r = placed-in st d tag k c in
    let l = octets-long (form_at f) s in
    let z : k ≡ length (octets_for (form_at f) (Octets s)) = rw (← e) at (full st d tag (Octets s) f k e q (sym (same st d tag (Octets s) f k e q) ∙ c)) in
    record { fit = omega (arith, z, r.buffer); short = omega (arith, z, r.limit) }

added-in : (st : Writing) (n k : ℕ) → added_at st n k ≡ clear → Roomy st.written n k
unfolding added_at
added-in st n k c =
    let a = apart (need (within_of st n) out_of_turn 0) _ c in
    sized-in st.written n k (apart (need (not (eqb st.left 0)) out_of_turn 0) _ a.1).1

pub added-fits : (st : Writing) (d : List ℕ) (f k : ℕ) (s : List ℕ) (o : Outcome) (x : Writing) (w : ℕ) → form_at f ≡ element_form (form_at st.form) → k ≡ size_of (form_at f) (Octets s)
    → o ≡ settled (added_at st (length d) k) st x → o.answer ≡ Ok w → Fits st d f s
added-fits st d f k s o x w e q g a =
    let c = was-clear (added_at st (length d) k) st x o w g a in
    let r = added-in st (length d) k c in
    let l = octets-long (form_at f) s in
    let z : k ≡ length (octets_for (form_at f) (Octets s)) = rw (← e) at (element-full st d (Octets s) f k e q (sym (element-same st d (Octets s) f k e q) ∙ c)) in
    record { fit = omega (arith, z, r.buffer); short = omega (arith, z, r.limit) }
