-- The ways of the code that puts a record in or takes one out, on plain values.
use Rattle.std.specs.Prelude.{Err, Ok, ℕ, ◌+◌, ◌-◌, ◌^◌, ◌≤◌, ◌<◌, ◌≡◌, refl, Bool, true, false, ltb, leb, take, drop}
use native.Mathlib.Omega.{arith}
use Rattle.std.proofs.Math.Nat.{add-zero, sub-zero}
use Rattle.std.proofs.Math.Path.{sym, ap}
use Rattle.std.proofs.Common.{◌∙◌, length-drop, Fits}
use mathlib.Core.List.{List, [], ◌∷◌}
use Rattle.std.proofs.Math.ListN.{length}
use Rattle.std.proofs.Math.Seq.{length-take-le}
use Rattle.std.specs.Int.{w64}
use borrow.Author.Tests.{le-leb, lt-leb, leb-true, lt-ltb, le-ltb, ltb-true, eq-eqb, ne_eqb}
use Rattle.octets.specs.Cases.{split}
use Rattle.octets.specs.Word.{word_of}
use Rattle.answers.specs.Numbers.{cut_short, wrong_size, out_of_turn, breaks_rule, no_room, breaks_form, most_octets}
use Rattle.answers.specs.Numbers.{most_records, most_columns}
use Rattle.answers.specs.declared.Refusal.{Refusal}
use Rattle.answers.specs.Verdict.{Answer, answered, verdict_of, refusal}
use Rattle.answers.specs.Made.{answered-done}
use Rattle.answers.specs.Verdict.{Verdict}
use Rattle.answers.specs.Verdict.{clear, Refused}
use Rattle.answers.specs.Verdict.{refused, ◌then◌, need, apart, unmet}
use Rattle.presence.specs.Presence.{room}
use Rattle.value.specs.Types.{form_at}
use Rattle.table.specs.Table.{Column}
use Rattle.table.specs.Columns.{columns_in}
use Rattle.entry.specs.Record.{Slot, is_clear, present_in, keys_at, record_at, freed}
use Rattle.entry.specs.Slots.{key_bit, slots_from, slots-many}
use Rattle.book.specs.Book.{row_slots, cols_in, tables_at, count_in, header_at, judge, sealed-length}
use Rattle.book.specs.Judged.{FitsArrays, judged_of}
use Rattle.book.specs.Front.{front_at, judge-front}
use Rattle.book.specs.JudgeCases.{slots-row, both-fit}
use Rattle.book.specs.Good.{GoodIs, good-is, refused-by, good-keeps, forms-in, bits_in}
use Rattle.book.specs.declared.Judgement.{Judgement}
use Rattle.lookup.specs.Places.{walk_behind, walk-behind, place_in}
use Rattle.lookup.specs.Cases.{walk-place}
use Rattle.editing.specs.Put.{put, resealed, corrected_of}
use Rattle.editing.specs.InPlace.{room_in, room-keeps, put-length}
use Rattle.editing.specs.Fits.{records_put, records-fit}
use Rattle.editing.specs.Stands.{place-next, place-stands, number-stands}
use Rattle.correcting.specs.Correct.{book_at, room_for, offered_at, insert_book, insert_at, insert_answer, insert_octets}
use Rattle.correcting.specs.Correct.{delete_book, delete_at, delete_answer, delete_octets}
use Rattle.inserting.specs.declared.Gap.{Gap}

-- ---- what is decided before anything is written

-- m records from record k on make room for n
abbrev pub gap_at : List ℕ → ℕ → ℕ → ℕ → Gap
gap_at b k m n = record { place = place_in b k; end = place_in b (k + m); count = count_in b + n - m }

-- ---- judge_offered

free-slots : (forms flags : List ℕ) → freed (slots_from forms flags) ≡ slots_from forms []
unfolding key_bit
free-slots [] flags = refl
free-slots (f ∷ forms) flags = ap (λ (l : List Slot). record { form = form_at f; must = false } ∷ l) (free-slots forms (drop 1 flags))

module _ (new forms flags : List ℕ) (n : ℕ) (fs : List ℕ) (fe : fs ≡ take n forms) (v : Verdict)
    (ve : v ≡ record_at (slots_from fs []) 0 (drop 0 new)) where
  abbrev ss : List Slot
  ss = slots_from (take n forms) (take n flags)

  record_is : record_at (freed (slots_from (take n forms) (take n flags))) 0 new ≡ v
  record_is = rw (free-slots (take n forms) (take n flags)) (rw fe at (sym ve))

  many : length (slots_from (take n forms) (take n flags)) ≡ length fs
  many = slots-many (take n forms) (take n flags) ∙ ap length (sym fe)

  pub offered-broken : (r : Refusal) (x : Verdict) → v ≡ Refused r → x ≡ refused breaks_form 0 → x ≡ offered_at (slots_from (take n forms) (take n flags)) new
  unfolding offered_at
  offered-broken r x z q = rw (record_is, z) q

  module _ (z : v ≡ clear) (w : ℕ) (we : w ≡ word_of 4 (drop 0 new)) where
    pub offered-longer : (x : Verdict) → (w ≡ length new → ⊥) → x ≡ refused breaks_form 0 → x ≡ offered_at (slots_from (take n forms) (take n flags)) new
    unfolding offered_at
    offered-longer x y q = rw (record_is, z, ← we, ne_eqb w (length new) y) q

    module _ (y : w ≡ length new) (m : ℕ) (me : m ≡ room (length fs)) where
      pub offered-head : 4 + m ≤ length new
      unfolding record_at
      offered-head =
          let f : List Slot = freed ss in
          let l : length f ≡ length fs =
          ap length (free-slots (take n forms) (take n flags)) ∙ slots-many (take n forms) [] ∙ ap length (sym fe) in
          let c₁ = apart (need (leb 4 (length new)) cut_short 0) _ (record_is ∙ z) in
          let c₂ = apart (need (leb (4 + room (length f)) (word_of 4 new)) wrong_size 0) _ c₁.1 in
          let b = leb-true (4 + room (length f)) (word_of 4 new) (unmet _ wrong_size 0 c₂.0) in
          let g : room (length f) ≡ room (length fs) = ap room l in
          omega arith

      module _ (gs : List ℕ) (ge : gs ≡ take n flags) (k : Bool)
          (ke : k ≡ is_clear (keys_at (slots_from fs gs) 0 (take (4 + m - 4) (drop 4 new)) 4)) where
        keys-are : is_clear (keys_at (slots_from (take n forms) (take n flags)) 0 (present_in (length (slots_from (take n forms) (take n flags))) new) 4) ≡ k
        keys-are =
            let e : 4 + m - 4 ≡ room (length fs) = omega arith in
            rw (many, fe) (rw (fe, ge) at (rw e at (sym ke)))

        pub offered-key : (x : Verdict) → k ≡ false → x ≡ refused breaks_rule 0 → x ≡ offered_at (slots_from (take n forms) (take n flags)) new
        unfolding offered_at
        offered-key x u q = rw (record_is, z, ← we, eq-eqb w (length new) y, keys-are, u) q

        pub offered-good : k ≡ true → clear ≡ offered_at (slots_from (take n forms) (take n flags)) new
        unfolding offered_at
        offered-good u = rw (record_is, z, ← we, eq-eqb w (length new) y, keys-are, u)

-- ---- insert

unfoldable pub insert_in : ℕ → ℕ → ℕ → ℕ → List ℕ → List Slot → Verdict
insert_in len room count k new ss =
    need (leb k count) out_of_turn 0
    then offered_at ss new
    then need (ltb count most_records) breaks_rule 0
    then room_in (len + length new) room

unfoldable pub insert_gap : List ℕ → ℕ → ℕ → List ℕ → Answer Gap
insert_gap b room k new = answered (judge b then insert_in (length b) room (count_in b) k new (row_slots (cols_in (drop 12 b)))) (gap_at b k 0 1)

unfoldable pub delete_gap : List ℕ → ℕ → Answer Gap
delete_gap b k =
    answered
    (judge b
    then need (ltb k (count_in b)) out_of_turn 0
    then need (ltb 1 (count_in b)) breaks_rule 0)
    (gap_at b k 1 0)

module _ (len room count k : ℕ) (new : List ℕ) (ss : List Slot) where
  pub insert-far : (x : Verdict) → count < k → x ≡ refused out_of_turn 0 → x ≡ insert_in len room count k new ss
  unfolding insert_in
  insert-far x h q = rw (lt-leb k count h) q

  module _ (h : k ≤ count) (v : Verdict) (ve : v ≡ offered_at ss new) where
    pub insert-broken : (r : Refusal) → v ≡ Refused r → Refused r ≡ insert_in len room count k new ss
    unfolding insert_in
    insert-broken r z = rw (le-leb k count h, ← ve, z)

    module _ (z : v ≡ clear) (x : Verdict) where
      pub insert-full : most_records ≤ count → x ≡ refused breaks_rule 0 → x ≡ insert_in len room count k new ss
      unfolding insert_in
      insert-full y q = rw (le-leb k count h, ← ve, z, le-ltb count most_records y) q

      module _ (y : count < most_records) where
        pub insert-long : most_octets < length new → x ≡ refused breaks_rule 0 → x ≡ insert_in len room count k new ss
        unfolding insert_in room_in
        insert-long w q = rw (le-leb k count h, ← ve, z, lt-ltb count most_records y, lt-leb (len + length new) most_octets (omega arith)) q

        pub insert-room : x ≡ room_in (len + length new) room → x ≡ insert_in len room count k new ss
        unfolding insert_in
        insert-room q = rw (le-leb k count h, ← ve, z, lt-ltb count most_records y) q

pub ruleset inserts = (insert-far, insert-broken, insert-full, insert-long, insert-room)

-- what a clear verdict says
insert-in : (len room count k : ℕ) (new : List ℕ) (ss : List Slot) → insert_in len room count k new ss ≡ clear → (k ≤ count) × (count < most_records) × (len + length new ≤ room)
unfolding insert_in
insert-in len room count k new ss e =
    let c₁ = apart (need (leb k count) out_of_turn 0) _ e in
    let c₂ = apart (offered_at ss new) _ c₁.1 in
    let c₃ = apart (need (ltb count most_records) breaks_rule 0) _ c₂.1 in
    (leb-true k count (unmet _ out_of_turn 0 c₁.0), ltb-true count most_records (unmet _ breaks_rule 0 c₃.0), (room-keeps (len + length new) room c₃.1).1)

-- ---- the book is judged

cols-fit : (b : List ℕ) → judge b ≡ clear → FitsArrays (columns_in (cols_in (drop 12 b)))
unfolding front_at
cols-fit b e =
    let c = apart (header_at b) _ (apart (front_at b) _ (sym (judge-front b) ∙ e)).0 in
    (both-fit b (apart (tables_at (drop 12 b)) _ c.1).0).1

module _ (b : List ℕ) (u : Answer Judgement) (je : u ≡ judged_of b) where
  pub insert-judged : (room k : ℕ) (new : List ℕ) (r : Refusal) → u ≡ Err r → Err r ≡ insert_gap b room k new
  unfolding insert_gap
  insert-judged room k new r z = rw (refused-by b u je r z)

  pub delete-judged : (k : ℕ) (r : Refusal) → u ≡ Err r → Err r ≡ delete_gap b k
  unfolding delete_gap
  delete-judged k r z = rw (refused-by b u je r z)

  module _ (j : Judgement) (q : u ≡ Ok j) where
    good : GoodIs b j
    good = good-is b u j je q

    pub book-short : length b ≤ most_octets
    book-short = (good-keeps b good.clears).0

    pub address-reach : (j.address.count ≤ most_columns) × (j.address.count ≤ length j.address.forms)
        × (j.address.count ≤ length j.address.flags) × (length b ≤ most_octets)
    address-reach =
        let fit = cols-fit b good.clears in
        let x = fit.few in
        let y = fit.forms in
        let z = fit.flags in
        (rw good.cols x, rw good.cols (omega arith), rw good.cols (omega arith), (good-keeps b good.clears).0)

    pub first_small : j.first < 2 ^ 32
    first_small =
        let k = good-keeps b good.clears in
        let g = good.first in
        omega arith

    place_is : (k at : ℕ) → k ≤ most_records → at ≡ walk_behind k j.first b → place_in b k ≡ at
    place_is k at h y = sym (y ∙ walk-behind k j.first b first_small h ∙ walk-place b k j.first good.first)

    module _ (room k : ℕ) (new : List ℕ) (v : Verdict)
        (ve : v ≡ insert_in (length b) room j.count k new (slots_from (take j.address.count j.address.forms) (take j.address.count j.address.flags))) where
      verdict-is : insert_in (length b) room (count_in b) k new (row_slots (cols_in (drop 12 b))) ≡ v
      verdict-is =
          let cs : List Column = cols_in (drop 12 b) in
          sym (rw (good.cols, forms-in cs, bits_in cs, slots-row cs, good.count) at ve)

      pub gap-refused : (r : Refusal) → v ≡ Refused r → Err r ≡ insert_gap b room k new
      unfolding insert_gap
      gap-refused r z = rw (good.clears, verdict-is, z)

      pub gap-few : v ≡ clear → (k ≤ most_records) × (j.count < most_records)
      gap-few z = let i = insert-in (length b) room j.count k new _ (sym ve ∙ z) in (omega (arith, i.0, i.1), i.1)

      pub gap-insert : (at : ℕ) → v ≡ clear → at ≡ walk_behind k j.first b
          → Ok (record { place = at; end = at; count = j.count + 1 }) ≡ insert_gap b room k new
      unfolding insert_gap
      gap-insert at z y =
          let n : count_in b ≡ j.count = sym good.count in
          rw (good.clears, verdict-is, z, add-zero k, sub-zero (count_in b + 1), n, place_is k at (gap-few z).0 y)

    module _ (k : ℕ) where
      pub gap-far : (g : Answer Gap) → j.count ≤ k → g ≡ Err (refusal out_of_turn 0) → g ≡ delete_gap b k
      unfolding delete_gap
      gap-far g y z =
          let n : count_in b ≡ j.count = sym good.count in
          rw (good.clears, n, le-ltb k j.count y) z

      module _ (y : k < j.count) where
        pub gap-only : (g : Answer Gap) → j.count < 2 → g ≡ Err (refusal breaks_rule 0) → g ≡ delete_gap b k
        unfolding delete_gap
        gap-only g o z =
            let n : count_in b ≡ j.count = sym good.count in
            rw (good.clears, n, lt-ltb k j.count y, le-ltb 1 j.count (omega arith)) z

        pub gap-near : k ≤ most_records
        gap-near =
            let n = good.count in
            let m = good-keeps b good.clears in
            omega arith

        module _ (at w : ℕ) (ae : at ≡ walk_behind k j.first b) (we : w ≡ word_of 4 (drop at b)) where
          pub gap-end : Fits w64 (at + w)
          gap-end =
              let n = good.count in
              let m = good-keeps b good.clears in
              let s = rw (place_is k at gap-near ae, ← we) at (number-stands b good.clears k (omega arith)).whole in
              record { fits = omega arith }

          pub gap-delete : 2 ≤ j.count → Ok (record { place = at; end = at + w; count = j.count - 1 }) ≡ delete_gap b k
          unfolding delete_gap
          gap-delete o =
              let n : count_in b ≡ j.count = sym good.count in
              let m : place_in b (k + 1) ≡ at + w = rw (place_is k at gap-near ae, ← we) at (place-next b k) in
              rw (good.clears, n, lt-ltb k j.count y, lt-ltb 1 j.count (omega arith), add-zero j.count, m, place_is k at gap-near ae)

-- ---- the corrected book, and the verdict of the call

on-clear : (v : Verdict) (p g : Gap) (u : Answer Gap) → u ≡ answered v p → u ≡ Ok g → (v ≡ clear) × (g ≡ p)
on-clear v p g u e z = let a = answered-done v p g (sym e ∙ z) in (a.0, sym a.1)

on-verdict : (v : Verdict) (p : Gap) → verdict_of (answered v p) ≡ v
on-verdict (Ok _) p = refl
on-verdict (Refused r) p = refl

corrected-long : (k m n : ℕ) (new b : List ℕ) → 12 ≤ place_in b k → place_in b k ≤ length b → length (corrected_of k m n new b) ≡ place_in b k + length new + (length b - place_in b (k + m))
unfolding corrected_of resealed
corrected-long k m n new b h i =
    let xs : List ℕ = put (place_in b k) (place_in b (k + m)) new b in
    let l = sealed-length (count_in b + n - m) (drop 12 xs) in
    let r = length-drop 12 xs in
    let p = put-length (place_in b k) (place_in b (k + m)) new b i in
    omega arith

insert-size : (b new : List ℕ) (k : ℕ) → judge b ≡ clear → k ≤ count_in b → length (corrected_of k 0 1 new b) ≡ length b + length new
insert-size b new k e h =
    let s = place-stands b e k h in
    corrected-long k 0 1 new b s.0 s.1 ∙ rw (add-zero k) (sums (place_in b k) (length new) (length b) s.1)
  where
    sums : (x y z : ℕ) → x ≤ z → x + y + (z - x) ≡ z + y
    sums x y z h = omega arith

-- the verdict behind the book's own, where the new book has n octets and the buffer m
abbrev behind_book : ℕ → List ℕ → ℕ → List ℕ → ℕ → Verdict
behind_book m b k new n =
    need (leb k (count_in b)) out_of_turn 0
    then offered_at (row_slots (cols_in (drop 12 b))) new
    then need (ltb (count_in b) most_records) breaks_rule 0
    then need (leb n most_octets) breaks_rule 0
    then need (leb n m) no_room 0

same_size : (b new : List ℕ) (m k : ℕ) (v : Verdict) → judge b ≡ v → (v then behind_book m b k new (length (corrected_of k 0 1 new b))) ≡ (v then behind_book m b k new (length b + length new))
same_size b new m k (Refused r) e = refl
same_size b new m k (Ok _) e = split (count_in b) k (λ l. rw (lt-leb k (count_in b) l)) (λ l. ap (behind_book m b k new) (insert-size b new k e l))

insert-verdict : (d new : List ℕ) (len k : ℕ) → len ≤ length d → insert_at d len k new ≡ verdict_of (insert_gap (take len d) (length d) k new)
unfolding insert_at insert_gap book_at insert_in room_for room_in insert_book
insert-verdict d new len k h =
    let b : List ℕ = take len d in
    rw (le-leb len (length d) h)
    (same_size b new (length d) k (judge b) refl ∙ sym (on-verdict (judge b then behind_book (length d) b k new (length b + length new)) (gap_at b k 0 1)))

delete-verdict : (d : List ℕ) (len k : ℕ) → len ≤ length d → delete_at d len k ≡ verdict_of (delete_gap (take len d) k)
unfolding delete_at delete_gap book_at
delete-verdict d len k h =
    rw (le-leb len (length d) h)
    (sym (on-verdict (judge (take len d) then need (ltb k (count_in (take len d))) out_of_turn 0 then need (ltb 1 (count_in (take len d))) breaks_rule 0) (gap_at (take len d) k 1 0)))

-- ---- insert

module _ (d new : List ℕ) (len k : ℕ) where
  pub insert-short : length d < len → (r : Refusal) → r ≡ record { number = out_of_turn; place = 0 }
      → Err r ≡ insert_answer d len k new
  unfolding insert_answer insert_at book_at
  insert-short h r q = rw (lt-leb len (length d) h, q)

  pub insert-kept : length d < len → d ≡ insert_octets d len k new
  unfolding insert_octets insert_at book_at
  insert-kept h = rw (lt-leb len (length d) h)

  module _ (h : len ≤ length d) (u : Answer Gap) (ge : u ≡ insert_gap (take (len - 0) d) (length d) k new) where
    gap_is : u ≡ insert_gap (take len d) (length d) k new
    gap_is = rw (sub-zero len) at ge

    verdict-was : insert_at d len k new ≡ verdict_of u
    verdict-was = insert-verdict d new len k h ∙ ap (λ (x : Answer Gap). verdict_of x) (sym gap_is)

    pub insert-refused : (r : Refusal) → u ≡ Err r → Err r ≡ insert_answer d len k new
    unfolding insert_answer
    insert-refused r z = rw (verdict-was, z)

    pub insert-left : (r : Refusal) → u ≡ Err r → d ≡ insert_octets d len k new
    unfolding insert_octets
    insert-left r z = rw (verdict-was, z)

    module _ (g : Gap) (z : u ≡ Ok g) where
      long : length (take len d) ≡ len
      long = length-take-le len d h

      both : (judge (take len d) ≡ clear) × (insert_in (length (take len d)) (length d) (count_in (take len d)) k new (row_slots (cols_in (drop 12 (take len d)))) ≡ clear) × (g ≡ gap_at (take len d) k 0 1)
      unfolding insert_gap
      both =
          let c = on-clear _ _ g u gap_is z in
          let a = apart (judge (take len d)) _ c.0 in
          (a.0, a.1, c.1)

      pub insert-keeps : (12 ≤ g.place) × (g.place ≤ g.end) × (g.end ≤ len) × (len ≤ length d) × (g.place + length new + (len - g.end) ≤ length d)
      insert-keeps =
          let i = insert-in _ _ _ k new _ both.1 in
          let s = place-stands (take len d) both.0 k i.0 in
          let l = long in
          rw (both.2, add-zero k) (s.0, omega arith, omega (arith, s.1), h, sums (place_in (take len d) k) (omega (arith, s.1)) (omega (arith, i.2)))
        where
          sums : (x : ℕ) → x ≤ len → len + length new ≤ length d → x + length new + (len - x) ≤ length d
          sums x h i = omega arith

      pub insert-done : Ok (len + length new) ≡ insert_answer d len k new
      unfolding insert_answer insert_book
      insert-done =
          let i = insert-in _ _ _ k new _ both.1 in
          rw (verdict-was, z, insert-size (take len d) new k both.0 i.0, long)

      pub insert-put : (x : List ℕ) → x ≡ records_put d len g.place g.end new g.count → x ≡ insert_octets d len k new
      unfolding insert_octets insert_book corrected_of
      insert-put x q = rw (verdict-was, z) (rw both.2 at (records-fit d new len g.place g.end g.count x insert-keeps q))

-- ---- delete

module _ (d : List ℕ) (len k : ℕ) where
  pub delete-short : length d < len → (r : Refusal) → r ≡ record { number = out_of_turn; place = 0 }
      → Err r ≡ delete_answer d len k
  unfolding delete_answer delete_at book_at
  delete-short h r q = rw (lt-leb len (length d) h, q)

  pub delete-kept : length d < len → d ≡ delete_octets d len k
  unfolding delete_octets delete_at book_at
  delete-kept h = rw (lt-leb len (length d) h)

  module _ (h : len ≤ length d) (u : Answer Gap) (ge : u ≡ delete_gap (take (len - 0) d) k) where
    gap-was : u ≡ delete_gap (take len d) k
    gap-was = rw (sub-zero len) at ge

    delete-was : delete_at d len k ≡ verdict_of u
    delete-was = delete-verdict d len k h ∙ ap (λ (x : Answer Gap). verdict_of x) (sym gap-was)

    pub delete-refused : (r : Refusal) → u ≡ Err r → Err r ≡ delete_answer d len k
    unfolding delete_answer
    delete-refused r z = rw (delete-was, z)

    pub delete-left : (r : Refusal) → u ≡ Err r → d ≡ delete_octets d len k
    unfolding delete_octets
    delete-left r z = rw (delete-was, z)

    module _ (g : Gap) (z : u ≡ Ok g) where
      span : length (take len d) ≡ len
      span = length-take-le len d h

      whole : (judge (take len d) ≡ clear) × (k < count_in (take len d)) × (g ≡ gap_at (take len d) k 1 0)
      unfolding delete_gap
      whole =
          let c = on-clear _ _ g u gap-was z in
          let a = apart (judge (take len d)) _ c.0 in
          let t = apart (need (ltb k (count_in (take len d))) out_of_turn 0) _ a.1 in
          (a.0, ltb-true k (count_in (take len d)) (unmet _ out_of_turn 0 t.0), c.1)

      pub delete-keeps : (12 ≤ g.place) × (g.place ≤ g.end) × (g.end ≤ len) × (len ≤ length d) × (g.place + 0 + (len - g.end) ≤ length d)
      delete-keeps =
          let s = number-stands (take len d) whole.0 k whole.1 in
          let n = place-next (take len d) k in
          let x = s.behind in
          let y = s.whole in
          let l = span in
          rw whole.2 (x, omega arith, omega arith, h, omega arith)

      pub delete-done : Ok (g.place + (len - g.end)) ≡ delete_answer d len k
      unfolding delete_answer delete_book
      delete-done =
          let s = place-stands (take len d) whole.0 k (below whole.1) in
          let e : length (corrected_of k 1 0 [] (take len d)) ≡ place_in (take len d) k + (len - place_in (take len d) (k + 1)) =
          corrected-long k 1 0 [] (take len d) s.0 s.1 ∙ rw (span, add-zero (place_in (take len d) k)) in
          rw (delete-was, z, e, whole.2)
        where
          below : k < count_in (take len d) → k ≤ count_in (take len d)
          below h = omega arith

      pub delete-put : (x none : List ℕ) → none ≡ [] → x ≡ records_put d len g.place g.end none g.count → x ≡ delete_octets d len k
      unfolding delete_octets delete_book corrected_of
      delete-put x none e q =
          let h = delete-keeps in
          let l : length none ≡ 0 = ap length e in
          let f = records-fit d none len g.place g.end g.count x (h.0, h.1, h.2, h.3, omega (arith, l, h.4)) q in
          rw (delete-was, z) (rw (e, whole.2) at f)
