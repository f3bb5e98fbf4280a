-- Where the writer's calls are clear, their octets fit and the rows may be written; and what the code finds of the
-- header record is what the table says of it.
use Rattle.std.specs.Prelude.{Ok, ℕ, zero, suc, ◌+◌, ◌≤◌, ◌<◌, ◌≡◌, refl, Bool, true, false, cond, List, [], ◌∷◌, ◌++◌, ltb, length, drop}
use Rattle.std.proofs.Common.{add-zero, zero-add, arith, sym, ap, ◌∙◌, append-nil, length-append, ne_eqb, ltb-true}
use Rattle.std.proofs.Math.Option.{none, some}
use Rattle.std.proofs.Math.Seq.{take-append_seam, drop-append_seam}
use Rattle.answers.specs.Numbers.{breaks_rule, most_octets, most_opened}
use Rattle.answers.specs.Verdict.{Verdict}
use Rattle.answers.specs.Verdict.{clear, Refused}
use Rattle.answers.specs.Verdict.{◌then◌, need, apart, unmet}
use Rattle.answers.specs.Walk.{Walk}
use Rattle.answers.specs.Walk.{Ends, Broken}
use Rattle.answers.specs.Walk.{broken, onto, no_end}
use Rattle.presence.specs.Presence.{room}
use Rattle.whole.specs.Number.{Number}
use Rattle.whole.specs.Number.{Some, Broken as NoNumber}
use Rattle.whole.specs.Number.{number_of}
use Rattle.value.specs.Types.{Kind, Form, one, many, unknown, form_at}
use Rattle.value.specs.Value.{counted, element_of, list_from, list_of, value_of}
use Rattle.value.specs.Form.{IsValue, value-back, value-some}
use Rattle.entry.specs.Present.{Row, Bits, presence_of, presence-length}
use Rattle.entry.specs.Record.{Slot, SoundRow, freed, values_of, row_octets, row-length, unlike}
use Rattle.entry.specs.Slots.{slots_from, step_of}
use Rattle.book.specs.Rows.{rows_octets, SoundRows}
use Rattle.writing.specs.State.{room_at, room_in_lem}
use Rattle.importing.specs.Given.{width_then, elements_of, count_then, pieces_of, row_pieces, pieces_at, keys_in}
use Rattle.importing.specs.Given.{record_given}
use Rattle.importing.specs.Given.{rows_given}
use Rattle.importing.specs.Head.{column_given, head_from}

-- ---- the pieces of a value are all of it

abbrev pub sum : List ℕ → ℕ
sum [] = 0
sum (k ∷ ks) = k + sum ks

sum-append : (ks ls : List ℕ) → sum (ks ++ ls) ≡ sum ks + sum ls
sum-append [] ls = sym (zero-add (sum ls))
sum-append (k ∷ ks) ls = let ih = sum-append ks ls in omega arith

elements-sum : (k : Kind) (n i e : ℕ) (xs : List ℕ) → list_from k n i xs ≡ Ends e → i + sum (elements_of k n xs) ≡ e
unfolding list_from elements_of
elements-sum k zero i e xs q = let z : i ≡ e = cc in add-zero i ∙ z
elements-sum k (suc n) i e xs q = go (element_of k xs) q (λ w z. elements-sum k n (i + w) e (drop w xs) z)
  where
    go : (r : Walk) → onto r i (λ w. list_from k n (i + w) (drop w xs)) ≡ Ends e
        → ((w : ℕ) → list_from k n (i + w) (drop w xs) ≡ Ends e → i + w + sum (elements_of k n (drop w xs)) ≡ e)
        → i + sum (width_then r (λ w. elements_of k n (drop w xs))) ≡ e
    go (Ends w) z ih = let a = ih w z in omega arith
    go (Broken p) z ih = no_end z

list-sum : (k : Kind) (v : List ℕ) (e : ℕ) → list_of k v ≡ Ends e → sum (pieces_of (many k) v) ≡ e
unfolding list_of pieces_of
list-sum k v e q = go (number_of v) q
  where
    more : (b : Bool) (n w : ℕ) → cond b broken (list_from k n w (drop w v)) ≡ Ends e
        → w + sum (elements_of k n (drop w v)) ≡ e
    more true n w z = no_end z
    more false n w z = elements-sum k n w e (drop w v) z

    go : (r : Number) → counted r (λ n w. cond (ltb n 1) broken (list_from k n w (drop w v))) ≡ Ends e
        → sum (count_then r (λ n w. elements_of k n (drop w v))) ≡ e
    go (Some (n, w)) z = more (ltb n 1) n w z
    go NoNumber z = no_end z

pub pieces-sum : (f : Form) (v : List ℕ) → IsValue f v → sum (pieces_of f v) ≡ length v
unfolding pieces_of value_of
pieces-sum (one k) v h = add-zero (length v)
pieces-sum (many k) v h =
    list-sum k v (length v) (ap (list_of k) (sym (append-nil v)) ∙ value-back (many k) v h [])
pieces-sum unknown v h = no_end (value-back unknown v h [])

row-sum : (ss : List Slot) (es : Row) → SoundRow (freed ss) es → sum (row_pieces ss es) ≡ length (values_of es)
unfolding row_pieces
row-sum [] [] h = refl
row-sum [] (e ∷ es) h = absurd h
row-sum (s ∷ ss) [] h = absurd h
row-sum (s ∷ ss) (none ∷ es) h = row-sum ss es h.1
row-sum (s ∷ ss) (some v ∷ es) h =
    let a = sum-append (pieces_of s.form v) (row_pieces ss es) in
    let b = pieces-sum s.form v h.0.0 in
    let c = row-sum ss es h.1 in
    let d = length-append v (values_of es) in
    omega arith

-- ---- room

pub record Roomed (w n : ℕ) : Type 0 where
  pub limit : w ≤ most_octets
  pub buffer : w ≤ n

pub pieces-append : (w n : ℕ) (ks ls : List ℕ)
    → pieces_at w n (ks ++ ls) ≡ (pieces_at w n ks then pieces_at (w + sum ks) n ls)
unfolding pieces_at
pieces-append w n [] ls = ap (λ (m : ℕ). pieces_at m n ls) (sym (add-zero w))
pieces-append w n (k ∷ ks) ls = go (room_at w n k) (pieces-append (w + k) n ks ls)
  where
    go : (v : Verdict) → pieces_at (w + k) n (ks ++ ls) ≡ (pieces_at (w + k) n ks then pieces_at (w + k + sum ks) n ls)
        → v then pieces_at (w + k) n (ks ++ ls)
        ≡ ((v then pieces_at (w + k) n ks) then pieces_at (w + (k + sum ks)) n ls)
    go (Ok _) ih = let e : w + k + sum ks ≡ w + (k + sum ks) = omega arith in rw (← e) ih
    go (Refused r) ih = refl

pub pieces_room : (ks : List ℕ) (w n : ℕ) → Roomed w n → pieces_at w n ks ≡ clear → Roomed (w + sum ks) n
unfolding pieces_at
pieces_room [] w n r e = rw (add-zero w) r
pieces_room (k ∷ ks) w n r e =
    let a = apart (room_at w n k) _ e in
    let b = room_in_lem w n k a.0 in
    let z : w + k + sum ks ≡ w + (k + sum ks) = omega arith in
    rw (← z) (pieces_room ks (w + k) n (record { limit = b.limit; buffer = b.buffer }) a.1)

-- ---- a record that is given

pub keys-sound : (ss : List Slot) (es : Row) → SoundRow (freed ss) es → keys_in ss es ≡ true → SoundRow ss es
unfolding keys_in
keys-sound [] [] h e = tt
keys-sound [] (x ∷ es) h e = absurd h
keys-sound (s ∷ ss) [] h e = absurd h
keys-sound (s ∷ ss) (none ∷ es) h e = go s.must refl e (λ z. keys-sound ss es h.1 z)
  where
    go : (b : Bool) → s.must ≡ b → cond b false (keys_in ss es) ≡ true → (keys_in ss es ≡ true → SoundRow ss es)
        → (s.must ≡ false) × SoundRow ss es
    go true q z f = unlike z
    go false q z f = (q, f z)
keys-sound (s ∷ ss) (some v ∷ es) h e = (h.0, keys-sound ss es h.1 e)

pub keys-held : (ss : List Slot) (es : Row) → SoundRow ss es → keys_in ss es ≡ true
unfolding keys_in
keys-held [] es h = refl
keys-held (s ∷ ss) [] h = refl
keys-held (s ∷ ss) (none ∷ es) h = rw h.0 (keys-held ss es h.1)
keys-held (s ∷ ss) (some v ∷ es) h = keys-held ss es h.1

freed-length : (ss : List Slot) (es : Row) → SoundRow (freed ss) es → length es ≡ length ss
freed-length [] [] h = refl
freed-length [] (e ∷ es) h = absurd h
freed-length (s ∷ ss) [] h = absurd h
freed-length (s ∷ ss) (e ∷ es) h = ap suc (freed-length ss es h.1)

pub row-parts : (ss : List Slot) (es : Row) → SoundRow (freed ss) es
    → length (row_octets es) ≡ 4 + room (length ss) + sum (row_pieces ss es)
row-parts ss es h =
    let a = row-length es in
    let b = length-append (presence_of es) (values_of es) in
    let c = presence-length es ∙ ap room (freed-length ss es h) in
    let d = row-sum ss es h in
    omega arith

pub record RecordFits (ss : List Slot) (w n k : ℕ) (es : Row) : Type 0 where
  pub sound : SoundRow ss es
  pub few : k < most_opened
  pub roomed : Roomed (w + length (row_octets es)) n

pub record-fits : (ss : List Slot) (w n k : ℕ) (es : Row) → SoundRow (freed ss) es → record_given ss w n k es ≡ clear
    → RecordFits ss w n k es
unfolding record_given
record-fits ss w n k es h e =
    let hd : ℕ = 4 + room (length ss) in
    let a = apart (need (ltb k most_opened) breaks_rule 0) _ e in
    let b = apart (room_at w n hd) _ a.1 in
    let c = apart (pieces_at (w + hd) n (row_pieces ss es)) _ b.1 in
    let r = room_in_lem w n hd b.0 in
    let p = pieces_room (row_pieces ss es) (w + hd) n (record { limit = r.limit; buffer = r.buffer }) c.0 in
    let z : w + hd + sum (row_pieces ss es) ≡ w + length (row_octets es) = (let q = row-parts ss es h in omega arith) in
    record {
      sound = keys-sound ss es h (unmet _ breaks_rule 0 c.1);
      few = ltb-true k most_opened (unmet _ breaks_rule 0 a.0);
      roomed = rw (← z) p;
    }

-- rows that have values of their columns, keys aside
abbrev pub FreeRows : List Slot → List Row → Type 0
FreeRows ss [] = Unit {0}
FreeRows ss (es ∷ rows) = SoundRow (freed ss) es × FreeRows ss rows

pub record RowsFit (ss : List Slot) (w n k : ℕ) (rows : List Row) : Type 0 where
  pub sound : SoundRows ss rows
  pub few : k + length rows ≤ most_opened
  pub roomed : Roomed (w + length (rows_octets rows)) n

pub rows_fit : (ss : List Slot) (rows : List Row) (w n k : ℕ) → FreeRows ss rows → Roomed w n → k ≤ most_opened
    → rows_given ss w n k rows ≡ clear → RowsFit ss w n k rows
unfolding rows_given
rows_fit ss [] w n k h r m e = record { sound = tt; few = rw (add-zero k) m; roomed = rw (add-zero w) r }
rows_fit ss (es ∷ rows) w n k h r m e =
    let a = apart (record_given ss w n k es) _ e in
    let f = record-fits ss w n k es h.0 a.0 in
    let l = f.few in
    let g = rows_fit ss rows (w + length (row_octets es)) n (k + 1) h.1 f.roomed (omega arith) a.1 in
    let z : w + length (row_octets es) + length (rows_octets rows) ≡ w + length (rows_octets (es ∷ rows)) =
    (let q = length-append (row_octets es) (rows_octets rows) in omega arith) in
    record { sound = (f.sound, g.sound); few = (let x = g.few in omega arith); roomed = rw (← z) g.roomed }

-- ---- the header record as the code goes over it

pub head-is : (forms : List ℕ) (es : Row) (i : ℕ) (p : List ℕ) (w n : ℕ) → SoundRow (slots_from forms []) es
    → Bits p i es
    → head_from forms i p w n (values_of es) ≡ pieces_at w n (row_pieces (slots_from forms []) es)
unfolding head_from row_pieces pieces_at step_of column_given
head-is [] [] i p w n h b = refl
head-is [] (e ∷ es) i p w n h b = absurd h
head-is (f ∷ forms) [] i p w n h b = absurd h
head-is (f ∷ forms) (none ∷ es) i p w n h b =
    rw b.0
    (ap (λ (m : ℕ). head_from forms (suc i) p m n (values_of es)) (add-zero w)
    ∙ head-is forms es (suc i) p w n h.1 b.1)
head-is (f ∷ forms) (some v ∷ es) i p w n h b =
    let l = value-some (form_at f) v h.0.0 in
    let s = pieces-sum (form_at f) v h.0.0 in
    rw (
      b.0,
      value-back (form_at f) v h.0.0 (values_of es),
      take-append_seam v (values_of es),
      drop-append_seam v (values_of es),
      ne_eqb (length v) 0 (λ e. omega arith),
    )
    (ap (λ (x : Verdict). pieces_at w n (pieces_of (form_at f) v) then x)
    (head-is forms es (suc i) p (w + length v) n h.1 b.1
    ∙ ap (λ (m : ℕ). pieces_at (w + m) n (row_pieces (slots_from forms []) es)) (sym s))
    ∙ sym (pieces-append w n (pieces_of (form_at f) v) (row_pieces (slots_from forms []) es)))
