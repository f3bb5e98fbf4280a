-- The ways of the code that measures and writes a line, on plain values.
use Rattle.std.specs.Prelude.{ℕ, zero, suc, ◌+◌, ◌-◌, ◌%◌, ◌^◌, ◌≤◌, ◌<◌, ◌≡◌, refl, Bool, true, false, cond, ltb, length, take, drop, set}
use Rattle.std.proofs.Common.{arith, ◌∙◌, length-append, length-take, length-drop, drop_of_length-le, drop-cons, get_or-drop, Fits, lt-ltb, le-ltb}
use Rattle.std.proofs.Math.Numerals.{add-one}
use Rattle.std.proofs.Math.Path.{sym, ap}
use mathlib.Core.List.{List, [], ◌∷◌, ◌++◌}
use Rattle.std.proofs.Math.ListN.{get_or}
use Rattle.std.proofs.Math.Seq.{append_snoc}
use Rattle.std.specs.Int.{w64}
use Rattle.octets.specs.Cases.{split}
use Rattle.octets.specs.Splice.{splice}
use Rattle.octets.specs.Stores.{splice-one, laid, laid-long}
use Rattle.edges.specs.Edges.{cell_in}
use Rattle.sheet.specs.Digits.{digits_long}
use Rattle.sheet.specs.Field.{end_of, line_of, tag_field, tag_fields}
use Rattle.exporting.specs.Steps.{field_for, field_at, ended, chosen_fields}

-- ---- the field in a cell

cell-small : (xs edges : List ℕ) (c n : ℕ) → length xs < n → length (cell_in xs edges c) < n
unfolding cell_in
cell-small xs edges c n h = go (ltb (length xs) (get_or edges (c + 1) 0))
  where
    go : (b : Bool) → length (cond b [] (take (get_or edges (c + 1) 0 - get_or edges c 0) (drop (get_or edges c 0) xs))) < n
    go true = omega arith
    go false = simp (length-take, length-drop) (omega arith)

module _ (xs edges : List ℕ) (tag c : ℕ) (v : List ℕ) (e : v ≡ cell_in xs edges c) where
  field_is_lem : field_for (tag % 65536) v ≡ field_at xs edges tag c
  unfolding field_at
  field_is_lem = ap (field_for (tag % 65536)) e

  pub chosen-size : (r : ℕ) → r ≡ length (field_for (tag % 65536) v) → r ≡ length (field_at xs edges tag c)
  chosen-size r h = h ∙ ap length field_is_lem

  pub chosen-room : (d : List ℕ) (at : ℕ) → at + length (field_at xs edges tag c) ≤ length d
      → at + length (field_for (tag % 65536) v) ≤ length d
  chosen-room d at h = rw field_is_lem h

  pub chosen-to : (at r : ℕ) → r ≡ at + length (field_for (tag % 65536) v) → r ≡ at + length (field_at xs edges tag c)
  chosen-to at r h = h ∙ ap (λ (l : List ℕ). at + length l) field_is_lem

  pub chosen-put : (d out : List ℕ) (at : ℕ) → out ≡ splice d at (field_for (tag % 65536) v)
      → out ≡ splice d at (field_at xs edges tag c)
  chosen-put d out at h = h ∙ ap (splice d at) field_is_lem

pub chosen-small : (xs edges v : List ℕ) (c n : ℕ) → v ≡ cell_in xs edges c → length xs < n → length v < n
chosen-small xs edges v c n e h = rw e (cell-small xs edges c n h)

pub ruleset chosen_cases = (chosen-size, chosen-small, chosen-room, chosen-to, chosen-put)

pub end-comma : (i n : ℕ) → i + 1 < n → ◌≡◌ {A = ℕ} 44 (cond (ltb (i + 1) n) 44 13)
end-comma i n h = rw (lt-ltb (i + 1) n h)

pub end-cr : (i n : ℕ) → n ≤ i + 1 → ◌≡◌ {A = ℕ} 13 (cond (ltb (i + 1) n) 44 13)
end-cr i n h = rw (le-ltb (i + 1) n h)

pub ruleset end_cases = (end-comma, end-cr)

-- ---- a line of any fields: i of them are done

unfoldable pub field_is : List (List ℕ) → ℕ → List ℕ
field_is fs i = get_or fs i []

end-at : (gs : List (List ℕ)) (j : ℕ) → end_of (drop j gs) ≡ cond (ltb j (length gs)) 44 13
end-at gs j =
    split j (length gs) (λ h. rw (drop-cons gs j [] h, lt-ltb j (length gs) h))
    (λ h. rw (drop_of_length-le gs {i = j} h, le-ltb j (length gs) h))

module _ (fs : List (List ℕ)) (i : ℕ) where
  line-next : i < length fs
      → line_of (drop i fs) ≡ field_is fs i ++ (cond (ltb (i + 1) (length fs)) 44 13 ∷ line_of (drop (i + 1) fs))
  unfolding line_of field_is
  line-next h = rw (drop-cons fs i [] h, add-one i)
      (ap (λ (e : ℕ). get_or fs i [] ++ (e ∷ line_of (drop (suc i) fs))) (end-at fs (suc i)))

  line-longer : i < length fs
      → length (line_of (drop i fs)) ≡ length (field_is fs i) + 1 + length (line_of (drop (i + 1) fs))
  line-longer h =
      ap length (line-next h) ∙ length-append (field_is fs i)
      (cond (ltb (i + 1) (length fs)) 44 13 ∷ line_of (drop (i + 1) fs)) ∙ omega arith

  line-last : length fs ≤ i → line_of (drop i fs) ≡ 10 ∷ []
  unfolding line_of
  line-last h = rw (drop_of_length-le fs {i = i} h)

-- its size
module _ (fs : List (List ℕ)) (n : ℕ) (many : n ≡ length fs) (i k : ℕ)
    (inv : k + length (line_of (drop i fs)) ≡ length (line_of fs) + 1) where
  pub line-size-step : (f : List ℕ) (r : ℕ) → i < n → r ≡ length f → f ≡ field_is fs i
      → k + (r + 1) + length (line_of (drop (i + 1) fs)) ≡ length (line_of fs) + 1
  line-size-step f r h e q = let z = line-longer fs i (omega arith) in let y = ap length q in omega arith

  pub line-size-end : n ≤ i → k ≡ length (line_of fs)
  line-size-end h = let z = ap length (line-last fs i (omega arith)) in omega arith

pub line-size-start : (fs : List (List ℕ)) → 1 + length (line_of (drop 0 fs)) ≡ length (line_of fs) + 1
line-size-start fs = omega arith

ended-long : (f : List ℕ) (i n : ℕ) → length (ended f i n) ≡ length f + 1
unfolding ended
ended-long f i n = length-append f (cond (ltb (i + 1) n) 44 13 ∷ [])

-- its octets: d as it was lent, out as it is
module _ (fs : List (List ℕ)) (i k at : ℕ) (out d : List ℕ)
    (inv : splice out k (line_of (drop i fs)) ≡ splice d at (line_of fs))
    (rest : k + length (line_of (drop i fs)) ≡ at + length (line_of fs)) (long : length out ≡ length d)
    (room : at + length (line_of fs) ≤ length d) (n : ℕ) where
  module _ (h : i < n) (many : n ≡ length fs) where
    piece : (f : List ℕ) → f ≡ field_is fs i → line_of (drop i fs) ≡ ended f i n ++ line_of (drop (i + 1) fs)
    unfolding ended
    piece f q =
        rw (q, many)
        (line-next fs i (omega arith)
        ∙ sym (append_snoc (field_is fs i) (cond (ltb (i + 1) (length fs)) 44 13) (line_of (drop (i + 1) fs))))

    piece-long : (f : List ℕ) → f ≡ field_is fs i
        → length (line_of (drop i fs)) ≡ length (ended f i n) + length (line_of (drop (i + 1) fs))
    piece-long f q = ap length (piece f q) ∙ length-append (ended f i n) (line_of (drop (i + 1) fs))

    pub line-room : (f : List ℕ) → f ≡ field_is fs i → k + length (ended f i n) ≤ length out
    line-room f q = let z = piece-long f q in omega arith

    module _ (new f : List ℕ) (to : ℕ) (p : new ≡ splice out k (ended f i n)) (e : to ≡ k + length (ended f i n))
        (q : f ≡ field_is fs i) where
      pub line_kept : length new ≡ length d
      line_kept = laid-long out new (ended f i n) k p (line-room f q) ∙ long

      pub line_step : splice new to (line_of (drop (i + 1) fs)) ≡ splice d at (line_of fs)
      line_step =
          let z = piece-long f q in
          laid out new (ended f i n) (line_of (drop (i + 1) fs)) k to p e (omega arith)
          ∙ ap (splice out k) (sym (piece f q)) ∙ inv

  module _ (h : n ≤ i) (many : n ≡ length fs) where
    pub line-close-room : k < length out
    line-close-room = let z = ap length (line-last fs i (omega arith)) in omega arith

    pub line-close : set out k 10 ≡ splice d at (line_of fs)
    line-close = splice-one out k 10 line-close-room ∙ ap (splice out k) (sym (line-last fs i (omega arith))) ∙ inv

    pub line-close-at : k + 1 ≡ at + length (line_of fs)
    line-close-at = let z = ap length (line-last fs i (omega arith)) in omega arith

    pub line-close-fits : length d < 2 ^ 64 → Fits w64 (k + 1)
    line-close-fits l = record { fits = let z = line-close-room in omega arith }

pub line-rest : (fs : List (List ℕ)) (i k at : ℕ) → k + length (line_of (drop i fs)) ≡ at + length (line_of fs) → (n : ℕ)
    → i < n → n ≡ length fs
    → (f : List ℕ) (to : ℕ) → to ≡ k + length (ended f i n) → f ≡ field_is fs i
    → to + length (line_of (drop (i + 1) fs)) ≡ at + length (line_of fs)
line-rest fs i k at rest n h many f to e q =
    let z = line-longer fs i (omega arith) in
    let y = ap length q in
    let x = ended-long f i n in
    omega arith

pub ruleset line_sizes = (line-size-start, line-size-step, line-size-end)

pub ruleset line_cases =
    (line-room, line-rest, line_kept, line_step, line-close-room, line-close, line-close-at, line-close-fits)

-- ---- the fields of a record, and of the tags

chosen-many : (xs edges tags places : List ℕ) → length (chosen_fields xs edges tags places) ≡ length tags
unfolding chosen_fields
chosen-many xs edges [] places = refl
chosen-many xs edges (t ∷ tags) places = ap suc (chosen-many xs edges tags (drop 1 places))

pub chosen-long : (xs edges tags places : List ℕ) → length tags ≡ length (chosen_fields xs edges tags places)
chosen-long xs edges tags places = sym (chosen-many xs edges tags places)

pub field-at : (xs edges tags places : List ℕ) (i : ℕ) → i < length tags
    → field_at xs edges (get_or tags i 0) (get_or places i 0) ≡ field_is (chosen_fields xs edges tags places) i
unfolding chosen_fields field_is
field-at xs edges [] places i h = absurd (omega arith)
field-at xs edges (t ∷ tags) places zero h = refl
field-at xs edges (t ∷ tags) places (suc i) h =
    let e : get_or (drop 1 places) i 0 ≡ get_or places (suc i) 0 = get_or-drop 1 places i 0
    ∙ ap (λ (k : ℕ). get_or places k 0) (omega arith) in
    rw e at (field-at xs edges tags (drop 1 places) i (omega arith))

pub chosen_at : (xs edges tags places : List ℕ) (i c : ℕ) → i < length tags → c ≡ get_or places i 0
    → field_at xs edges (get_or tags i 0) c ≡ field_is (chosen_fields xs edges tags places) i
chosen_at xs edges tags places i c h e = rw e (field-at xs edges tags places i h)

pub tags-long : (tags : List ℕ) → length tags ≡ length (tag_fields tags)
tags-long [] = refl
tags-long (t ∷ tags) = ap suc (tags-long tags)

pub tags-at : (tags : List ℕ) (i : ℕ) → i < length tags → tag_field (get_or tags i 0) ≡ field_is (tag_fields tags) i
unfolding field_is
tags-at [] i h = absurd (omega arith)
tags-at (t ∷ tags) zero h = refl
tags-at (t ∷ tags) (suc i) h = tags-at tags i (omega arith)

pub tag-long : (at tag to : ℕ) → to ≡ at + 8 → to ≡ at + length (tag_field tag)
tag-long at tag to e = e ∙ ap (λ (n : ℕ). at + n) (sym (digits_long 16 8 tag))

pub tag-room : (out : List ℕ) (at tag : ℕ) → at + length (tag_field tag) ≤ length out → at + 8 ≤ length out
tag-room out at tag h = rw (digits_long 16 8 tag) at h

pub ruleset fields_are = (chosen-long, chosen_at)

pub ruleset tags_are = (tags-long, tags-at, tag-long)

-- a field and its end are put
module _ (d : List ℕ) (at : ℕ) (f : List ℕ) (i n : ℕ) (room : at + length (ended f i n) ≤ length d) where
  pub ended-room : at + length f ≤ length d
  ended-room = let z = ended-long f i n in omega arith

  module _ (new : List ℕ) (to : ℕ) (p : new ≡ splice d at f) (e : to ≡ at + length f) where
    pub ended-kept : length new ≡ length d
    ended-kept = laid-long d new f at p ended-room

    pub ended-end : to < length new
    ended-end = let z = ended-long f i n in let l = ended-kept in omega arith

    pub ended-fits : length d < 2 ^ 64 → Fits w64 (to + 1)
    ended-fits l = record { fits = let z = ended-long f i n in omega arith }

    pub ended-put : (v : ℕ) → v ≡ cond (ltb (i + 1) n) 44 13 → set new to v ≡ splice d at (ended f i n)
    unfolding ended
    ended-put v w =
        let z = ended-long f i n in
        let l = ended-kept in
        splice-one new to v ended-end ∙ laid d new f (v ∷ []) at to p e (omega arith)
        ∙ ap (λ (x : ℕ). splice d at (f ++ (x ∷ []))) w

  pub ended_to : (to : ℕ) → to ≡ at + length f → to + 1 ≡ at + length (ended f i n)
  ended_to to e = let z = ended-long f i n in omega arith

pub ruleset ended_cases = (ended-room, ended-kept, ended-end, ended-fits, ended-put, ended_to)

-- the same where the place of the column is in hand
module _ (xs edges tags places : List ℕ) (d : List ℕ) (at i c : ℕ) (e : c ≡ get_or places i 0)
    (room : at + length (ended (field_at xs edges (get_or tags i 0) (get_or places i 0)) i (length tags)) ≤ length d) where
  chosen-ended-room : at + length (ended (field_at xs edges (get_or tags i 0) c) i (length tags)) ≤ length d
  chosen-ended-room = rw e room

  pub put-ended-room : at + length (field_at xs edges (get_or tags i 0) c) ≤ length d
  put-ended-room = ended-room d at (field_at xs edges (get_or tags i 0) c) i (length tags) chosen-ended-room

  module _ (new : List ℕ) (to : ℕ) (p : new ≡ splice d at (field_at xs edges (get_or tags i 0) c))
      (q : to ≡ at + length (field_at xs edges (get_or tags i 0) c)) where
    pub put-ended-kept : length new ≡ length d
    put-ended-kept = ended-kept d at (field_at xs edges (get_or tags i 0) c) i (length tags) chosen-ended-room new to p q

    pub put-ended-end : to < length new
    put-ended-end = ended-end d at (field_at xs edges (get_or tags i 0) c) i (length tags) chosen-ended-room new to p q

    pub put-ended-fits : length d < 2 ^ 64 → Fits w64 (to + 1)
    put-ended-fits l = ended-fits d at (field_at xs edges (get_or tags i 0) c) i
        (length tags) chosen-ended-room new to p q l

    pub put-ended-put : (v : ℕ) → v ≡ cond (ltb (i + 1) (length tags)) 44 13
        → set new to v ≡ splice d at (ended (field_at xs edges (get_or tags i 0) (get_or places i 0)) i (length tags))
    put-ended-put v w =
        ended-put d at (field_at xs edges (get_or tags i 0) c) i (length tags) chosen-ended-room new to p q v w
        ∙ ap (λ (x : ℕ). splice d at (ended (field_at xs edges (get_or tags i 0) x) i (length tags))) e

    pub put-ended-to : to + 1 ≡ at + length (ended (field_at xs edges (get_or tags i 0) (get_or places i 0)) i (length tags))
    put-ended-to =
        ended_to d at (field_at xs edges (get_or tags i 0) c) i (length tags) chosen-ended-room to q
        ∙ ap (λ (x : ℕ). at + length (ended (field_at xs edges (get_or tags i 0) x) i (length tags))) e

-- a turn of the loop over the chosen fields
module _ (xs edges tags places : List ℕ) (i k at : ℕ)
    (rest : k + length (line_of (drop i (chosen_fields xs edges tags places)))
    ≡ at + length (line_of (chosen_fields xs edges tags places)))
    (h : i < length tags) (to : ℕ)
    (e : to ≡ k + length (ended (field_at xs edges (get_or tags i 0) (get_or places i 0)) i (length tags))) where
  pub chosen-rest : to + length (line_of (drop (i + 1) (chosen_fields xs edges tags places)))
      ≡ at + length (line_of (chosen_fields xs edges tags places))
  chosen-rest = line-rest (chosen_fields xs edges tags places) i k at rest (length tags) h
      (chosen-long xs edges tags places) (field_at xs edges (get_or tags i 0) (get_or places i 0)) to e
      (field-at xs edges tags places i h)

  module _ (out d : List ℕ)
      (inv : splice out k (line_of (drop i (chosen_fields xs edges tags places)))
      ≡ splice d at (line_of (chosen_fields xs edges tags places)))
      (long : length out ≡ length d) (room : at + length (line_of (chosen_fields xs edges tags places)) ≤ length d)
      (new : List ℕ)
      (p : new ≡ splice out k (ended (field_at xs edges (get_or tags i 0) (get_or places i 0)) i (length tags))) where
    pub chosen-step : splice new to (line_of (drop (i + 1) (chosen_fields xs edges tags places)))
        ≡ splice d at (line_of (chosen_fields xs edges tags places))
    chosen-step = line_step (chosen_fields xs edges tags places) i k at out d inv rest long room (length tags) h
        (chosen-long xs edges tags places) new (field_at xs edges (get_or tags i 0) (get_or places i 0)) to p e
        (field-at xs edges tags places i h)

pub ruleset put_ended = (put-ended-room, put-ended-kept, put-ended-end, put-ended-fits, put-ended-put, put-ended-to)

pub tag-ended-room : (d : List ℕ) (at tag i n : ℕ) → at + length (ended (tag_field tag) i n) ≤ length d
    → at + 8 ≤ length d
tag-ended-room d at tag i n h = tag-room d at tag (ended-room d at (tag_field tag) i n h)
