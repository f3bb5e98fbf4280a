-- The records of a book that is judged good stand in it, where one walks to them.
use Rattle.std.specs.Prelude.{ℕ, zero, suc, ◌+◌, ◌-◌, ◌≤◌, ◌<◌, ◌≡◌, refl, List, ltb, leb, length, drop}
use Rattle.std.proofs.Common.{arith, add-one, length-drop, drop-drop, leb-true, ltb-true}
use Rattle.octets.specs.Word.{word_of}
use Rattle.answers.specs.Numbers.{cut_short, wrong_size, wrong_count}
use Rattle.answers.specs.Verdict.{clear}
use Rattle.answers.specs.Verdict.{need, apart, unmet}
use Rattle.presence.specs.Presence.{room}
use Rattle.entry.specs.Record.{Slot, record_at}
use Rattle.book.specs.Rows.{due_at, records_from}
use Rattle.book.specs.Book.{head_slots, row_slots, heads_in, cols_in, records_place, count_in, judge}
use Rattle.book.specs.JudgeCases.{records-place}
use Rattle.book.specs.Front.{first_place}
use Rattle.book.specs.FrontCases.{first-place, first-whole}
use Rattle.lookup.specs.Places.{walk_to, place_in}
use Rattle.lookup.specs.Cases.{walk-place}
use Rattle.lookup.specs.PlaceCases.{walk_more}
use Rattle.lookup.specs.Back.{records-clear}

-- a record of n columns stands at `at` of b: its size field and presence octets, up to where its size says
pub record Stands (n at : ℕ) (b : List ℕ) : Type 0 where
  pub behind : 12 ≤ at
  pub head : 4 + room n ≤ word_of 4 (drop at b)
  pub whole : at + word_of 4 (drop at b) ≤ length b

due-stands : (ss : List Slot) (at : ℕ) (b : List ℕ) → 12 ≤ at → due_at ss at (drop at b) ≡ clear → Stands (length ss) at b
unfolding due_at record_at
due-stands ss at b h e =
    let xs : List ℕ = drop at b in
    let c₁ = apart (need (ltb 0 (length xs)) wrong_count 8) _ e in
    let c₂ = apart (need (leb 4 (length xs)) cut_short at) _ c₁.1 in
    let c₃ = apart (need (leb (4 + room (length ss)) (word_of 4 xs)) wrong_size at) _ c₂.1 in
    let c₄ = apart (need (leb (word_of 4 xs) (length xs)) wrong_size at) _ c₃.1 in
    let l = ltb-true 0 (length xs) (unmet _ wrong_count 8 c₁.0) in
    let m = leb-true (word_of 4 xs) (length xs) (unmet _ wrong_size at c₄.0) in
    let d : length xs ≡ length b - at = length-drop at b in
    record { behind = h; head = leb-true (4 + room (length ss)) (word_of 4 xs) (unmet _ wrong_size at c₃.0); whole = omega arith }

-- ---- records one behind the other

walk-due : (k n : ℕ) (ss : List Slot) (at : ℕ) (b : List ℕ) → records_from n ss at (drop at b) ≡ clear → k < n
    → due_at ss (walk_to k at (drop at b)) (drop (walk_to k at (drop at b)) b) ≡ clear
unfolding records_from walk_to
walk-due k zero ss at b e h = absurd (omega arith)
walk-due zero (suc n) ss at b e h = (apart (due_at ss at (drop at b)) _ e).0
walk-due (suc k) (suc n) ss at b e h =
    let w : ℕ = word_of 4 (drop at b) in
    let d : drop w (drop at b) ≡ drop (at + w) b = drop-drop w at b in
    let r = rw d at (apart (due_at ss at (drop at b)) _ e).1 in
    rw d (walk-due k n ss (at + w) b r (omega arith))

walk-in : (k n : ℕ) (ss : List Slot) (at : ℕ) (b : List ℕ) → 12 ≤ at → at ≤ length b → records_from n ss at (drop at b) ≡ clear → k ≤ n
    → (at ≤ walk_to k at (drop at b)) × (walk_to k at (drop at b) ≤ length b)
unfolding records_from walk_to
walk-in zero n ss at b o l e h = (omega arith, l)
walk-in (suc k) zero ss at b o l e h = absurd (omega arith)
walk-in (suc k) (suc n) ss at b o l e h =
    let w : ℕ = word_of 4 (drop at b) in
    let d : drop w (drop at b) ≡ drop (at + w) b = drop-drop w at b in
    let c = apart (due_at ss at (drop at b)) _ e in
    let s = due-stands ss at b o c.0 in
    let i = walk-in k n ss (at + w) b (omega arith) s.whole (rw d at c.1) (omega arith) in
    rw d (omega (arith, i.0), i.1)

-- ---- in a book

module _ (b : List ℕ) where
  abbrev first : ℕ
  first = first_place b

  -- the next record stands behind this one
  pub place-next : (k : ℕ) → place_in b (k + 1) ≡ place_in b k + word_of 4 (drop (place_in b k) b)
  place-next k = rw (add-one k, ← walk-place b (suc k) first refl, ← walk-place b k first refl) (walk_more k first b)

  module _ (e : judge b ≡ clear) where
    rows-clear : records_from (count_in b) (row_slots (cols_in (drop 12 b))) first (drop first b) ≡ clear
    rows-clear = rw (first-place b) (records-clear b e).1

    pub header-stands : Stands (length (head_slots (heads_in (drop 12 b)))) (records_place (drop 12 b)) b
    header-stands = due-stands (head_slots (heads_in (drop 12 b))) (records_place (drop 12 b)) b (omega arith) (rw (records-place b) (records-clear b e).0)

    pub place-stands : (k : ℕ) → k ≤ count_in b → (12 ≤ place_in b k) × (place_in b k ≤ length b)
    place-stands k h =
        let w = walk-in k (count_in b) (row_slots (cols_in (drop 12 b))) first b (omega arith) (first-whole b e) rows-clear h in
        rw (← walk-place b k first refl) (omega (arith, w.0), w.1)

    pub number-stands : (k : ℕ) → k < count_in b → Stands (length (row_slots (cols_in (drop 12 b)))) (place_in b k) b
    number-stands k h =
        let d = walk-due k (count_in b) (row_slots (cols_in (drop 12 b))) first b rows-clear h in
        due-stands (row_slots (cols_in (drop 12 b))) (place_in b k) b (place-stands k (omega arith)).0 (rw (walk-place b k first refl) at d)
