-- A value set or cleared where the book stands: three parts of the octets are replaced (the value, the presence octets, the record's size), count and serial
-- worked out again. For a record and for the header record.
use Rattle.std.specs.Prelude.{ℕ, suc, ◌+◌, ◌-◌, ◌≤◌, ◌<◌, ◌≡◌, refl, true, false, List, [], ◌∷◌, ◌++◌, length, take, drop, set}
use Rattle.std.proofs.Common.{arith, sym, ap, ap₂, ◌∙◌, append_assoc, length-append, length-set, take-append-drop, take_at, length-take-le}
use Rattle.std.proofs.Math.Option.{Option}
use Rattle.std.proofs.Math.Seq.{drop-append-add, drop-append_seam}
use Rattle.octets.specs.Word.{le_of}
use Rattle.presence.specs.Presence.{room}
use Rattle.entry.specs.Present.{Row, presence_of, presence-length}
use Rattle.entry.specs.Record.{values_of, row_octets, row-length, row-long}
use Rattle.book.specs.Rows.{rows_octets}
use Rattle.book.specs.Book.{Book, Sound, slots-long, head_slots, row_slots, sealed, tables_octets, body_octets, book_octets}
use Rattle.lookup.specs.Places.{front_octets, place_of, row_at, sound-at, record-from, head-from}
use Rattle.entry.specs.Values.{value_offset}
use Rattle.entry.specs.Values.{entry_octets}
use Rattle.lookup.specs.Laws.{value_place}
use Rattle.editing.specs.Put.{put, resealed, mark, spliced}
use Rattle.editing.specs.Edit.{edit, place-next, rows-measured, book-length, book-replaced, sealed-put}
use Rattle.editing.specs.Entry.{entry_at, values-cut, values-here, presence-put, framed, row-framed}

-- ---- parts of a list replaced

put-at : (x y : ℕ) (a o n r : List ℕ) → length a ≡ x → x + length o ≡ y → put x y n (a ++ (o ++ r)) ≡ a ++ (n ++ r)
put-at x y a o n r h k =
    ap₂ (λ (s t : List ℕ). s ++ (n ++ t)) (take_at a (o ++ r) x h)
    (ap (λ (z : ℕ). drop z (a ++ (o ++ r))) (sym k ∙ ap (λ (z : ℕ). z + length o) (sym h)) ∙ drop-append-add a (o ++ r) (length o) ∙ drop-append_seam o r)

-- the octets A S P U O Q, where S, P and O are replaced by S', P' and N
module _ (at s p u o : ℕ) (A S P U O Q S' P' N : List ℕ) (ha : length A ≡ at) (hs : length S ≡ s) (hp : length P ≡ p) (hu : length U ≡ u) (ho : length O ≡ o) where
  value-part : put (at + s + p + u) (at + s + p + u + o) N (A ++ (S ++ (P ++ (U ++ (O ++ Q))))) ≡ A ++ (S ++ (P ++ (U ++ (N ++ Q))))
  value-part =
      let f : List ℕ = A ++ (S ++ (P ++ U)) in
      let l : length f ≡ at + s + p + u = simp length-append (omega arith) in
      let e : f ++ (O ++ Q) ≡ A ++ (S ++ (P ++ (U ++ (O ++ Q)))) = simp append_assoc in
      let g : f ++ (N ++ Q) ≡ A ++ (S ++ (P ++ (U ++ (N ++ Q)))) = simp append_assoc in
      ap (put (at + s + p + u) (at + s + p + u + o) N) (sym e) ∙ put-at (at + s + p + u) (at + s + p + u + o) f O N Q l (omega arith) ∙ g

  bits-part : put (at + s) (at + s + p) P' (A ++ (S ++ (P ++ (U ++ (N ++ Q))))) ≡ A ++ (S ++ (P' ++ (U ++ (N ++ Q))))
  bits-part =
      let f : List ℕ = A ++ S in
      let l : length f ≡ at + s = simp length-append (omega arith) in
      let e : f ++ (P ++ (U ++ (N ++ Q))) ≡ A ++ (S ++ (P ++ (U ++ (N ++ Q)))) = append_assoc A S (P ++ (U ++ (N ++ Q))) in
      let g : f ++ (P' ++ (U ++ (N ++ Q))) ≡ A ++ (S ++ (P' ++ (U ++ (N ++ Q)))) = append_assoc A S (P' ++ (U ++ (N ++ Q))) in
      ap (put (at + s) (at + s + p) P') (sym e) ∙ put-at (at + s) (at + s + p) f P P' (U ++ (N ++ Q)) l (omega arith) ∙ g

  size-part : put at (at + s) S' (A ++ (S ++ (P' ++ (U ++ (N ++ Q))))) ≡ A ++ (S' ++ (P' ++ (U ++ (N ++ Q))))
  size-part = put-at at (at + s) A S S' (P' ++ (U ++ (N ++ Q))) ha (omega arith)

  three-parts : put at (at + s) S' (put (at + s) (at + s + p) P' (put (at + s + p + u) (at + s + p + u + o) N (A ++ (S ++ (P ++ (U ++ (O ++ Q))))))) ≡ A ++ (S' ++ (P' ++ (U ++ (N ++ Q))))
  three-parts = ap (put at (at + s) S') (ap (put (at + s) (at + s + p) P') value-part ∙ bits-part) ∙ size-part

-- ---- a record

-- the size of the record with the entry of column i become e
abbrev pub new_size : Row → ℕ → Option (List ℕ) → ℕ
new_size es i e = length (row_octets es) + length (entry_octets e) - length (entry_octets (entry_at es i))

pub row-lengthened : (es : Row) (e : Option (List ℕ)) (i : ℕ) → i < length es
    → length (row_octets (set es i e)) + length (entry_octets (entry_at es i)) ≡ length (row_octets es) + length (entry_octets e)
row-lengthened es e i h =
    let a = presence-length es in
    let b = presence-length (set es i e) in
    let c = ap room (length-set es i e) in
    let d = length-append (presence_of es) (values_of es) in
    let f = ap length (values-here i es h) ∙ length-append (values_of (take i es)) (entry_octets (entry_at es i) ++ values_of (drop (suc i) es)) in
    let g = length-append (entry_octets (entry_at es i)) (values_of (drop (suc i) es)) in
    let j = ap length (values-cut e i es h) ∙ length-append (values_of (take i es)) (entry_octets e ++ values_of (drop (suc i) es)) in
    let k = length-append (entry_octets e) (values_of (drop (suc i) es)) in
    let l = length-append (presence_of (set es i e)) (values_of (set es i e)) in
    let m = row-length es in
    let n = row-length (set es i e) in
    omega arith

row_cut : (es : Row) (e : Option (List ℕ)) (i : ℕ) → i < length es
    → row_octets (set es i e) ≡ le_of 4 (new_size es i e) ++ (mark e (presence_of es) i ++ (values_of (take i es) ++ (entry_octets e ++ values_of (drop (suc i) es))))
unfolding framed
row_cut es e i h =
    let l = row-lengthened es e i h in
    let n = row-length (set es i e) in
    let z : 4 + length (presence_of (set es i e) ++ values_of (set es i e)) ≡ new_size es i e = omega arith in
    row-framed (set es i e) ∙ ap₂ (λ (n : ℕ) (l : List ℕ). le_of 4 n ++ l) z (ap₂ (λ (x y : List ℕ). x ++ y) (presence-put e i es h) (values-cut e i es h))

row_here : (es : Row) (i : ℕ) → i < length es
    → row_octets es ≡ le_of 4 (length (row_octets es)) ++ (presence_of es ++ (values_of (take i es) ++ (entry_octets (entry_at es i) ++ values_of (drop (suc i) es))))
unfolding framed
row_here es i h =
    row-framed es ∙ ap₂ (λ (n : ℕ) (l : List ℕ). le_of 4 n ++ l) (sym (row-length es)) (ap (λ (l : List ℕ). presence_of es ++ l) (values-here i es h))

-- the record stands between A and R
row-spliced : (at n i : ℕ) (e : Option (List ℕ)) (es : Row) (A R : List ℕ) → length A ≡ at → length es ≡ n → i < n
    → spliced at n i (value_place at n i es) (length (entry_octets (entry_at es i))) (new_size es i e) e (presence_of es) (A ++ (row_octets es ++ R)) ≡ A ++ (row_octets (set es i e) ++ R)
unfolding spliced
row-spliced at n i e es A R ha hn h =
    let U : List ℕ = values_of (take i es) in
    let O : List ℕ = entry_octets (entry_at es i) in
    let W : List ℕ = values_of (drop (suc i) es) in
    let P : List ℕ = presence_of es in
    let P' : List ℕ = mark e P i in
    let N : List ℕ = entry_octets e in
    let S : List ℕ = le_of 4 (length (row_octets es)) in
    let S' : List ℕ = le_of 4 (new_size es i e) in
    let l : i < length es = rw hn h in
    let old : A ++ (row_octets es ++ R) ≡ A ++ (S ++ (P ++ (U ++ (O ++ (W ++ R))))) = ap (λ (r : List ℕ). A ++ (r ++ R)) (row_here es i l) ∙ regroup A S P U O W R in
    let new : A ++ (row_octets (set es i e) ++ R) ≡ A ++ (S' ++ (P' ++ (U ++ (N ++ (W ++ R))))) = ap (λ (r : List ℕ). A ++ (r ++ R)) (row_cut es e i l) ∙ regroup A S' P' U N W R in
    ap (spliced' P' N) old ∙ three-parts at 4 (room n) (length U) (length O) A S P U O (W ++ R) S' P' N ha refl (presence-length es ∙ ap room hn) refl refl ∙ sym new
  where
    regroup : (a s p u o w r : List ℕ) → a ++ ((s ++ (p ++ (u ++ (o ++ w)))) ++ r) ≡ a ++ (s ++ (p ++ (u ++ (o ++ (w ++ r)))))
    regroup a s p u o w r = simp append_assoc

    spliced' : List ℕ → List ℕ → List ℕ → List ℕ
    spliced' p' m xs =
        put at (at + 4) (le_of 4 (new_size es i e)) (put (at + 4) (at + 4 + room n) p' (put (at + 4 + room n + value_offset i es) (at + 4 + room n + value_offset i es + length (entry_octets (entry_at es i))) m xs))

-- ---- the book

place-within : (b : Book) (k : ℕ) → place_of b k ≤ length (book_octets b)
unfolding place_of
place-within b k =
    let l = book-length b in
    let m = rows-measured k b.rows in
    omega arith

-- xs around what stands at `at`
around : (at : ℕ) (xs ys : List ℕ) → at ≤ length xs → drop at xs ≡ ys → (xs ≡ take at xs ++ ys) × (length (take at xs) ≡ at)
around at xs ys h e = (sym (take-append-drop at xs) ∙ ap (λ (l : List ℕ). take at xs ++ l) e, length-take-le at xs h)

-- THE law of setting or clearing the value of column i in record k
pub book-set : (b : Book) → Sound b → (k i : ℕ) (e : Option (List ℕ)) → k < length b.rows → i < length b.cols
    → let es : Row = row_at b k in let n : ℕ = length b.cols in let at : ℕ = place_of b k in
    book_octets (edit k 1 (set es i e ∷ []) b)
    ≡ resealed (length b.rows) (spliced at n i (value_place at n i es) (length (entry_octets (entry_at es i))) (new_size es i e) e (presence_of es) (book_octets b))
book-set b s k i e h l =
    let es : Row = row_at b k in
    let n : ℕ = length b.cols in
    let at : ℕ = place_of b k in
    let xs : List ℕ = book_octets b in
    let R : List ℕ = rows_octets (drop (suc k) b.rows) in
    let A : List ℕ = take at xs in
    let a = around at xs (row_octets es ++ R) (place-within b k) (record-from b k h) in
    let m : length es ≡ n = row-long (row_slots b.cols) es (sound-at (row_slots b.cols) b.rows k s.rows h) ∙ slots-long true b.cols in
    let new : List ℕ = row_octets (set es i e) in
    let f : List ℕ → List ℕ = spliced at n i (value_place at n i es) (length (entry_octets (entry_at es i))) (new_size es i e) e (presence_of es) in
    book-replaced k (set es i e) b h
    ∙ ap (resealed (length b.rows))
    (ap (put at (place_of b (k + 1)) new) a.0 ∙ put-at at (place_of b (k + 1)) A (row_octets es) new R a.1 (sym (place-next b k h))
    ∙ sym (ap f a.0 ∙ row-spliced at n i e es A R a.1 m l))

-- ---- the header record

-- the book with another header record
unfoldable pub headed : Row → Book → Book
headed r b = record { heads = b.heads; cols = b.cols; head = r; rows = b.rows }

abbrev pub head_place : Book → ℕ
head_place b = 12 + length (tables_octets b.heads b.cols)

pub book-headed : (r : Row) (b : Book)
    → book_octets (headed r b) ≡ resealed (length b.rows) (put (head_place b) (head_place b + length (row_octets b.head)) (row_octets r) (book_octets b))
unfolding headed book_octets body_octets resealed
book-headed r b =
    let T : List ℕ = tables_octets b.heads b.cols in
    let n : ℕ = length b.rows in
    let z : 12 + length T + length (row_octets b.head) ≡ 12 + (length T + length (row_octets b.head)) = omega arith in
    ap (sealed n)
    (sym (put-at (length T) (length T + length (row_octets b.head)) T (row_octets b.head) (row_octets r) (rows_octets b.rows) refl refl)
    ∙ sym (sealed-put n (length T) (length T + length (row_octets b.head)) (row_octets r) (body_octets b))
    ∙ ap (λ (y : ℕ). drop 12 (put (12 + length T) y (row_octets r) (sealed n (body_octets b)))) (sym z))

pub headed-length : (r : Row) (b : Book) → length (book_octets (headed r b)) + length (row_octets b.head) ≡ length (book_octets b) + length (row_octets r)
unfolding headed front_octets
headed-length r b =
    let T : List ℕ = tables_octets b.heads b.cols in
    let a = book-length (headed r b) in
    let c = book-length b in
    let l = length-append T (row_octets r) in
    let m = length-append T (row_octets b.head) in
    omega arith

head-within : (b : Book) → head_place b ≤ length (book_octets b)
unfolding front_octets
head-within b =
    let l = book-length b in
    let m = length-append (tables_octets b.heads b.cols) (row_octets b.head) in
    omega arith

-- THE law of setting or clearing the value of column i in the header record
pub head-set : (b : Book) → Sound b → (i : ℕ) (e : Option (List ℕ)) → i < length b.heads
    → let es : Row = b.head in let n : ℕ = length b.heads in let at : ℕ = head_place b in
    book_octets (headed (set es i e) b)
    ≡ resealed (length b.rows) (spliced at n i (value_place at n i es) (length (entry_octets (entry_at es i))) (new_size es i e) e (presence_of es) (book_octets b))
head-set b s i e l =
    let es : Row = b.head in
    let n : ℕ = length b.heads in
    let at : ℕ = head_place b in
    let xs : List ℕ = book_octets b in
    let R : List ℕ = rows_octets b.rows in
    let A : List ℕ = take at xs in
    let a = around at xs (row_octets es ++ R) (head-within b) (head-from b) in
    let m : length es ≡ n = row-long (head_slots b.heads) es s.head ∙ slots-long false b.heads in
    let new : List ℕ = row_octets (set es i e) in
    let f : List ℕ → List ℕ = spliced at n i (value_place at n i es) (length (entry_octets (entry_at es i))) (new_size es i e) e (presence_of es) in
    book-headed (set es i e) b
    ∙ ap (resealed (length b.rows))
    (ap (put at (at + length (row_octets es)) new) a.0 ∙ put-at at (at + length (row_octets es)) A (row_octets es) new R a.1 refl
    ∙ sym (ap f a.0 ∙ row-spliced at n i e es A R a.1 m l))
