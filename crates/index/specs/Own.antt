-- For an accepted book and an index made from it, the lookup through the index equals the full lookup, and the reader
-- gives the record's place: said once for both kinds, by the offset and the width.
use Prim.Native.Nat.{ℕ, ◌+◌, ◌*◌, ◌^◌, ◌≤◌, ◌<◌}
use Rattle.std.proofs.Common.{arith, sym, ap, ◌∙◌}
use Rattle.std.specs.Prelude.{Ok, ◌≡◌, ltb, take, drop, get_or}
use Rattle.std.proofs.Math.Path.{refl}
use Rattle.std.proofs.Math.Bool.{true}
use mathlib.Core.List.{List, [], ◌++◌, append_assoc}
use Rattle.std.proofs.Math.Dec.{eqb}
use Rattle.std.proofs.Math.ListN.{length}
use borrow.Author.Tests.{eq-eqb, eqb-true, lt-ltb, le-ltb, le-leb, leb-true}
use Rattle.octets.specs.Cases.{split}
use Rattle.octets.specs.Octets.{Octets, octets-drop}
use Rattle.octets.specs.Splice.{stored-in, splice-within}
use Rattle.octets.specs.Word.{le_of, word_of, word-any, word_back}
use Rattle.serial.specs.Serial.{serial_of}
use Rattle.answers.specs.Numbers.{wrong_serial, wrong_index, out_of_turn, no_room}
use Rattle.answers.specs.Made.{answered-done}
use Rattle.answers.specs.Verdict.{clear}
use Rattle.answers.specs.Verdict.{need, both, apart, met, unmet}
use Rattle.table.specs.Columns.{tags_of}
use Rattle.book.specs.Book.{Book, Sound, body_octets, book_octets, cols_in, count_in, judge}
use Rattle.book.specs.Read.{book_in, rows-count, book-reads}
use Rattle.book.specs.Whole.{body-in}
use Rattle.book.specs.Front.{through_tables, front_at, records_at, judge-tables, judge-front}
use Rattle.book.specs.Good.{good-keeps}
use Rattle.lookup.specs.Places.{place_of, place_in, place-in}
use Rattle.lookup.specs.Look.{column_in, look_in, lookup_of}
use Rattle.lookup.specs.Laws.{in-same}
use Rattle.lookup.specs.Placed.{placed_of}
use Rattle.lookup.specs.Back.{record-good}
use Rattle.lookup.specs.declared.Which.TheVariants.{Number}
use Rattle.index.specs.Index.{starts_offset, entry_width, old_offset, old_width, old_most, fields_of, entries_of}
use Rattle.index.specs.Index.{starts_of, index_by, index_of, old_index_of, make_at, make_answer, make_octets, serial_in}
use Rattle.index.specs.Index.{offset_in, width_by, kind_at, index_at, start_of, pair_at, entry_in, entry_of, record_look}
use Rattle.index.specs.Index.{indexed_of}
use Rattle.index.specs.Entries.{start_back, front_long, starts-count, start-in, index-long}

-- ---- the fields of an index

module _ (n l s offset : ℕ) (es : List ℕ) where
  field-count : n < 2 ^ 32 → word_of 4 (fields_of n l s offset ++ es) ≡ n
  unfolding fields_of
  field-count h = word_back 4 n h (le_of 4 l ++ (le_of 4 s ++ (le_of 4 offset ++ es)))

  field-length : l < 2 ^ 32 → word_of 4 (drop 4 (fields_of n l s offset ++ es)) ≡ l
  unfolding fields_of
  field-length h = word_back 4 l h (le_of 4 s ++ (le_of 4 offset ++ es))

  field-serial : s < 2 ^ 32 → word_of 4 (drop 8 (fields_of n l s offset ++ es)) ≡ s
  unfolding fields_of
  field-serial h = word_back 4 s h (le_of 4 offset ++ es)

  field-offset : offset < 2 ^ 32 → word_of 4 (drop 12 (fields_of n l s offset ++ es)) ≡ offset
  unfolding fields_of
  field-offset h = word_back 4 offset h es

  behind-fields : drop 16 (fields_of n l s offset ++ es) ≡ es
  unfolding fields_of
  behind-fields = refl

-- ---- an index that is the book's and whose entries are the records' places, whatever its kind

module _ (xs : List ℕ) (e : judge xs ≡ clear) (ix : List ℕ) (own : index_at xs ix ≡ clear)
    (starts : (k : ℕ) → k < count_in xs → start_of ix k ≡ place_in xs k) where
  tables-clear : through_tables xs ≡ clear
  tables-clear = (apart (through_tables xs) _ (sym (judge-tables xs) ∙ e)).0

  pair_is : (k : ℕ) → pair_at xs ix k ≡ need (ltb k (count_in xs)) out_of_turn 0
  unfolding pair_at
  pair_is k =
      let t = tables-clear in
      cc

  entry-clear : (k : ℕ) → k < count_in xs → entry_in xs (place_in xs k) ≡ clear
  entry-clear k h = met wrong_index 0 (lt-ltb (place_in xs k) (length xs) (record-good xs e k h).0)

  indexed-by : (k t : ℕ) → indexed_of xs ix k t ≡ lookup_of xs (Number k) t
  unfolding indexed_of record_look lookup_of look_in
  indexed-by k t =
      split k (count_in xs)
      (λ h. rw (pair_is k, starts k h, e, lt-ltb k (count_in xs) h)
      (in-same (column_in t (tags_of (cols_in (drop 12 xs)))) _ _
      (λ c z. rw (entry-clear k h, (record-good xs e k h).1))))
      (λ h. rw (pair_is k, e, le-ltb k (count_in xs) h))

  entry-by : (k : ℕ) → entry_of xs ix k ≡ placed_of xs (Number k)
  unfolding entry_of placed_of
  entry-by k =
      split k (count_in xs)
      (λ h. rw (pair_is k, starts k h, entry-clear k h, e, lt-ltb k (count_in xs) h))
      (λ h. rw (pair_is k, e, le-ltb k (count_in xs) h))

-- ---- what stands in a book's octets is what the table has

serial-clear : (xs : List ℕ) → judge xs ≡ clear → serial_in xs ≡ serial_of (drop 12 xs)
serial-clear xs e =
    let c₁ = apart (front_at xs) _ (sym (judge-front xs) ∙ e) in
    let c₂ = apart (records_at xs) _ c₁.1 in
    eqb-true _ _ (unmet _ wrong_serial 4 c₂.1)

module _ (xs : List ℕ) (b : Book) (s : Sound b) (reads : xs ≡ book_octets b) where
  serial-stands : judge xs ≡ clear → serial_of (body_octets b) ≡ serial_in xs
  serial-stands e =
      let d : drop 12 xs ≡ body_octets b = ap (drop 12) reads ∙ body-in b s in
      ap serial_of (sym d) ∙ sym (serial-clear xs e)

  place-stands : (k : ℕ) → k ≤ length b.rows → place_of b k ≡ place_in xs k
  place-stands k h = rw reads (sym (place-in b s k h))

-- ---- an index that was made from an accepted book, of either kind

module _ (xs : List ℕ) (o : Octets xs) (e : judge xs ≡ clear) where
  abbrev b : Book
  b = book_in xs

  good : Sound b × (xs ≡ book_octets b)
  good = book-reads xs o e

  pub own-place : (k : ℕ) → k < count_in xs → place_of b k ≡ place_in xs k
  own-place k h = let n = rows-count xs in place-stands xs b good.0 good.1 k (omega arith)

  module _ (offset w : ℕ) (more : List ℕ) (behind : 16 + length more ≡ offset) (small : offset < 2 ^ 32) where
    abbrev ix : List ℕ
    ix = index_by offset w more b

    abbrev rest : List ℕ
    rest = more ++ entries_of w (starts_of b)

    -- its fields are those that stand in the book
    pub own_is : ix ≡ (fields_of (count_in xs) (length xs) (serial_in xs) offset ++ more) ++ entries_of w (starts_of b)
    unfolding index_by
    own_is = rw (rows-count xs, ← good.1, serial-stands xs b good.0 good.1 e)

    own-fields : ix ≡ fields_of (count_in xs) (length xs) (serial_in xs) offset ++ rest
    own-fields = own_is ∙ append_assoc (fields_of (count_in xs) (length xs) (serial_in xs) offset) more _

    own-offset : offset_in ix ≡ offset
    own-offset = rw own-fields (field-offset (count_in xs) (length xs) (serial_in xs) offset rest small)

    -- what stands behind its first four fields
    own_behind : drop 16 ix ≡ rest
    own_behind = rw own-fields (behind-fields (count_in xs) (length xs) (serial_in xs) offset rest)

    pub own-long : length ix ≡ offset + w * count_in xs
    own-long = index-long offset w more b behind ∙ ap (λ (n : ℕ). offset + w * n) (rows-count xs)

    module _ (width : width_by offset ≡ w) (kind : kind_at xs ix ≡ clear) (reach : length xs ≤ 256 ^ w) where
      -- it is that book's
      pub own-index : index_at xs ix ≡ clear
      unfolding index_at
      own-index =
          let k = good-keeps xs e in
          let n : ℕ = count_in xs in
          let l : ℕ = length xs in
          let s : ℕ = serial_in xs in
          let c : word_of 4 ix ≡ n = rw own-fields (field-count n l s offset rest (omega (arith, k.1))) in
          let m : word_of 4 (drop 4 ix) ≡ l =
          rw own-fields (field-length n l s offset rest (omega (arith, k.0))) in
          let r : word_of 4 (drop 8 ix) ≡ s =
          rw own-fields (field-serial n l s offset rest (word-any 4 (drop 4 xs) (octets-drop 4 xs o))) in
          let z : length ix ≡ offset_in ix + width_by (offset_in ix) * n = rw (own-offset, width) own-long in
          both kind
          (both (met wrong_index 0 (eq-eqb _ n c))
          (both (met wrong_index 0 (eq-eqb _ l m))
          (both (met wrong_index 0 (eq-eqb _ s r))
          (met wrong_index 0 (eq-eqb _ _ z)))))

      -- its entry k is where record k starts
      pub own-start : (k : ℕ) → k < count_in xs → start_of ix k ≡ place_in xs k
      own-start k h =
          let n = rows-count xs in
          let m = starts-count b in
          let p = start-in b k (omega arith) in
          let q = own-place k h in
          let g = (record-good xs e k h).0 in
          let f = front_long (count_in xs) (length xs) (serial_in xs) offset more in
          rw (own-offset, width) (rw own_is
          (start_back offset w (fields_of (count_in xs) (length xs) (serial_in xs) offset ++ more) (starts_of b) k
          (f ∙ behind) (omega arith) (less (256 ^ w) (omega arith) reach) ∙ p ∙ q))
        where
          less : (t : ℕ) → get_or (starts_of b) k 0 < length xs → length xs ≤ t → get_or (starts_of b) k 0 < t
          less t g r = omega arith

      pub indexed-own : (k t : ℕ) → indexed_of xs ix k t ≡ lookup_of xs (Number k) t
      indexed-own = indexed-by xs e ix own-index own-start

      pub entry-own : (k : ℕ) → entry_of xs ix k ≡ placed_of xs (Number k)
      entry-own = entry-by xs e ix own-index own-start

  -- ---- the kind that is made

  new-kind : kind_at xs (index_of b) ≡ clear
  unfolding kind_at
  new-kind =
      let f : offset_in (index_of b) ≡ starts_offset =
      own-offset starts_offset entry_width (le_of 4 entry_width) refl (omega arith) in
      let r : word_of 4 (drop 16 (index_of b)) ≡ entry_width =
      rw (own_behind starts_offset entry_width (le_of 4 entry_width) refl (omega arith))
      (word_back 4 entry_width (omega arith) (entries_of entry_width (starts_of b))) in
      rw (f, r)

  new-reach : length xs ≤ 256 ^ entry_width
  new-reach = let k = good-keeps xs e in omega (arith, k.0)

  -- The lookup through the book's own index is the full lookup.
  pub indexed-is : (k t : ℕ) → indexed_of xs (index_of b) k t ≡ lookup_of xs (Number k) t
  indexed-is =
      indexed-own starts_offset entry_width (le_of 4 entry_width) refl (omega arith) refl new-kind new-reach

  -- And the reader gives the place of the record.
  pub entry-is : (k : ℕ) → entry_of xs (index_of b) k ≡ placed_of xs (Number k)
  entry-is = entry-own starts_offset entry_width (le_of 4 entry_width) refl (omega arith) refl new-kind new-reach

  -- ---- the old kind, beside a book that it is for

  module _ (short : length xs ≤ old_most) where
    old-kind : kind_at xs (old_index_of b) ≡ clear
    unfolding kind_at
    old-kind =
        let f : eqb (offset_in (old_index_of b)) old_offset ≡ true =
        eq-eqb _ _ (own-offset old_offset old_width [] refl (omega arith)) in
        let g = met wrong_index 0 (le-leb (length xs) old_most short) in
        cc

    -- An old index of the book answers as the full lookup does.
    pub old-indexed-is : (k t : ℕ) → indexed_of xs (old_index_of b) k t ≡ lookup_of xs (Number k) t
    old-indexed-is = indexed-own old_offset old_width [] refl (omega arith) refl old-kind short

    pub old-entry-is : (k : ℕ) → entry_of xs (old_index_of b) k ≡ placed_of xs (Number k)
    old-entry-is = entry-own old_offset old_width [] refl (omega arith) refl old-kind short

-- What the maker leaves in the front of the buffer, as long as it answers, is the book's index.
pub make-reads : (xs d : List ℕ) (n : ℕ) → make_answer xs d ≡ Ok n
    → (judge xs ≡ clear) × (take n (make_octets xs d) ≡ index_of (book_in xs))
unfolding make_answer make_octets make_at
make-reads xs d n a =
    let ix : List ℕ = index_of (book_in xs) in
    let c = answered-done (make_at xs d) (length ix) n a in
    let v = apart (judge xs) _ c.0 in
    let l = leb-true (length ix) (length d) (unmet _ no_room 0 v.1) in
    (v.0, rw (c.0, ← c.1, stored-in d 0 ix (omega arith)) (splice-within d 0 ix (omega arith)))
