-- With one index the answer is the same for two books of one length that agree in the header, the metadata and the
-- record found: nothing else is read.
use Rattle.std.specs.Prelude.{ℕ, ◌+◌, ◌≤◌, ◌≡◌, take, drop}
use Rattle.std.proofs.Common.{arith, sym, ap, ◌∙◌}
use mathlib.Core.List.{List}
use Rattle.std.proofs.Math.ListN.{length, length-drop}
use borrow.Author.Tests.{lt-leb}
use Rattle.octets.specs.Cases.{split}
use Rattle.octets.specs.Word.{word_of}
use Rattle.presence.specs.Presence.{room}
use Rattle.table.specs.Columns.{tags_of}
use Rattle.entry.specs.Record.{Slot, record_at, present_in, values_in}
use Rattle.book.specs.Book.{row_slots, cols_in, records_place}
use Rattle.lookup.specs.Look.{seek_in, column_in, look_by}
use Rattle.lookup.specs.Laws.{in-same}
use Rattle.index.specs.Index.{kind_at, index_at, start_of, pair_at, entry_of, record_look, indexed_of}
use Rattle.index.specs.Alike.{Alike, alike-less, alike-drop, alike-word, cols-alike, number-alike, serial-alike}
use Rattle.index.specs.Alike.{tables-through}

-- ---- a record

-- the size field of the record at `at`, and as many octets from there as it says
pub record SameRecord (at : ℕ) (xs ys : List ℕ) : Type 0 where
  pub size : take 4 (drop at xs) ≡ take 4 (drop at ys)
  pub octets : take (word_of 4 (drop at xs)) (drop at xs) ≡ take (word_of 4 (drop at xs)) (drop at ys)

module _ (ss : List Slot) (at : ℕ) (xs ys : List ℕ) (a : Alike 4 xs ys) (b : Alike (word_of 4 xs) xs ys) where
  abbrev w : ℕ
  w = word_of 4 xs

  size-alike : word_of 4 ys ≡ w
  size-alike = sym (alike-word 4 4 xs ys (omega arith) a)

  values-alike : values_in (length ss) xs ≡ values_in (length ss) ys
  values-alike = ap (drop (4 + room (length ss))) (b.same ∙ ap (λ (n : ℕ). take n ys) (sym size-alike))

  present-alike : 4 + room (length ss) ≤ w → present_in (length ss) xs ≡ present_in (length ss) ys
  present-alike h = (alike-drop 4 (room (length ss)) xs ys (alike-less (4 + room (length ss)) w xs ys h b)).same

  record-alike : record_at ss at xs ≡ record_at ss at ys
  unfolding record_at
  record-alike =
      split w (4 + room (length ss))
      (λ h. rw (a.long, size-alike, lt-leb (4 + room (length ss)) w h))
      (λ h. rw (a.long, present-alike h, values-alike, size-alike))

  seek-alike : (c : ℕ) → seek_in ss c at xs ≡ seek_in ss c at ys
  unfolding seek_in
  seek-alike c =
      split w (4 + room (length ss))
      (λ h. rw (size-alike, lt-leb (4 + room (length ss)) w h))
      (λ h. rw (a.long, present-alike h, values-alike, size-alike))

-- ---- the answer

-- one length, the same header and metadata, as far as its counts reach, and the same record at `at`
pub record Agree (at : ℕ) (xs ys : List ℕ) : Type 0 where
  pub long : length xs ≡ length ys
  pub front : take (records_place (drop 12 xs)) xs ≡ take (records_place (drop 12 xs)) ys
  pub found : SameRecord at xs ys

module _ (xs ys : List ℕ) (long : length xs ≡ length ys)
    (front : take (records_place (drop 12 xs)) xs ≡ take (records_place (drop 12 xs)) ys) where
  both-fronts : Alike (records_place (drop 12 xs)) xs ys
  both-fronts = record { long = long; same = front }

  pair-alike : (ix : List ℕ) (k : ℕ) → pair_at xs ix k ≡ pair_at ys ix k
  unfolding pair_at index_at kind_at
  pair-alike ix k =
      let t = tables-through xs ys both-fronts in
      let n = number-alike xs ys both-fronts in
      let s = serial-alike xs ys both-fronts in
      cc

  -- The reader's answer doesn't depend on any record.
  pub entry-local : (ix : List ℕ) (k : ℕ) → entry_of xs ix k ≡ entry_of ys ix k
  unfolding entry_of
  entry-local ix k = rw (pair-alike ix k, long)

  look-alike : (at c : ℕ) → SameRecord at xs ys
      → record_look (row_slots (cols_in (drop 12 ys))) xs at c ≡ record_look (row_slots (cols_in (drop 12 ys))) ys at c
  unfolding record_look
  look-alike at c g =
      let ss : List Slot = row_slots (cols_in (drop 12 ys)) in
      let d : length (drop at xs) ≡ length (drop at ys) = rw (length-drop at xs, length-drop at ys, long) in
      let a : Alike 4 (drop at xs) (drop at ys) = record { long = d; same = g.size } in
      let b : Alike (word_of 4 (drop at xs)) (drop at xs) (drop at ys) = record { long = d; same = g.octets } in
      rw (long, record-alike ss at (drop at xs) (drop at ys) a b, seek-alike ss at (drop at xs) (drop at ys) a b c)

pub indexed-local : (xs ys ix : List ℕ) (k t : ℕ) → Agree (start_of ix k) xs ys
    → indexed_of xs ix k t ≡ indexed_of ys ix k t
unfolding indexed_of
indexed-local xs ys ix k t g =
    let f = both-fronts xs ys g.long g.front in
    rw (pair-alike xs ys g.long g.front ix k, cols-alike xs ys f)
    (ap (look_by (pair_at ys ix k))
    (in-same (column_in t (tags_of (cols_in (drop 12 ys)))) _ _
    (λ c z. look-alike xs ys g.long g.front (start_of ix k) c g.found)))
