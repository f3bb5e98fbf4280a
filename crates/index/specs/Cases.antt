-- The ways of the code that reads an index and looks up through it, on plain values.
use Rattle.std.specs.Prelude.{Ok, Err, ℕ, ◌+◌, ◌*◌, ◌^◌, ◌≤◌, ◌<◌, ◌≡◌, refl, List, [], ltb, length, take, drop}
use Rattle.std.proofs.Common.{arith, mul-le-mul, le_of_lt, sym, ◌∙◌, Fits}
use Rattle.std.specs.Int.{w64}
use borrow.Author.Tests.{eq-eqb, ne_eqb, lt-ltb, le-ltb, le-leb, lt-leb, ltb-true}
use Rattle.octets.specs.Word.{word_of, narrow_word}
use Rattle.answers.specs.Numbers.{out_of_turn, wrong_index, most_records}
use Rattle.answers.specs.Verdict.{Verdict}
use Rattle.answers.specs.Verdict.{clear, Refused}
use Rattle.answers.specs.Verdict.{refused, ◌then◌, need, apart, unmet}
use Rattle.answers.specs.declared.Refusal.{Refusal}
use Rattle.answers.specs.Verdict.{Answer}
use Rattle.answers.specs.Made.{answered-refused}
use Rattle.book.specs.Judged.{both_tables}
use Rattle.table.specs.declared.Columns.{Columns}
use Rattle.table.specs.Found.{Found}
use Rattle.table.specs.Found.{At, Nothing}
use Rattle.entry.specs.Record.{record_at}
use Rattle.entry.specs.Slots.{slots_from}
use Rattle.book.specs.Book.{cols_in, count_in, header_at}
use Rattle.book.specs.Front.{through_tables}
use Rattle.book.specs.Judged.{tables_in}
use Rattle.book.specs.JudgeCases.{slots-row, through-clear, address-are}
use Rattle.book.specs.Good.{header-keeps, tags-in, forms-in, bits_in, tags-reach, forms-reach, flags-reach}
use Rattle.book.specs.declared.Tables.{Tables}
use Rattle.lookup.specs.Cases.{seek-same}
use Rattle.lookup.specs.Look.{no_such, seek_in, column_in, in_column}
use Rattle.lookup.specs.Looked.{Looked}
use Rattle.index.specs.Index.{starts_offset, entry_width, old_offset, old_width, old_most, width_by, kind_at, index_at}
use Rattle.index.specs.Index.{start_at, start_of, pair_at, entry_of, record_look, indexed_of}

-- the index beside the book, then the record's number
unfoldable pub beside_at : List ℕ → List ℕ → ℕ → Verdict
beside_at xs ix k = index_at xs ix then need (ltb k (count_in xs)) out_of_turn 0

-- the value with a tag in the record at `at`, by the columns that the code has
unfoldable pub table_look : Columns → List ℕ → ℕ → ℕ → Looked
table_look columns b at tag =
    in_column (column_in tag (take columns.count columns.tags))
    (λ c. record_look
    (slots_from (take columns.count columns.forms) (take columns.count columns.flags)) b at c)

-- ---- judge_kind

module _ (b ix : List ℕ) (o : ℕ) (oe : o ≡ word_of 4 (drop 12 ix)) where
  module _ (z : o ≡ old_offset) where
    pub kind-long : (v : Verdict) → old_most < length b → v ≡ refused wrong_index 0 → v ≡ kind_at b ix
    unfolding kind_at
    kind-long v h e = rw (e, ← oe, eq-eqb o old_offset z, lt-leb (length b) old_most h)

    pub kind-old : length b ≤ old_most → clear ≡ kind_at b ix
    unfolding kind_at
    kind-old h = rw (← oe, eq-eqb o old_offset z, le-leb (length b) old_most h)

  module _ (z : o ≡ old_offset → ⊥) where
    pub kind-unknown : (v : Verdict) → (o ≡ starts_offset → ⊥) → v ≡ refused wrong_index 0 → v ≡ kind_at b ix
    unfolding kind_at
    kind-unknown v y e = rw (e, ← oe, ne_eqb o old_offset z, ne_eqb o starts_offset y)

    module _ (y : o ≡ starts_offset) (w : ℕ) (we : w ≡ word_of 4 (drop 16 ix)) where
      pub kind-width : (v : Verdict) → (w ≡ entry_width → ⊥) → v ≡ refused wrong_index 0 → v ≡ kind_at b ix
      unfolding kind_at
      kind-width v x e = rw (e, ← oe, ne_eqb o old_offset z, eq-eqb o starts_offset y, ← we, ne_eqb w entry_width x)

      pub kind-new : w ≡ entry_width → clear ≡ kind_at b ix
      unfolding kind_at
      kind-new x = rw (← oe, ne_eqb o old_offset z, eq-eqb o starts_offset y, ← we, eq-eqb w entry_width x)

pub ruleset kinds = (kind-long, kind-old, kind-unknown, kind-width, kind-new)

-- ---- width_by

module _ (o : ℕ) where
  pub width-old : o ≡ old_offset → old_width ≡ width_by o
  width-old z = rw (eq-eqb o old_offset z)

  pub width-new : (o ≡ old_offset → ⊥) → entry_width ≡ width_by o
  width-new z = rw (ne_eqb o old_offset z)

pub ruleset widths = (width-old, width-new)

-- an entry takes four octets at most, so the stretch in front of another one fits
module _ (o w n : ℕ) (h : w ≤ 4) (g : n < 2 ^ 32) where
  entries-small : w * n ≤ 4 * 2 ^ 32
  entries-small = mul-le-mul h (le_of_lt g)

  pub stretch-mul : Fits w64 (w * n)
  stretch-mul = record { fits = let m = entries-small in omega arith }

  pub stretch-add : o < 2 ^ 32 → Fits w64 (o + w * n)
  stretch-add l = record { fits = let m = entries-small in omega arith }

pub stretch-short : (o w k : ℕ) → o < 2 ^ 32 → w ≤ 4 → k < most_records → o + w * k < 2 ^ 64
stretch-short o w k l h g = let m = entries-small o w k h (omega arith) in omega arith

-- ---- judge_index and judge_beside

module _ (b ix : List ℕ) (u : Verdict) (ue : u ≡ kind_at b ix) where
  pub index-kind : (r : Refusal) → u ≡ Refused r → Refused r ≡ index_at b ix
  unfolding index_at
  index-kind r z = rw (← ue, z)

  module _ {v : Verdict} (z : u ≡ clear) (c n : ℕ) (ce : c ≡ word_of 4 (drop 8 b)) (ne : n ≡ word_of 4 ix) where
    pub index-count : (n ≡ c → ⊥) → v ≡ refused wrong_index 0 → v ≡ index_at b ix
    unfolding index_at
    index-count y e = rw (e, ← ue, z, ← ne, ← ce, ne_eqb n c y)

    module _ (y : n ≡ c) (l : ℕ) (le : l ≡ word_of 4 (drop 4 ix)) where
      pub index-length : (l ≡ length b → ⊥) → v ≡ refused wrong_index 0 → v ≡ index_at b ix
      unfolding index_at
      index-length x e = rw (e, ← ue, z, ← ne, ← ce, eq-eqb n c y, ← le, ne_eqb l (length b) x)

      module _ (x : l ≡ length b) (s t : ℕ) (se : s ≡ word_of 4 (drop 8 ix)) (te : t ≡ word_of 4 (drop 4 b)) where
        pub index-serial : (s ≡ t → ⊥) → v ≡ refused wrong_index 0 → v ≡ index_at b ix
        unfolding index_at
        index-serial q e =
            rw (e, ← ue, z, ← ne, ← ce, eq-eqb n c y, ← le, eq-eqb l (length b) x, ← se, ← te, ne_eqb s t q)

        module _ (q : s ≡ t) (o w : ℕ) (oe : o ≡ word_of 4 (drop 12 ix)) (we : w ≡ width_by o) where
          pub index-size : (length ix ≡ o + w * c → ⊥) → v ≡ refused wrong_index 0 → v ≡ index_at b ix
          unfolding index_at
          index-size p e =
              rw (e, ← ue, z, ← ne, ← ce, eq-eqb n c y, ← le, eq-eqb l (length b) x, ← se, ← te, eq-eqb s t q)
              (rw (← oe, ← we, ne_eqb (length ix) (o + w * c) p))

pub index-good : (b ix : List ℕ) (u : Verdict) (c n l s t o w : ℕ) → u ≡ kind_at b ix → u ≡ clear
    → c ≡ word_of 4 (drop 8 b) → n ≡ word_of 4 ix → n ≡ c → l ≡ word_of 4 (drop 4 ix) → l ≡ length b
    → s ≡ word_of 4 (drop 8 ix) → t ≡ word_of 4 (drop 4 b) → s ≡ t → o ≡ word_of 4 (drop 12 ix) → w ≡ width_by o
    → length ix ≡ o + w * c → clear ≡ index_at b ix
unfolding index_at
index-good b ix u c n l s t o w ue z ce ne y le x se te q oe we p =
    rw (← ue, z, ← ne, ← ce, eq-eqb n c y, ← le, eq-eqb l (length b) x, ← se, ← te, eq-eqb s t q)
    (rw (← oe, ← we, eq-eqb (length ix) (o + w * c) p))

pub ruleset indexes = (index-kind, index-count, index-length, index-serial, index-size, index-good)

module _ (b ix : List ℕ) (k : ℕ) (v : Verdict) (ve : v ≡ index_at b ix) where
  pub beside-index : (r : Refusal) → v ≡ Refused r → Refused r ≡ beside_at b ix k
  unfolding beside_at
  beside-index r z = rw (← ve, z)

  module _ (z : v ≡ clear) (n : ℕ) (ne : n ≡ word_of 4 (drop 8 b)) where
    pub beside_none : (w : Verdict) → n ≤ k → w ≡ refused out_of_turn 0 → w ≡ beside_at b ix k
    unfolding beside_at
    beside_none w h e = rw (e, ← ve, z, ← ne, le-ltb k n h)

    pub beside-good : k < n → clear ≡ beside_at b ix k
    unfolding beside_at
    beside-good h = rw (← ve, z, ← ne, lt-ltb k n h)

pub ruleset besides = (beside-index, beside_none, beside-good)

-- ---- start_at and start_of

pub start_is : (ix : List ℕ) (offset w k r : ℕ) → w ≤ 8 → r ≡ narrow_word w (drop (offset + w * k) ix)
    → r ≡ start_at offset w k ix
unfolding start_at narrow_word
start_is ix offset w k r h e = rw (le-ltb 8 w h) at e

pub start-by : (ix : List ℕ) (k o w r : ℕ) → o ≡ word_of 4 (drop 12 ix) → w ≡ width_by o → r ≡ start_at o w k ix
    → r ≡ start_of ix k
start-by ix k o w r oe we e = rw (← oe, ← we) e

-- ---- look_column and look_at

module _ (b forms flags : List ℕ) (at c : ℕ) where
  pub column-out : length b ≤ at
      → Err (record { number = wrong_index; place = 0 }) ≡ record_look (slots_from forms flags) b at c
  unfolding record_look
  column-out h = rw (le-ltb at (length b) h)

  module _ (h : at < length b) (v : Verdict) (ve : v ≡ record_at (slots_from forms flags) at (drop at b)) where
    pub column-refused : (r : Refusal) → v ≡ Refused r → Err r ≡ record_look (slots_from forms flags) b at c
    unfolding record_look
    column-refused r z = rw (lt-ltb at (length b) h, ← ve, z)

    pub column-found : (l : Looked) → v ≡ clear → l ≡ seek_in (slots_from forms []) c at (drop at b)
        → l ≡ record_look (slots_from forms flags) b at c
    unfolding record_look
    column-found l z e = rw (lt-ltb at (length b) h, ← ve, z, seek-same forms flags c at (drop at b)) e

pub ruleset columns = (column-out, column-refused, column-found)

module _ (b : List ℕ) (cs : Columns) (at tag : ℕ) (ts : List ℕ) (te : ts ≡ take cs.count cs.tags) (f : Found)
    (e : f ≡ column_in tag ts) where
  found-is : column_in tag (take cs.count cs.tags) ≡ f
  found-is = rw te at (sym e)

  pub look_none : f ≡ Nothing → no_such ≡ table_look cs b at tag
  unfolding table_look
  look_none z = rw (found-is, z)

  pub look-found : (c : ℕ) (r : Looked) (fs gs : List ℕ) → f ≡ At c → fs ≡ take cs.count cs.forms
      → gs ≡ take cs.count cs.flags → r ≡ record_look (slots_from fs gs) b at c → r ≡ table_look cs b at tag
  unfolding table_look
  look-found c r fs gs z x y q = rw (found-is, z) (rw (x, y) at q)

pub ruleset looks = (look_none, look-found)

-- ---- entry_at and lookup_indexed

pair_is : (b ix : List ℕ) (k : ℕ) → pair_at b ix k ≡ (through_tables b then beside_at b ix k)
unfolding pair_at beside_at
pair_is b ix k = refl

module _ (b ix : List ℕ) (k : ℕ) (u : Answer Tables) (te : u ≡ tables_in b) where
  module _ (r : Refusal) (z : u ≡ Err r) where
    front-is : through_tables b ≡ Refused r
    unfolding tables_in
    front-is = answered-refused (through_tables b) (both_tables b) r (sym te ∙ z)

    pair-front : pair_at b ix k ≡ Refused r
    pair-front = rw (pair_is b ix k, front-is)

    pub entry-front : Err r ≡ entry_of b ix k
    unfolding entry_of
    entry-front = rw pair-front

    pub indexed-front : (tag : ℕ) → Err r ≡ indexed_of b ix k tag
    unfolding indexed_of
    indexed-front tag = rw pair-front

  module _ (t : Tables) (z : u ≡ Ok t) (w : Verdict) (we : w ≡ beside_at b ix k) where
    pair-rest : pair_at b ix k ≡ w
    pair-rest = rw (pair_is b ix k, through-clear b u te t z, ← we)

    pub entry-beside : (r : Refusal) → w ≡ Refused r → Err r ≡ entry_of b ix k
    unfolding entry_of
    entry-beside r y = rw (pair-rest, y)

    pub indexed-beside : (tag : ℕ) (r : Refusal) → w ≡ Refused r → Err r ≡ indexed_of b ix k tag
    unfolding indexed_of
    indexed-beside tag r y = rw (pair-rest, y)

    module _ (y : w ≡ clear) where
      pub few : k < most_records
      unfolding beside_at
      few =
          let h = ltb-true k (count_in b) (unmet _ out_of_turn 0 (apart (index_at b ix) _ (sym we ∙ y)).1) in
          let l = header-keeps b (apart (header_at b) _ (through-clear b u te t z)).0 in
          omega (arith, l.1)

      module _ (at : ℕ) (ae : at ≡ start_of ix k) where
        pub entry-out : length b ≤ at → Err (record { number = wrong_index; place = 0 }) ≡ entry_of b ix k
        unfolding entry_of
        entry-out h = rw (pair-rest, y, ← ae, le-ltb at (length b) h)

        pub entry-good : at < length b → Ok at ≡ entry_of b ix k
        unfolding entry_of
        entry-good h = rw (pair-rest, y, ← ae, lt-ltb at (length b) h)

        pub indexed-look : (tag : ℕ) (r : Looked) → r ≡ table_look t.address b at tag → r ≡ indexed_of b ix k tag
        unfolding indexed_of table_look
        indexed-look tag r q =
            let cs = cols_in (drop 12 b) in
            rw (pair-rest, y, ← ae) (rw (address-are b u te t z, tags-in cs, forms-in cs, bits_in cs, slots-row cs) at q)

-- the address columns reach as far as their count
module _ (b : List ℕ) (u : Answer Tables) (te : u ≡ tables_in b) (t : Tables) (z : u ≡ Ok t) where
  pub tags-there : t.address.count ≤ length t.address.tags
  tags-there = tags-reach t.address (cols_in (drop 12 b)) (address-are b u te t z)

  pub forms-there : t.address.count ≤ length t.address.forms
  forms-there = forms-reach t.address (cols_in (drop 12 b)) (address-are b u te t z)

  pub flags-there : t.address.count ≤ length t.address.flags
  flags-there = flags-reach t.address (cols_in (drop 12 b)) (address-are b u te t z)

pub ruleset reaches = (tags-there, forms-there, flags-there)

pub ruleset entered = (entry-front, entry-beside, entry-out, entry-good)

pub ruleset indexed = (indexed-front, indexed-beside, indexed-look)
