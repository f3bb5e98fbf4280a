-- What isn't an index of either kind, and what an old index isn't for: both calls refuse it once the book's tables are
-- good, whatever else stands in it (request 111).
use Rattle.std.specs.Prelude.{Err, ℕ, ◌<◌, ◌≡◌, List, length, drop}
use Rattle.std.proofs.Math.Bool.{true, false}
use Rattle.std.proofs.Math.Dec.{eqb, leb}
use borrow.Author.Tests.{eq-eqb, ne_eqb, lt-leb}
use Rattle.octets.specs.Word.{word_of}
use Rattle.answers.specs.Numbers.{wrong_index}
use Rattle.answers.specs.declared.Refusal.{Refusal}
use Rattle.answers.specs.Verdict.{clear}
use Rattle.answers.specs.Verdict.{refused}
use Rattle.book.specs.Front.{through_tables}
use Rattle.index.specs.Index.{starts_offset, entry_width, old_offset, old_most, offset_in, kind_at, index_at, pair_at}
use Rattle.index.specs.Index.{entry_of, indexed_of}

-- 19, at place 0
abbrev pub not_its : Refusal
not_its = record { number = wrong_index; place = 0 }

-- neither call reads anything through these octets
pub record Unread (xs ix : List ℕ) : Type 0 where
  pub entry : (k : ℕ) → entry_of xs ix k ≡ Err not_its
  pub value : (k t : ℕ) → indexed_of xs ix k t ≡ Err not_its

module _ (xs ix : List ℕ) (tables : through_tables xs ≡ clear) where
  pair-refused : kind_at xs ix ≡ refused wrong_index 0 → (k : ℕ) → pair_at xs ix k ≡ refused wrong_index 0
  unfolding pair_at index_at
  pair-refused e k = rw (tables, e)

  unread : kind_at xs ix ≡ refused wrong_index 0 → Unread xs ix
  unfolding entry_of indexed_of
  unread e = record { entry = λ k. rw (pair-refused e k); value = λ k t. rw (pair-refused e k) }

  -- An old index beside a longer book.
  pub old-beside-longer : offset_in ix ≡ old_offset → old_most < length xs → Unread xs ix
  unfolding kind_at
  old-beside-longer o h =
      let f : eqb (offset_in ix) old_offset ≡ true = eq-eqb _ _ o in
      let g : leb (length xs) old_most ≡ false = lt-leb (length xs) old_most h in
      unread cc

  -- An offset that is neither.
  pub offset-unknown : (offset_in ix ≡ old_offset → ⊥) → (offset_in ix ≡ starts_offset → ⊥) → Unread xs ix
  unfolding kind_at
  offset-unknown z y = unread (rw (ne_eqb (offset_in ix) old_offset z, ne_eqb (offset_in ix) starts_offset y))

  -- The new offset with another width.
  pub width-unknown : offset_in ix ≡ starts_offset → (word_of 4 (drop 16 ix) ≡ entry_width → ⊥) → Unread xs ix
  unfolding kind_at
  width-unknown y w = unread (rw (y, ne_eqb (word_of 4 (drop 16 ix)) entry_width w))
