-- The tables that begin takes are sound, and every sound pair of tables is taken. What begin writes of them has its
-- length.
use Rattle.std.specs.Prelude.{ℕ, suc, ◌+◌, ◌*◌, ◌%◌, ◌^◌, ◌≤◌, ◌<◌, ◌≡◌, refl, not, List, [], ◌∷◌, ◌++◌, leb, length}
use Rattle.std.proofs.Common.{arith, ap, le-leb, eq-eqb}
use Rattle.std.proofs.lemmas.Bool.{not-true}
use Rattle.octets.specs.Octets.{Octets, octets-append}
use Rattle.octets.specs.Word.{le_of, octets-le_of}
use Rattle.answers.specs.Numbers.{many_columns, unknown_type, repeated_tag, most_columns}
use Rattle.answers.specs.Verdict.{clear}
use Rattle.answers.specs.Verdict.{need, apart, unmet}
use Rattle.value.specs.Types.{is_type}
use Rattle.table.specs.Repeat.{memb}
use Rattle.table.specs.Table.{Column, SoundColumns, SoundTable}
use Rattle.table.specs.Columns.{tags_of, bits_of, tags-long}
use Rattle.book.specs.Book.{tables_octets, tables-octets}
use Rattle.book.specs.Unused.{plainly, tables-long}
use Rattle.begin.specs.Begin.{rows_at, tags_at, start_size, begin_at, columns_from, start_octets}
use Rattle.begin.specs.Cases.{tags-few, from-long}

-- each is a tag of 32 bits
abbrev pub Tags : List ℕ → Type 0
Tags [] = Unit {0}
Tags (t ∷ ts) = (t < 2 ^ 32) × Tags ts

-- each column's flags field
abbrev pub flags_of : List Column → List ℕ
flags_of [] = []
flags_of (c ∷ cs) = c.flags ∷ flags_of cs

-- ---- the octets

pub start-long : (hs cs : List Column) → length (start_octets hs cs) ≡ 24 + 8 * (length hs + length cs)
unfolding start_octets
start-long hs cs = let l = tables-long hs cs in omega arith

pub start-octets : (hs cs : List Column) → Octets (start_octets hs cs)
unfolding start_octets
start-octets hs cs =
    let ts : List ℕ = tables_octets hs cs in
    octets-append (le_of 4 32) (le_of 4 0 ++ (le_of 4 0 ++ ts)) (octets-le_of 4 32)
    (octets-append (le_of 4 0) (le_of 4 0 ++ ts) (octets-le_of 4 0)
    (octets-append (le_of 4 0) ts (octets-le_of 4 0) (tables-octets hs cs)))

-- ---- tables that begin takes are sound

pub from-tags : (ts fs : List ℕ) → length ts ≡ length fs → tags_of (columns_from ts fs) ≡ ts
from-tags [] fs e = refl
from-tags (t ∷ ts) [] e = absurd (omega arith)
from-tags (t ∷ ts) (f ∷ fs) e = ap (λ (l : List ℕ). t ∷ l) (from-tags ts fs (omega arith))

rows-sound : (seen : List ℕ) (at : ℕ) (ts fs : List ℕ) → Tags ts → length ts ≡ length fs → rows_at seen at ts ≡ clear
    → SoundColumns seen (columns_from ts fs)
unfolding rows_at
rows-sound seen at [] fs h l e = tt
rows-sound seen at (t ∷ ts) [] h l e = absurd (omega arith)
rows-sound seen at (t ∷ ts) (f ∷ fs) h l e =
    let c₁ = apart (need (is_type (t % 65536)) unknown_type at) _ e in
    let c₂ = apart (need (not (memb t seen)) repeated_tag at) _ c₁.1 in (
      (h.0, omega arith, unmet _ unknown_type at c₁.0),
      not-true (memb t seen) (unmet _ repeated_tag at c₂.0),
      rows-sound (t ∷ seen) (at + 1) ts fs h.1 (omega arith) c₂.1,
    )

pub from-sound : (base : ℕ) (ts fs : List ℕ) → Tags ts → length ts ≡ length fs → tags_at base ts ≡ clear
    → SoundTable (columns_from ts fs)
unfolding tags_at
from-sound base ts fs h l e = (
  rw (from-long ts fs l) (tags-few base ts e),
  rows-sound [] base ts fs h l (apart (need (leb (length ts) most_columns) many_columns (base + most_columns)) _ e).1,
)

-- ---- sound tables are taken

pub flags_long : (cs : List Column) → length (flags_of cs) ≡ length cs
flags_long [] = refl
flags_long (c ∷ cs) = ap suc (flags_long cs)

pub columns-taken : (seen : List ℕ) (at : ℕ) (cs : List Column) → SoundColumns seen cs
    → rows_at seen at (tags_of cs) ≡ clear
unfolding rows_at
columns-taken seen at [] h = refl
columns-taken seen at (c ∷ cs) h = rw (h.0.2, h.1) (columns-taken (c.tag ∷ seen) (at + 1) cs h.2)

pub table-tags : (base : ℕ) (cs : List Column) → SoundTable cs → tags_at base (tags_of cs) ≡ clear
unfolding tags_at
table-tags base cs h = rw (tags-long cs, le-leb (length cs) most_columns h.0) (columns-taken [] base cs h.1)

pub from-plain : (cs : List Column) → columns_from (tags_of cs) (flags_of cs) ≡ plainly cs
from-plain [] = refl
from-plain (c ∷ cs) = rw (from-plain cs)

-- the same of the two bits alone
pub from_bits : (cs : List Column) → columns_from (tags_of cs) (bits_of cs) ≡ plainly cs
from_bits [] = refl
from_bits (c ∷ cs) =
    let e : c.flags % 4 % 4 ≡ c.flags % 4 = omega arith in
    rw (e, from_bits cs)

-- whatever flags are handed over with them
pub begin-taken : (hs cs : List Column) (hf fs : List ℕ) → SoundTable hs → SoundTable cs
    → length hf ≡ length hs → length fs ≡ length cs → (n : ℕ) → start_size (length hs) (length cs) ≤ n
    → begin_at (tags_of hs) hf (tags_of cs) fs n ≡ clear
unfolding begin_at
begin-taken hs cs hf fs h k p q n l =
    rw (tags-long hs, p, tags-long cs, q, eq-eqb (length hs) (length hs) refl, eq-eqb (length cs) (length cs) refl)
    (rw (table-tags 0 hs h, table-tags most_columns cs k, le-leb (start_size (length hs) (length cs)) n l))
