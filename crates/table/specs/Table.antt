-- A table of columns (2.9.3, 2.9.4): how it is written and judged, and the laws that tie the two.
use Rattle.std.specs.Prelude.{ℕ, zero, suc, ◌+◌, ◌*◌, ◌/◌, ◌%◌, ◌^◌, ◌≤◌, ◌<◌, ◌≡◌, refl, Bool, true, false, not, eqb, leb, drop}
use Rattle.std.proofs.Common.{arith, sym, ap, ap₂, ◌∙◌, length-drop, drop_at, drop-drop}
use mathlib.Core.List.{List, [], ◌∷◌, ◌++◌}
use Rattle.std.proofs.Math.ListN.{length}
use borrow.Author.Tests.{le-leb, leb-true, not-true}
use Rattle.octets.specs.Octets.{Octets, octets-drop, octets-append}
use Rattle.octets.specs.Word.{le_of, word_of, octets-le_of, word_back, word_small, word_sound}
use Rattle.answers.specs.Numbers.{cut_short, many_columns, unknown_type, repeated_tag, most_columns}
use Rattle.answers.specs.Verdict.{Verdict}
use Rattle.answers.specs.Verdict.{clear}
use Rattle.answers.specs.Verdict.{◌then◌, need, apart, unmet}
use Rattle.value.specs.Types.{is_type}
use Rattle.table.specs.Repeat.{memb}

-- a column as it stands in the table: document 01's column is the tag and the two lowest flag bits, the other 30 are ignored
pub record Column : Type 0 where
  pub tag : ℕ
  pub flags : ℕ

abbrev pub code_of : Column → ℕ
code_of c = c.tag % 65536

-- flag bit 1
abbrev pub is_key : Column → Bool
is_key c = eqb (c.flags / 2 % 2) 1

-- ---- how tables are written

abbrev pub columns_octets : List Column → List ℕ
columns_octets [] = []
columns_octets (c ∷ cs) = le_of 4 c.tag ++ (le_of 4 c.flags ++ columns_octets cs)

unfoldable pub table_octets : List Column → List ℕ
table_octets cs = le_of 4 (length cs) ++ columns_octets cs

-- ---- the tables that may be written: seen are the tags before

abbrev pub SoundColumn : Column → Type 0
SoundColumn c = (c.tag < 2 ^ 32) × (c.flags < 2 ^ 32) × (is_type (code_of c) ≡ true)

abbrev pub SoundColumns : List ℕ → List Column → Type 0
SoundColumns seen [] = Unit {0}
SoundColumns seen (c ∷ cs) = SoundColumn c × (memb c.tag seen ≡ false) × SoundColumns (c.tag ∷ seen) cs

abbrev pub SoundTable : List Column → Type 0
SoundTable cs = (length cs ≤ most_columns) × SoundColumns [] cs

-- ---- how they are judged and read

-- one row by itself: its two fields, then its type
unfoldable pub row_at : ℕ → List ℕ → Verdict
row_at at xs =
    need (leb 4 (length xs)) cut_short at
    then need (leb 8 (length xs)) cut_short (at + 4)
    then need (is_type (word_of 4 xs % 65536)) unknown_type at

-- n rows; seen are the tags of the rows before
unfoldable pub columns_at : ℕ → List ℕ → ℕ → List ℕ → Verdict
columns_at zero seen at xs = clear
columns_at (suc n) seen at xs =
    row_at at xs
    then need (not (memb (word_of 4 xs) seen)) repeated_tag at
    then columns_at n (word_of 4 xs ∷ seen) (at + 8) (drop 8 xs)

unfoldable pub table_at : ℕ → List ℕ → Verdict
table_at at xs =
    need (leb 4 (length xs)) cut_short at
    then need (leb (word_of 4 xs) most_columns) many_columns at
    then columns_at (word_of 4 xs) [] (at + 4) (drop 4 xs)

unfoldable pub columns_of : ℕ → List ℕ → List Column
columns_of zero xs = []
columns_of (suc n) xs = record { tag = word_of 4 xs; flags = word_of 4 (drop 4 xs) } ∷ columns_of n (drop 8 xs)

unfoldable pub table_of : List ℕ → List Column
table_of xs = columns_of (word_of 4 xs) (drop 4 xs)

-- what stands behind a table
unfoldable pub behind : List ℕ → List ℕ
behind xs = drop (8 * word_of 4 xs) (drop 4 xs)

-- ---- what was written is judged good and read back

pub columns-length : (cs : List Column) → length (columns_octets cs) ≡ 8 * length cs
columns-length [] = refl
columns-length (c ∷ cs) = let i = columns-length cs in omega arith

columns-back : (seen : List ℕ) (cs : List Column) (at : ℕ) (rest : List ℕ) → SoundColumns seen cs → columns_at (length cs) seen at (columns_octets cs ++ rest) ≡ clear
unfolding columns_at row_at
columns-back seen [] at rest h = refl
columns-back seen (c ∷ cs) at rest h =
    let xs : List ℕ = columns_octets (c ∷ cs) ++ rest in
    let w : word_of 4 xs ≡ c.tag = word_back 4 c.tag h.0.0 (le_of 4 c.flags ++ (columns_octets cs ++ rest)) in
    rw (le-leb 4 (length xs) (omega arith), le-leb 8 (length xs) (omega arith), w, h.0.2, h.1) (columns-back (c.tag ∷ seen) cs (at + 8) rest h.2)

columns-read : (seen : List ℕ) (cs : List Column) (rest : List ℕ) → SoundColumns seen cs → columns_of (length cs) (columns_octets cs ++ rest) ≡ cs
unfolding columns_of
columns-read seen [] rest h = refl
columns-read seen (c ∷ cs) rest h =
    let xs : List ℕ = columns_octets (c ∷ cs) ++ rest in
    let w : word_of 4 xs ≡ c.tag = word_back 4 c.tag h.0.0 (le_of 4 c.flags ++ (columns_octets cs ++ rest)) in
    let v : word_of 4 (drop 4 xs) ≡ c.flags = word_back 4 c.flags h.0.1 (columns_octets cs ++ rest) in
    rw (w, v) (ap (λ (l : List Column). c ∷ l) (columns-read (c.tag ∷ seen) cs rest h.2))

module _ (cs : List Column) (rest : List ℕ) (h : SoundTable cs) where
  pub table-count : word_of 4 (table_octets cs ++ rest) ≡ length cs
  unfolding table_octets
  table-count = word_back 4 (length cs) (omega (arith, h.0)) (columns_octets cs ++ rest)

  pub table-back : (at : ℕ) → table_at at (table_octets cs ++ rest) ≡ clear
  unfolding table_at table_octets
  table-back at =
      rw (le-leb 4 (length (table_octets cs ++ rest)) (omega arith), table-count, le-leb (length cs) most_columns h.0) (columns-back [] cs (at + 4) rest h.1)

  pub table-read : table_of (table_octets cs ++ rest) ≡ cs
  unfolding table_of table_octets
  table-read = rw table-count (columns-read [] cs rest h.1)

  pub table-behind : behind (table_octets cs ++ rest) ≡ rest
  unfolding behind table_octets
  table-behind = rw table-count (drop_at (columns_octets cs) rest (8 * length cs) (columns-length cs))

pub table-length : (cs : List Column) → length (table_octets cs) ≡ 4 + 8 * length cs
unfolding table_octets
table-length cs = let i = columns-length cs in omega arith

-- ---- what is judged good was written so

pub record ColumnsAre (n : ℕ) (seen xs : List ℕ) : Type 0 where
  pub sound : SoundColumns seen (columns_of n xs)
  pub many : length (columns_of n xs) ≡ n
  pub reads : xs ≡ columns_octets (columns_of n xs) ++ drop (8 * n) xs

columns-sound : (n : ℕ) (seen : List ℕ) (at : ℕ) (xs : List ℕ) → Octets xs → columns_at n seen at xs ≡ clear → ColumnsAre n seen xs
unfolding columns_at row_at columns_of
columns-sound zero seen at xs o e = record { sound = tt; many = refl; reads = refl }
columns-sound (suc n) seen at xs o e =
    let c₀ = apart (row_at at xs) _ e in
    let c₁ = apart (need (leb 4 (length xs)) cut_short at) _ c₀.0 in
    let c₂ = apart (need (leb 8 (length xs)) cut_short (at + 4)) _ c₁.1 in
    let c₄ = apart (need (not (memb (word_of 4 xs) seen)) repeated_tag at) _ c₀.1 in
    let l₁ = leb-true 4 (length xs) (unmet _ cut_short at c₁.0) in
    let l₂ = leb-true 8 (length xs) (unmet _ cut_short (at + 4) c₂.0) in
    let r = columns-sound n (word_of 4 xs ∷ seen) (at + 8) (drop 8 xs) (octets-drop 8 xs o) c₄.1 in
    let l₃ : 4 ≤ length (drop 4 xs) = rw (length-drop 4 xs) (omega arith) in
    let k : 8 + 8 * n ≡ 8 * suc n = omega arith in
    let q : drop (8 * n) (drop 8 xs) ≡ drop (8 * suc n) xs = drop-drop (8 * n) 8 xs ∙ ap (λ (k : ℕ). drop k xs) k in
    record {
      sound = ((word_small 4 xs o l₁, word_small 4 (drop 4 xs) (octets-drop 4 xs o) l₃, unmet _ unknown_type at c₂.1), not-true (memb (word_of 4 xs) seen) (unmet _ repeated_tag at c₄.0), r.sound);
      many = ap suc r.many;
      reads =
          word_sound 4 xs o l₁ ∙ ap (λ (l : List ℕ). le_of 4 (word_of 4 xs) ++ l) (word_sound 4 (drop 4 xs) (octets-drop 4 xs o) l₃)
          ∙ ap (λ (l : List ℕ). le_of 4 (word_of 4 xs) ++ (le_of 4 (word_of 4 (drop 4 xs)) ++ l)) (drop-drop 4 4 xs ∙ r.reads ∙ ap (λ (l : List ℕ). columns_octets (columns_of n (drop 8 xs)) ++ l) q);
    }

pub record TableIs (xs : List ℕ) : Type 0 where
  pub sound : SoundTable (table_of xs)
  pub many : length (table_of xs) ≡ word_of 4 xs
  pub reads : xs ≡ table_octets (table_of xs) ++ behind xs

pub table-sound : (at : ℕ) (xs : List ℕ) → Octets xs → table_at at xs ≡ clear → TableIs xs
unfolding table_at table_of behind table_octets
table-sound at xs o e =
    let c₁ = apart (need (leb 4 (length xs)) cut_short at) _ e in
    let c₂ = apart (need (leb (word_of 4 xs) most_columns) many_columns at) _ c₁.1 in
    let l₁ = leb-true 4 (length xs) (unmet _ cut_short at c₁.0) in
    let l₂ = leb-true (word_of 4 xs) most_columns (unmet _ many_columns at c₂.0) in
    let r = columns-sound (word_of 4 xs) [] (at + 4) (drop 4 xs) (octets-drop 4 xs o) c₂.1 in
    let m = r.many in
    record {
      sound = (omega arith, r.sound);
      many = r.many;
      reads = word_sound 4 xs o l₁ ∙ ap₂ (λ (n : ℕ) (l : List ℕ). le_of 4 n ++ l) (sym r.many) r.reads;
    }

-- ---- octets

columns-octets : (cs : List Column) → Octets (columns_octets cs)
columns-octets [] i = omega arith
columns-octets (c ∷ cs) i =
    octets-append (le_of 4 c.tag) (le_of 4 c.flags ++ columns_octets cs) (octets-le_of 4 c.tag) (octets-append (le_of 4 c.flags) (columns_octets cs) (octets-le_of 4 c.flags) (columns-octets cs)) i

pub table-octets : (cs : List Column) → Octets (table_octets cs)
unfolding table_octets
table-octets cs = octets-append (le_of 4 (length cs)) (columns_octets cs) (octets-le_of 4 (length cs)) (columns-octets cs)
