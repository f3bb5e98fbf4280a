-- The columns of a table (2.9.3, 2.9.4) as arrays, and the table as it is read: two phases, joined by `agree` to the one definition of judging.
use Rattle.std.specs.Prelude.{Ok, ℕ, zero, suc, ◌+◌, ◌*◌, ◌%◌, ◌≤◌, ◌≡◌, refl, not, List, [], ◌∷◌, ◌++◌, length, take, drop, replicate}
use Rattle.std.proofs.Common.{arith, ap, ◌∙◌, drop-drop}
use Rattle.octets.specs.Word.{word_of}
use Rattle.answers.specs.Numbers.{repeated_tag, most_columns}
use Rattle.answers.specs.Padded.{padded}
use Rattle.answers.specs.Verdict.{Answer, Verdict, answered}
use Rattle.answers.specs.Verdict.{clear, Refused}
use Rattle.answers.specs.Verdict.{◌then◌, need, apart, then-assoc}
use Rattle.value.specs.Types.{number_of}
use Rattle.table.specs.Repeat.{memb, repeat_at, repeat_of, found_at}
use Rattle.table.specs.Table.{Column, code_of, row_at, columns_at, table_at, columns_of, table_of}
use Rattle.table.specs.declared.Columns.{Columns}
use Rattle.table.specs.declared.Rows.{Rows}

abbrev pub tags_of : List Column → List ℕ
tags_of [] = []
tags_of (c ∷ cs) = c.tag ∷ tags_of cs

-- the two bits that are a column's own
abbrev pub bits_of : List Column → List ℕ
bits_of [] = []
bits_of (c ∷ cs) = c.flags % 4 ∷ bits_of cs

abbrev pub forms_of : List Column → List ℕ
forms_of [] = []
forms_of (c ∷ cs) = number_of (code_of c) ∷ forms_of cs

-- the column lists of a table as its reader hands them back
unfoldable pub columns_in : List Column → Columns
columns_in cs = record { count = length cs; tags = padded (tags_of cs); flags = padded (bits_of cs); forms = padded (forms_of cs) }

abbrev pub no_columns : Columns
no_columns =
    record {
      count = 0;
      tags = replicate most_columns 0;
      flags = replicate most_columns 0;
      forms = replicate most_columns 0;
    }

-- the table at the front of xs, whose place is `at`
unfoldable pub table_in : ℕ → List ℕ → Answer Columns
table_in at xs = answered (table_at at xs) (columns_in (table_of xs))

-- ---- the first phase: rows by themselves

unfoldable pub plain_at : ℕ → ℕ → List ℕ → Verdict
plain_at zero at xs = clear
plain_at (suc n) at xs = row_at at xs then plain_at n (at + 8) (drop 8 xs)

abbrev pub one_more : Verdict → ℕ → ℕ
one_more (Ok _) k = suc k
one_more (Refused r) k = 0

-- how many rows stand before the first that is refused by itself
unfoldable pub read_to : ℕ → ℕ → List ℕ → ℕ
read_to zero at xs = 0
read_to (suc n) at xs = one_more (row_at at xs) (read_to n (at + 8) (drop 8 xs))

unfoldable pub filled_to : ℕ → ℕ → List ℕ → Rows
filled_to n at xs = record { verdict = plain_at n at xs; columns = columns_in (columns_of (read_to n at xs) xs) }

-- ---- the second phase: a repeated tag among the rows that were read comes first

unfoldable pub settled : ℕ → Rows → Answer Columns
settled at t = answered (found_at 8 at (repeat_of (take t.columns.count t.columns.tags)) then t.verdict) t.columns

pub agree : (n : ℕ) (seen : List ℕ) (at : ℕ) (xs : List ℕ)
    → columns_at n seen at xs ≡ (repeat_at 8 seen at (tags_of (columns_of (read_to n at xs) xs)) then plain_at n at xs)
unfolding columns_at plain_at read_to repeat_at columns_of
agree zero seen at xs = refl
agree (suc n) seen at xs = go (row_at at xs) (agree n (word_of 4 xs ∷ seen) (at + 8) (drop 8 xs))
  where
    go : (v : Verdict)
        → columns_at n (word_of 4 xs ∷ seen) (at + 8) (drop 8 xs) ≡ (repeat_at 8 (word_of 4 xs ∷ seen) (at + 8) (tags_of (columns_of (read_to n (at + 8) (drop 8 xs)) (drop 8 xs))) then plain_at n (at + 8) (drop 8 xs))
        → (v then need (not (memb (word_of 4 xs) seen)) repeated_tag at then columns_at n (word_of 4 xs ∷ seen) (at + 8) (drop 8 xs))
        ≡ (repeat_at 8 seen at (tags_of (columns_of (one_more v (read_to n (at + 8) (drop 8 xs))) xs)) then v then plain_at n (at + 8) (drop 8 xs))
    go (Ok _) ih = rw ih (then-assoc (need (not (memb (word_of 4 xs) seen)) repeated_tag at) _ _)
    go (Refused r) ih = refl

-- where no row is refused by itself all were read
pub read_all : (n at : ℕ) (xs : List ℕ) → plain_at n at xs ≡ clear → read_to n at xs ≡ n
unfolding plain_at read_to
read_all zero at xs e = refl
read_all (suc n) at xs e =
    let a = apart (row_at at xs) _ e in
    rw a.0 (ap suc (read_all n (at + 8) (drop 8 xs) a.1))

-- ---- one row more

pub columns-long : (n : ℕ) (xs : List ℕ) → length (columns_of n xs) ≡ n
unfolding columns_of
columns-long zero xs = refl
columns-long (suc n) xs = ap suc (columns-long n (drop 8 xs))

abbrev pub column_at : List ℕ → Column
column_at xs = record { tag = word_of 4 xs; flags = word_of 4 (drop 4 xs) }

pub columns-snoc : (i : ℕ) (xs : List ℕ) → columns_of (suc i) xs ≡ columns_of i xs ++ (column_at (drop (8 * i) xs) ∷ [])
unfolding columns_of
columns-snoc zero xs = refl
columns-snoc (suc i) xs =
    let e : 8 + 8 * i ≡ 8 * suc i = omega arith in
    ap (λ (l : List Column). column_at xs ∷ l) (columns-snoc i (drop 8 xs) ∙ rw (drop-drop (8 * i) 8 xs, e))

pub tags-snoc : (cs : List Column) (c : Column) → tags_of (cs ++ (c ∷ [])) ≡ tags_of cs ++ (c.tag ∷ [])
tags-snoc [] c = refl
tags-snoc (d ∷ cs) c = ap (λ (l : List ℕ). d.tag ∷ l) (tags-snoc cs c)

pub bits-snoc : (cs : List Column) (c : Column) → bits_of (cs ++ (c ∷ [])) ≡ bits_of cs ++ (c.flags % 4 ∷ [])
bits-snoc [] c = refl
bits-snoc (d ∷ cs) c = ap (λ (l : List ℕ). d.flags % 4 ∷ l) (bits-snoc cs c)

pub forms-snoc : (cs : List Column) (c : Column) → forms_of (cs ++ (c ∷ [])) ≡ forms_of cs ++ (number_of (code_of c) ∷ [])
forms-snoc [] c = refl
forms-snoc (d ∷ cs) c = ap (λ (l : List ℕ). number_of (code_of d) ∷ l) (forms-snoc cs c)

pub tags-long : (cs : List Column) → length (tags_of cs) ≡ length cs
tags-long [] = refl
tags-long (c ∷ cs) = ap suc (tags-long cs)

pub bits-long : (cs : List Column) → length (bits_of cs) ≡ length cs
bits-long [] = refl
bits-long (c ∷ cs) = ap suc (bits-long cs)

pub forms-long : (cs : List Column) → length (forms_of cs) ≡ length cs
forms-long [] = refl
forms-long (c ∷ cs) = ap suc (forms-long cs)

-- no more rows are read than there are
pub read-most : (n at : ℕ) (xs : List ℕ) → read_to n at xs ≤ n
unfolding read_to
read-most zero at xs = omega arith
read-most (suc n) at xs = go (row_at at xs) (read-most n (at + 8) (drop 8 xs))
  where
    go : (v : Verdict) → read_to n (at + 8) (drop 8 xs) ≤ n → one_more v (read_to n (at + 8) (drop 8 xs)) ≤ suc n
    go (Ok _) h = omega arith
    go (Refused r) h = omega arith
