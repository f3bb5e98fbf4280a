-- Two lists of one length that agree in their front: words, tables, a book's header and metadata that stand there are
-- the same. What a reader takes from such a front doesn't depend on what follows it.
use Rattle.std.specs.Prelude.{ℕ, zero, suc, ◌+◌, ◌*◌, ◌≤◌, ◌≡◌, length, take, drop}
use Rattle.std.proofs.Common.{arith, sym, ap, ◌∙◌, length-take, length-drop, take-take, take-add}
use Rattle.std.proofs.Math.Path.{refl}
use mathlib.Core.List.{List, [], ◌∷◌}
use Rattle.octets.specs.Octets.{same-front}
use Rattle.octets.specs.Word.{word_of, val_of}
use Rattle.table.specs.Table.{row_at, columns_at, table_at, columns_of, table_of, behind}
use Rattle.book.specs.Book.{cols_in, head_count, col_count, records_place, tables_at, count_in, header_at}
use Rattle.book.specs.Front.{through_tables}
use Rattle.index.specs.Index.{serial_in}

-- two lists of one length that agree in their first n octets
pub record Alike (n : ℕ) (xs ys : List ℕ) : Type 0 where
  pub long : length xs ≡ length ys
  pub same : take n xs ≡ take n ys

pub alike-less : (m n : ℕ) (xs ys : List ℕ) → m ≤ n → Alike n xs ys → Alike m xs ys
alike-less m n xs ys h a =
    record {
      long = a.long;
      same = sym (take-take m n xs h) ∙ ap (take m) a.same ∙ take-take m n ys h;
    }

pub alike-drop : (m n : ℕ) (xs ys : List ℕ) → Alike (m + n) xs ys → Alike n (drop m xs) (drop m ys)
alike-drop m n xs ys a =
    let l = a.long in
    record {
      long = rw (length-drop m xs, length-drop m ys, l);
      same = (same-front (take m xs) (take m ys) _ _ (rw (length-take m xs, length-take m ys, l))
          (sym (take-add m n xs) ∙ a.same ∙ take-add m n ys)).1;
    }

pub alike-word : (w n : ℕ) (xs ys : List ℕ) → w ≤ n → Alike n xs ys → word_of w xs ≡ word_of w ys
unfolding word_of
alike-word w n xs ys h a = ap val_of (alike-less w n xs ys h a).same

-- ---- a table

row-alike : (at : ℕ) (xs ys : List ℕ) → Alike 8 xs ys → row_at at xs ≡ row_at at ys
unfolding row_at
row-alike at xs ys a = rw (a.long, alike-word 4 8 xs ys (omega arith) a)

eight : (n : ℕ) → 8 * suc n ≡ 8 + 8 * n
eight n = omega arith

columns-alike : (n : ℕ) (seen : List ℕ) (at : ℕ) (xs ys : List ℕ) → Alike (8 * n) xs ys
    → columns_at n seen at xs ≡ columns_at n seen at ys
unfolding columns_at
columns-alike zero seen at xs ys a = refl
columns-alike (suc n) seen at xs ys a =
    let b : Alike (8 + 8 * n) xs ys = rw (eight n) at a in
    let c : Alike 8 xs ys = alike-less 8 (8 + 8 * n) xs ys (omega arith) b in
    rw (
      row-alike at xs ys c,
      alike-word 4 8 xs ys (omega arith) c,
      columns-alike n (word_of 4 ys ∷ seen) (at + 8) (drop 8 xs) (drop 8 ys) (alike-drop 8 (8 * n) xs ys b),
    )

list-alike : (n : ℕ) (xs ys : List ℕ) → Alike (8 * n) xs ys → columns_of n xs ≡ columns_of n ys
unfolding columns_of
list-alike zero xs ys a = refl
list-alike (suc n) xs ys a =
    let b : Alike (8 + 8 * n) xs ys = rw (eight n) at a in
    let c : Alike (4 + 4) xs ys = alike-less 8 (8 + 8 * n) xs ys (omega arith) b in
    rw (
      alike-word 4 8 xs ys (omega arith) c,
      alike-word 4 4 (drop 4 xs) (drop 4 ys) (omega arith) (alike-drop 4 4 xs ys c),
      list-alike n (drop 8 xs) (drop 8 ys) (alike-drop 8 (8 * n) xs ys b),
    )

-- a table of n columns
module _ (n m : ℕ) (xs ys : List ℕ) (a : Alike (4 + (8 * n + m)) xs ys) (e : word_of 4 xs ≡ n) where
  count-alike : word_of 4 ys ≡ n
  count-alike = sym (alike-word 4 (4 + (8 * n + m)) xs ys (omega arith) a) ∙ e

  rows_alike : Alike (8 * n) (drop 4 xs) (drop 4 ys)
  rows_alike = alike-less (8 * n) (8 * n + m) (drop 4 xs) (drop 4 ys) (omega arith) (alike-drop 4 (8 * n + m) xs ys a)

  table-alike : (at : ℕ) → table_at at xs ≡ table_at at ys
  unfolding table_at
  table-alike at = rw (a.long, e, count-alike, columns-alike n [] (at + 4) (drop 4 xs) (drop 4 ys) rows_alike)

  read_alike : table_of xs ≡ table_of ys
  unfolding table_of
  read_alike = rw (e, count-alike) (list-alike n (drop 4 xs) (drop 4 ys) rows_alike)

  behind-alike : Alike m (behind xs) (behind ys)
  unfolding behind
  behind-alike = rw (e, count-alike) (alike-drop (8 * n) m (drop 4 xs) (drop 4 ys) (alike-drop 4 (8 * n + m) xs ys a))

-- ---- the header and the metadata

module _ (xs ys : List ℕ) (a : Alike (records_place (drop 12 xs)) xs ys) where
  abbrev hs : ℕ
  hs = head_count (drop 12 xs)

  abbrev cs : ℕ
  cs = col_count (drop 12 xs)

  whole : Alike (12 + (4 + (4 + (8 * hs + (4 + (8 * cs + 0)))))) xs ys
  whole = alike-less _ (records_place (drop 12 xs)) xs ys (omega arith) a

  body : Alike (4 + (4 + (8 * hs + (4 + (8 * cs + 0))))) (drop 12 xs) (drop 12 ys)
  body = alike-drop 12 _ xs ys whole

  first : Alike (4 + (8 * hs + (4 + (8 * cs + 0)))) (drop 4 (drop 12 xs)) (drop 4 (drop 12 ys))
  first = alike-drop 4 _ (drop 12 xs) (drop 12 ys) body

  second : Alike (4 + (8 * cs + 0)) (behind (drop 4 (drop 12 xs))) (behind (drop 4 (drop 12 ys)))
  second = behind-alike hs (4 + (8 * cs + 0)) _ _ first refl

  pub cols-alike : cols_in (drop 12 xs) ≡ cols_in (drop 12 ys)
  cols-alike = read_alike cs 0 _ _ second refl

  pub number-alike : count_in xs ≡ count_in ys
  number-alike =
      alike-word 4 4 (drop 8 xs) (drop 8 ys) (omega arith)
      (alike-drop 8 4 xs ys (alike-less 12 _ xs ys (omega arith) whole))

  pub serial-alike : serial_in xs ≡ serial_in ys
  serial-alike =
      alike-word 4 4 (drop 4 xs) (drop 4 ys) (omega arith)
      (alike-drop 4 4 xs ys (alike-less 8 _ xs ys (omega arith) whole))

  header-alike : header_at xs ≡ header_at ys
  unfolding header_at
  header-alike = rw (a.long, number-alike, alike-word 4 _ xs ys (omega arith) whole)

  tables-alike : tables_at (drop 12 xs) ≡ tables_at (drop 12 ys)
  unfolding tables_at
  tables-alike =
      rw (
        body.long,
        alike-word 4 _ (drop 12 xs) (drop 12 ys) (omega arith) body,
        table-alike hs _ _ _ first refl 16,
        table-alike cs 0 _ _ second refl (20 + 8 * hs),
        count-alike hs _ _ _ first refl,
        count-alike cs 0 _ _ second refl,
      )

  pub tables-through : through_tables xs ≡ through_tables ys
  tables-through = rw (header-alike, tables-alike)
