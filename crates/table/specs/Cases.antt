-- The ways of the code that reads a table, on plain values.
use Prim.Native.Nat.{ℕ, zero, suc, ◌+◌, ◌-◌, ◌*◌, ◌%◌, ◌<◌, ◌≤◌}
use native.Mathlib.Omega.{arith}
use Rattle.std.proofs.Common.{add-one, ◌∙◌, length-take}
use Rattle.std.proofs.Math.Nat.{sub-zero, add-zero}
use Rattle.std.specs.Prelude.{Ok, Err, ◌≡◌, leb, drop, set}
use Rattle.std.proofs.Math.Path.{refl, sym, ap}
use mathlib.Core.List.{List, [], ◌∷◌, ◌++◌}
use Rattle.std.specs.Int.Bits.{bit_and}
use Rattle.std.proofs.lemmas.Nat.{and_mask}
use Rattle.std.proofs.Math.ListN.{length, take, length-drop}
use Rattle.std.proofs.Math.Seq.{drop-drop, take_at}
use borrow.Author.Tests.{le-leb, lt-leb, eq-eqb, ne_eqb, leb-true}
use Rattle.octets.specs.Word.{word_of}
use Rattle.answers.specs.Numbers.{cut_short, unknown_type, repeated_tag, many_columns, most_columns}
use Rattle.answers.specs.Verdict.{Answer, Verdict, answered, refusal}
use Rattle.answers.specs.Verdict.{clear, Refused}
use Rattle.answers.specs.Verdict.{refused, ◌then◌, need, apart, unmet}
use Rattle.answers.specs.declared.Refusal.{Refusal}
use Rattle.value.specs.Types.{number_of, is_type, unknown_form}
use Rattle.table.specs.declared.Columns.{Columns}
use Rattle.table.specs.declared.Rows.{Rows}
use Rattle.table.specs.Found.{Found}
use Rattle.table.specs.Found.{At, Nothing}
use Rattle.table.specs.Repeat.{repeat-is, repeat_of, found_at, repeat-below}
use Rattle.table.specs.Table.{Column, row_at, columns_at, table_at, columns_of, table_of}
use Rattle.answers.specs.Padded.{padded, padded-long, padded-more}
use Rattle.table.specs.Columns.{tags_of, bits_of, forms_of, columns_in, settled}
use Rattle.table.specs.Columns.{table_in, plain_at, one_more, read_to, filled_to, agree, read_all, read-most}
use Rattle.table.specs.Columns.{columns-long, column_at, columns-snoc, tags-snoc, bits-snoc, forms-snoc}
use Rattle.table.specs.Columns.{tags-long, bits-long, forms-long}

-- ---- judge_row

module _ (b : List ℕ) (at : ℕ) {v : Verdict} where
  pub row-tag : v ≡ refused cut_short at → length b - at < 4 → v ≡ row_at at (drop at b)
  unfolding row_at
  row-tag e h = rw (e, length-drop at b, lt-leb 4 (length b - at) h)

  pub row-flags : v ≡ refused cut_short (at + 4) → 4 ≤ length b - at → length b - at < 8 → v ≡ row_at at (drop at b)
  unfolding row_at
  row-flags e h k = rw (e, length-drop at b, le-leb 4 (length b - at) h, lt-leb 8 (length b - at) k)

module _ (b : List ℕ) (at w f : ℕ) (q : w ≡ word_of 4 (drop at b)) (g : f ≡ number_of (w % 65536)) (k : 8 ≤ length b - at) where
  pub row_type : {v : Verdict} → v ≡ refused unknown_type at → f ≡ unknown_form → v ≡ row_at at (drop at b)
  unfolding row_at is_type
  row_type e z =
      rw (
        e,
        length-drop at b,
        le-leb 4 (length b - at) (omega arith),
        le-leb 8 (length b - at) k,
        ← q,
        ← g,
        eq-eqb f unknown_form z,
      )

  pub row-good : (f ≡ unknown_form → ⊥) → clear ≡ row_at at (drop at b)
  unfolding row_at is_type
  row-good z =
      rw (
        length-drop at b,
        le-leb 4 (length b - at) (omega arith),
        le-leb 8 (length b - at) k,
        ← q,
        ← g,
        ne_eqb f unknown_form z,
      )

pub ruleset rows = (row-tag, row-flags, row_type, row-good)

-- a row that is clear is there
row-whole : (at : ℕ) (xs : List ℕ) → row_at at xs ≡ clear → 8 ≤ length xs
unfolding row_at
row-whole at xs e =
    let c₁ = apart (need (leb 4 (length xs)) cut_short at) _ e in
    let c₂ = apart (need (leb 8 (length xs)) cut_short (at + 4)) _ c₁.1 in
    leb-true 8 (length xs) (unmet _ cut_short (at + 4) c₂.0)

-- ---- fill

plain_step : (m at : ℕ) (xs : List ℕ) → 0 < m → plain_at m at xs ≡ (row_at at xs then plain_at (m - 1) (at + 8) (drop 8 xs))
unfolding plain_at
plain_step zero at xs h = absurd (omega arith)
plain_step (suc m) at xs h = let e : suc m - 1 ≡ m = omega arith in rw e

read_step : (m at : ℕ) (xs : List ℕ) → 0 < m → read_to m at xs ≡ one_more (row_at at xs) (read_to (m - 1) (at + 8) (drop 8 xs))
unfolding read_to
read_step zero at xs h = absurd (omega arith)
read_step (suc m) at xs h = let e : suc m - 1 ≡ m = omega arith in rw e

pub fill_start : (n at : ℕ) (b : List ℕ) → plain_at (n - 0) (at + 0) (drop (at + 0) b) ≡ plain_at n at (drop at b)
fill_start n at b = rw (sub-zero n, add-zero at)

pub read-start : (n at : ℕ) (b : List ℕ) → 0 + read_to (n - 0) (at + 0) (drop (at + 0) b) ≡ read_to n at (drop at b)
read-start n at b = rw (sub-zero n, add-zero at) (omega arith)

same-columns : (C : Columns) {n : ℕ} {T F K : List ℕ} → C.count ≡ n → C.tags ≡ T → C.flags ≡ F → C.forms ≡ K
    → C ≡ record { count = n; tags = T; flags = F; forms = K }
same-columns C e f g h = rw (← e, ← f, ← g, ← h)

module _ (b : List ℕ) (n at i : ℕ) (ip : plain_at (n - i) (at + 8 * i) (drop (at + 8 * i) b) ≡ plain_at n at (drop at b))
    (ir : i + read_to (n - i) (at + 8 * i) (drop (at + 8 * i) b) ≡ read_to n at (drop at b)) where
  module _ (h : i < n) (v : Verdict) (e : v ≡ row_at (at + 8 * i) (drop (at + 8 * i) b)) where
    pub fill_stop : (r : Refusal) → v ≡ Refused r → (C : Columns) → C.count ≡ i
        → C.tags ≡ padded (tags_of (columns_of i (drop at b))) → C.flags ≡ padded (bits_of (columns_of i (drop at b)))
        → C.forms ≡ padded (forms_of (columns_of i (drop at b)))
        → ◌≡◌ {A = Rows} (record { verdict = v; columns = C }) (filled_to n at (drop at b))
    unfolding filled_to columns_in
    fill_stop r z C eC eT eF eK =
        let p : row_at (at + 8 * i) (drop (at + 8 * i) b) ≡ Refused r = sym e ∙ z in
        let x : Refused r ≡ plain_at n at (drop at b) = rw (plain_step (n - i) (at + 8 * i) (drop (at + 8 * i) b) (omega arith), p) at ip in
        let y : i + 0 ≡ read_to n at (drop at b) = rw (read_step (n - i) (at + 8 * i) (drop (at + 8 * i) b) (omega arith), p) at ir in
        rw (same-columns C eC eT eF eK, z, x, ← y, add-zero i, columns-long i (drop at b))

    module _ (z : v ≡ clear) where
      next : at + 8 * i + 8 ≡ at + 8 * (i + 1)
      next = omega arith

      pub fill-next : plain_at (n - (i + 1)) (at + 8 * (i + 1)) (drop (at + 8 * (i + 1)) b) ≡ plain_at n at (drop at b)
      fill-next =
          let p : row_at (at + 8 * i) (drop (at + 8 * i) b) ≡ clear = sym e ∙ z in
          let k : n - i - 1 ≡ n - (i + 1) = omega arith in
          rw (plain_step (n - i) (at + 8 * i) (drop (at + 8 * i) b) (omega arith), p, drop-drop 8 (at + 8 * i) b, k, next) at ip

      pub read_next : i + 1 + read_to (n - (i + 1)) (at + 8 * (i + 1)) (drop (at + 8 * (i + 1)) b) ≡ read_to n at (drop at b)
      read_next =
          let p : row_at (at + 8 * i) (drop (at + 8 * i) b) ≡ clear = sym e ∙ z in
          let k : n - i - 1 ≡ n - (i + 1) = omega arith in
          let q = rw (read_step (n - i) (at + 8 * i) (drop (at + 8 * i) b) (omega arith), p, drop-drop 8 (at + 8 * i) b, k, next) at ir in
          omega (arith, q)

      pub row-in : at + 8 * i ≤ length b → at + 8 * (i + 1) ≤ length b
      row-in l =
          let p : row_at (at + 8 * i) (drop (at + 8 * i) b) ≡ clear = sym e ∙ z in
          let d = rw (length-drop (at + 8 * i) b) at (row-whole (at + 8 * i) (drop (at + 8 * i) b) p) in
          omega arith

  pub fill_end : n ≤ i → i ≤ n → (C : Columns) → C.count ≡ i → C.tags ≡ padded (tags_of (columns_of i (drop at b)))
      → C.flags ≡ padded (bits_of (columns_of i (drop at b))) → C.forms ≡ padded (forms_of (columns_of i (drop at b)))
      → ◌≡◌ {A = Rows} (record { verdict = clear; columns = C }) (filled_to n at (drop at b))
  unfolding filled_to columns_in plain_at read_to
  fill_end h l C eC eT eF eK =
      let z : n - i ≡ 0 = omega arith in
      let x : clear ≡ plain_at n at (drop at b) = rw z at ip in
      let y : i + 0 ≡ read_to n at (drop at b) = rw z at ir in
      rw (same-columns C eC eT eF eK, ← x, ← y, add-zero i, columns-long i (drop at b))

-- the arrays with one row more
module _ (b : List ℕ) (n at i w : ℕ) (h : i < n) (k : n ≤ most_columns) where
  row-there : columns_of (i + 1) (drop at b) ≡ columns_of i (drop at b) ++ (column_at (drop (at + 8 * i) b) ∷ [])
  row-there = rw (add-one i) (columns-snoc i (drop at b) ∙ rw (drop-drop (8 * i) at b))

  pub tags-next : (T : List ℕ) → T ≡ padded (tags_of (columns_of i (drop at b))) → w ≡ word_of 4 (drop (at + 8 * i) b)
      → set T i w ≡ padded (tags_of (columns_of (i + 1) (drop at b)))
  tags-next T e q =
      let cs : List Column = columns_of i (drop at b) in
      let l : length (tags_of cs) ≡ i = tags-long cs ∙ columns-long i (drop at b) in
      rw (e, q, row-there, tags-snoc cs (column_at (drop (at + 8 * i) b))) (padded-more (tags_of cs) i (word_of 4 (drop (at + 8 * i) b)) l (omega arith))

  pub flags-next : (F : List ℕ) → F ≡ padded (bits_of (columns_of i (drop at b))) → w ≡ word_of 4 (drop (at + 8 * i + 4) b)
      → set F i (bit_and w 3) ≡ padded (bits_of (columns_of (i + 1) (drop at b)))
  flags-next F e q =
      let cs : List Column = columns_of i (drop at b) in
      let l : length (bits_of cs) ≡ i = bits-long cs ∙ columns-long i (drop at b) in
      rw (e, and_mask w 2, q, row-there, bits-snoc cs (column_at (drop (at + 8 * i) b)), drop-drop 4 (at + 8 * i) b)
      (padded-more (bits_of cs) i (word_of 4 (drop (at + 8 * i + 4) b) % 4) l (omega arith))

  pub forms-next : (K : List ℕ) (f : ℕ) → K ≡ padded (forms_of (columns_of i (drop at b))) → w ≡ word_of 4 (drop (at + 8 * i) b) → f ≡ number_of (w % 65536)
      → set K i f ≡ padded (forms_of (columns_of (i + 1) (drop at b)))
  forms-next K f e q g =
      let cs : List Column = columns_of i (drop at b) in
      let l : length (forms_of cs) ≡ i = forms-long cs ∙ columns-long i (drop at b) in
      rw (e, g, q, row-there, forms-snoc cs (column_at (drop (at + 8 * i) b))) (padded-more (forms_of cs) i (number_of (word_of 4 (drop (at + 8 * i) b) % 65536)) l (omega arith))

pub ruleset fills = (fill_start, read-start, fill_stop, fill-next, read_next, row-in, fill_end, tags-next, flags-next, forms-next)

-- ---- read_table

pub table-far : (b : List ℕ) (at : ℕ) (t : Answer Columns) → length b < at → t ≡ Err (refusal cut_short at)
    → t ≡ table_in at (drop at b)
unfolding table_in table_at
table-far b at t h e =
    let l : length b - at < 4 = omega arith in
    rw (e, length-drop at b, lt-leb 4 (length b - at) l)

pub table-short : (b : List ℕ) (at : ℕ) (t : Answer Columns) → length b - at < 4 → t ≡ Err (refusal cut_short at)
    → t ≡ table_in at (drop at b)
unfolding table_in table_at
table-short b at t l e = rw (e, length-drop at b, lt-leb 4 (length b - at) l)

module _ (b : List ℕ) (at n : ℕ) (l : 4 ≤ length b - at) (w : n ≡ word_of 4 (drop at b)) where
  pub table-many : (t : Answer Columns) → most_columns < n → t ≡ Err (refusal many_columns at)
      → t ≡ table_in at (drop at b)
  unfolding table_in table_at
  table-many t h e = rw (e, length-drop at b, le-leb 4 (length b - at) l, ← w, lt-leb n most_columns h)

  module _ (h : n ≤ most_columns) where
    xs : List ℕ
    xs = drop (at + 4) b

    table_is : table_at at (drop at b) ≡ columns_at n [] (at + 4) xs
    unfolding table_at xs
    table_is = rw (length-drop at b, le-leb 4 (length b - at) l, ← w, le-leb n most_columns h, drop-drop 4 at b)

    columns-are : table_of (drop at b) ≡ columns_of n xs
    unfolding table_of xs
    columns-are = rw (← w, drop-drop 4 at b)

    -- the two phases give the table
    two-phases : settled (at + 4) (filled_to n (at + 4) xs) ≡ table_in at (drop at b)
    unfolding settled table_in filled_to columns_in
    two-phases =
        let k : ℕ = read_to n (at + 4) xs in
        let ts : List ℕ = tags_of (columns_of k xs) in
        let v : Verdict = plain_at n (at + 4) xs in
        let f : take (length (columns_of k xs)) (padded ts) ≡ ts = take_at ts _ (length (columns_of k xs)) (tags-long (columns_of k xs)) in
        let e : table_at at (drop at b) ≡ (found_at 8 (at + 4) (repeat_of ts) then v) = table_is ∙ agree n [] (at + 4) xs ∙ ap (λ (u : Verdict). u then v) (repeat-is 8 (at + 4) ts) in
        rw (f, e, columns-are) (go (found_at 8 (at + 4) (repeat_of ts)) v (λ p. read_all n (at + 4) xs p))
      where
        go : (u v : Verdict) → (v ≡ clear → read_to n (at + 4) xs ≡ n)
            → answered (u then v) (columns_in (columns_of (read_to n (at + 4) xs) xs))
            ≡ answered (u then v) (columns_in (columns_of n xs))
        go (Ok _) (Ok u) p = rw (p refl)
        go (Ok _) (Refused r) p = refl
        go (Refused r) v p = refl

    pub table-read : (t : Rows) (u : Answer Columns) → t ≡ filled_to n (at + 4) (drop (at + 4) b) → u ≡ settled (at + 4) t → u ≡ table_in at (drop at b)
    unfolding xs
    table-read t u e q = q ∙ ap (settled (at + 4)) e ∙ two-phases

pub ruleset reads = (table-far, table-short, table-many, table-read)

-- ---- settle

module _ (t : Rows) (at : ℕ) (f : Found) (ts : List ℕ) (te : ts ≡ take t.columns.count t.columns.tags)
    (g : f ≡ repeat_of ts) where
  found-is : f ≡ repeat_of (take t.columns.count t.columns.tags)
  found-is = g ∙ ap repeat_of te

  pub settle-repeat : (i : ℕ) (u : Answer Columns) → f ≡ At i → u ≡ Err (refusal repeated_tag (at + 8 * i))
      → u ≡ settled at t
  unfolding settled
  settle-repeat i u e z = rw (z, ← found-is, e)

  module _ (e : f ≡ Nothing) where
    pub settle-stop : (r : Refusal) → t.verdict ≡ Refused r → Err r ≡ settled at t
    unfolding settled
    settle-stop r z = rw (← found-is, e, z)

    pub settle-good : t.verdict ≡ clear → Ok t.columns ≡ settled at t
    unfolding settled
    settle-good z = rw (← found-is, e, z)

  pub row_below : (i : ℕ) → f ≡ At i → i < t.columns.count
  row_below i e =
      let b = repeat-below f (take t.columns.count t.columns.tags) i found-is e in
      let l = length-take t.columns.count t.columns.tags in
      omega arith

pub ruleset settles = (settle-repeat, settle-stop, settle-good)

-- the tags that were read stand in their array
module _ (t : Rows) (n at : ℕ) (xs : List ℕ) (q : t ≡ filled_to n at xs) (h : t.columns.count ≤ n)
    (k : n ≤ most_columns) where
  pub tags-hold : t.columns.count ≤ length t.columns.tags
  unfolding filled_to columns_in
  tags-hold =
      let cs : List Column = columns_of (read_to n at xs) xs in
      let m : read_to n at xs ≤ n = read-most n at xs in
      let l : length cs ≡ read_to n at xs = columns-long (read_to n at xs) xs in
      let d : length (padded (tags_of cs)) ≡ most_columns = padded-long (tags_of cs) (rw (tags-long cs) (omega arith)) in
      let e : t.columns.tags ≡ padded (tags_of cs) = ap (λ (x : Rows). x.columns.tags) q in
      rw e (rw d (omega arith))
