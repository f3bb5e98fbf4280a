-- The ways of the code that tells why, on plain values.
use Rattle.std.specs.Prelude.{eqb, Ok, Err, ℕ, zero, suc, ◌+◌, ◌-◌, ◌*◌, ◌/◌, ◌^◌, ◌≤◌, ◌<◌, ◌≡◌, Bool, true, false, not, List, [], ◌∷◌, ltb, length, take, drop, replicate}
use native.Mathlib.Omega.{arith}
use Rattle.std.proofs.Math.Path.{refl, ap}
use Rattle.std.proofs.Common.{sym, ◌∙◌, length-drop, length-take, drop-drop, Fits}
use Rattle.std.proofs.Math.Bool.{cond}
use Rattle.std.proofs.Math.Option.{Option, none, some}
use Rattle.std.proofs.Math.ListN.{get_or, length-replicate}
use Rattle.std.specs.Int.{w8, w64}
use borrow.Author.Tests.{eq-eqb, ne_eqb, lt-ltb, le-ltb}
use Rattle.octets.specs.Octets.{Octets, octets-from, rest_of}
use Rattle.octets.specs.Splice.{stored}
use Rattle.answers.specs.Numbers.{out_of_turn, breaks_form, most_columns}
use Rattle.answers.specs.Verdict.{clear}
use Rattle.answers.specs.Verdict.{need, apart}
use Rattle.answers.specs.declared.Refusal.{Refusal}
use Rattle.answers.specs.Verdict.{Answer}
use Rattle.whole.specs.Number.{Number}
use Rattle.whole.specs.Number.{Some, Broken}
use Rattle.whole.specs.Number.{number_of}
use Rattle.whole.specs.Laws.{number-within}
use Rattle.value.specs.Form.{value-some}
use Rattle.table.specs.Table.{Column}
use Rattle.table.specs.Columns.{tags_of, forms_of, columns_in}
use Rattle.table.specs.Repeat.{memb}
use Rattle.table.specs.declared.Columns.{Columns}
use Rattle.table.specs.Found.{Found}
use Rattle.table.specs.Found.{At, Nothing}
use Rattle.entry.specs.Present.{there}
use Rattle.entry.specs.Values.{entry_octets}
use Rattle.edges.specs.Edges.{most_edges, edges_in, cell_in}
use Rattle.book.specs.Book.{Sound, heads_in, cols_in, head_count, col_count, records_place, tables_at, body_at, count_in}
use Rattle.book.specs.Book.{header_at, judge}
use Rattle.book.specs.Judged.{judged_of}
use Rattle.book.specs.JudgeCases.{both-fit, table-long}
use Rattle.book.specs.Good.{GoodIs, good-is, refused-by, good-keeps, tags-in, forms-in, reach-tags, reach-forms}
use Rattle.book.specs.Read.{book_in, book-reads, heads-are, cols-are, rows-count}
use Rattle.book.specs.declared.Judgement.{Judgement}
use Rattle.lookup.specs.Places.{walk_behind, walk-behind, place_in}
use Rattle.lookup.specs.Look.{column_in}
use Rattle.lookup.specs.Laws.{column-below, column-in}
use Rattle.std.specs.List.{position_from, position_or_len}
use Rattle.std.proofs.lemmas.Iterator.Adapters.{position_from-zero}
use Rattle.lookup.specs.Cases.{moved_by, find-start, find_none, find-here, find-next, position-column, walk-place}
use Rattle.lookup.specs.Back.{record-good}
use Rattle.lookup.specs.Named.{There, columns_for, row_for, columns-sound, value-formed, start_for}
use Rattle.lookup.specs.Named.{value_in, value_for}
use Rattle.lookup.specs.Read.{record-cells}
use Rattle.lookup.specs.declared.Which.{Which}
use Rattle.lookup.specs.declared.Which.TheVariants as which
use Rattle.reason.specs.Reply.{Reply}
use Rattle.reason.specs.declared.Reason.TheVariants as reason
use Rattle.reason.specs.Why.{upper, uppers_of, rows_place, other_type, truncated, read}
use Rattle.reason.specs.Why.{numbers_from, numbers_in, listed_in, is_listed, presence_place, absent_at, reply_by}
use Rattle.reason.specs.Why.{reply_in, reason_by, why_at, why_of}
use Rattle.reason.specs.Halves.{uppers-long, upper-at}
use Rattle.reason.specs.Cause.{present, answer_in, why-is}

-- the truncated properties as they stand between their edges
abbrev pub cell_by : Found → List ℕ → List ℕ → List ℕ
cell_by Nothing b edges = []
cell_by (At d) b edges = cell_in b edges d

unfoldable pub cell_listed : List ℕ → List ℕ → List ℕ → ℕ → Bool
cell_listed b edges tags t = memb t (numbers_in (cell_by (column_in truncated tags) b edges))

unfoldable pub cell_why : List ℕ → List ℕ → List ℕ → ℕ → ℕ → ℕ → Reply
cell_why b edges tags c at t =
    cond (ltb 0 (length (cell_in b edges c))) present (absent_at (cell_listed b edges tags t) (presence_place at c))

-- the edges of the record at `at`, laid down in an array of zeros
unfoldable pub edges_at : List ℕ → ℕ → List ℕ → List ℕ
edges_at forms at b = stored (replicate most_edges 0) 0 (edges_in forms at (drop at b))

unfoldable pub table_why : List ℕ → List ℕ → List ℕ → ℕ → ℕ → ℕ → Reply
table_why b tags forms at rows t =
    reply_by (column_in t tags) (other_type tags rows t) (λ c. cell_why b (edges_at forms at b) tags c at t)

abbrev pub columns_why : List ℕ → Columns → ℕ → ℕ → ℕ → Reply
columns_why b columns at rows t =
    table_why b (take columns.count columns.tags) (take columns.count columns.forms) at rows t

-- ---- holds

module _ (s : List ℕ) (t : ℕ) (r : Number) (q : r ≡ number_of s) where
  pub holds-none : r ≡ Broken → false ≡ memb t (numbers_in s)
  unfolding numbers_in
  holds-none e = rw (← q, e)

  pub holds-start : (n w : ℕ) → r ≡ Some (n, w) → memb t (numbers_from n (drop w s)) ≡ memb t (numbers_in s)
  unfolding numbers_in
  holds-start n w e = rw (← q, e)

  pub holds-within : (n w : ℕ) → r ≡ Some (n, w) → w ≤ length s
  holds-within n w e = number-within r s n w e q

from_step : (n : ℕ) (xs : List ℕ) → 0 < n
    → numbers_from n xs ≡ read (number_of xs) (λ v w. v ∷ numbers_from (n - 1) (drop w xs))
unfolding numbers_from
from_step zero xs h = absurd (omega arith)
from_step (suc n) xs h = let e : suc n - 1 ≡ n = omega arith in rw e

-- k of n numbers are read
module _ (s : List ℕ) (t n k i : ℕ) (inv : memb t (numbers_from (n - k) (drop i s)) ≡ memb t (numbers_in s)) where
  pub holds-end : n ≤ k → false ≡ memb t (numbers_in s)
  unfolding numbers_from
  holds-end h = let z : n - k ≡ 0 = omega arith in rw z at inv

  module _ (h : k < n) (r : Number) (q : r ≡ number_of (take (length s - i) (drop i s))) where
    number_is : number_of (drop i s) ≡ r
    number_is = rw (rest_of s i) at (sym q)

    left : 0 < n - k
    left = omega arith

    pub holds-cut : r ≡ Broken → false ≡ memb t (numbers_in s)
    holds-cut e = rw (from_step (n - k) (drop i s) left, number_is, e) at inv

    module _ (v u : ℕ) (e : r ≡ Some (v, u)) where
      pub holds-here : t ≡ v → true ≡ memb t (numbers_in s)
      holds-here z = rw (from_step (n - k) (drop i s) left, number_is, e, eq-eqb t v z) at inv

      pub holds-next : (t ≡ v → ⊥) → memb t (numbers_from (n - (k + 1)) (drop (i + u) s)) ≡ memb t (numbers_in s)
      holds-next z = let m : n - k - 1 ≡ n - (k + 1) = omega arith in rw (from_step (n - k) (drop i s) left, number_is, e, ne_eqb t v z, drop-drop u i s, m) at inv

module _ (s : List ℕ) (i : ℕ) (h : i ≤ length s) (r : Number) (q : r ≡ number_of (take (length s - i) (drop i s)))
    (v u : ℕ) (e : r ≡ Some (v, u)) where
  pub holds-in : i + u ≤ length s
  holds-in = omega (arith, rw (length-drop i s) at (number-within r (drop i s) v u e (rw (rest_of s i) at q)))

  pub holds_fits : length s < 2 ^ 64 → Fits w64 (i + u)
  holds_fits b = record { fits = let l = holds-in in omega arith }

pub ruleset holding =
    (holds-none, holds-start, holds-within, holds-end, holds-cut, holds-here, holds-next, holds-in, holds_fits)

-- ---- find_half and other_type

module _ (tag : ℕ) (tags : List ℕ) where
  pub half-start : moved_by 0 (column_in (upper tag) (uppers_of tags)) ≡ column_in (upper tag) (uppers_of tags)
  half-start = find-start (upper tag) (uppers_of tags)

  module _ (i : ℕ)
      (inv : moved_by i (column_in (upper tag) (drop i (uppers_of tags))) ≡ column_in (upper tag) (uppers_of tags)) where
    pub half-none : length tags ≤ i → Nothing ≡ column_in (upper tag) (uppers_of tags)
    half-none h = find_none (upper tag) (uppers_of tags) i inv (rw (uppers-long tags) h)

    module _ (h : i < length tags) where
      pub half-here : tag / 65536 ≡ get_or tags i 0 / 65536 → At i ≡ column_in (upper tag) (uppers_of tags)
      half-here e =
          find-here (upper tag) (uppers_of tags) i inv (rw (uppers-long tags) h) (e ∙ sym (upper-at tags i))

      pub half-next : (tag / 65536 ≡ get_or tags i 0 / 65536 → ⊥)
          → moved_by (i + 1) (column_in (upper tag) (drop (i + 1) (uppers_of tags))) ≡ column_in (upper tag) (uppers_of tags)
      half-next e =
          find-next (upper tag) (uppers_of tags) i inv (rw (uppers-long tags) h) (λ z. e (z ∙ upper-at tags i))

pub ruleset halves = (half-start, half-none, half-here, half-next)

half-position : (tag i : ℕ) (tags : List ℕ)
    → position_from (λ x. eqb (upper tag) (upper x)) i tags ≡ position_from (eqb (upper tag)) i (uppers_of tags)
half-position tag i [] = refl
half-position tag i (x ∷ xs) = rw (half-position tag (i + 1) xs)

-- the first column of the upper half, as a search by rows answers it
pub half-found : (tag : ℕ) (tags : List ℕ)
    → cond (ltb (position_or_len (λ x. eqb (upper tag) (upper x)) tags) (length tags))
    (At (position_or_len (λ x. eqb (upper tag) (upper x)) tags)) Nothing
    ≡ column_in (upper tag) (uppers_of tags)
half-found tag tags =
    position_from-zero (λ x. eqb (upper tag) (upper x)) tags ∙ half-position tag 0 tags
    ∙ position-column (upper tag) 0 (uppers_of tags) ∙ find-start (upper tag) (uppers_of tags)

module _ (tags : List ℕ) (rows t : ℕ) (f : Found) (q : f ≡ column_in (upper t) (uppers_of tags)) where
  pub other_none : f ≡ Nothing → Ok reason.NoColumn ≡ other_type tags rows t
  unfolding other_type
  other_none e = rw (← q, e)

  module _ (i : ℕ) (e : f ≡ At i) where
    pub other-some : (Ok (reason.OtherType (get_or tags i 0) (rows + 8 * i))) ≡ other_type tags rows t
    unfolding other_type
    other-some = rw (← q, e)

    pub other-in : i < length tags
    other-in = rw (uppers-long tags) at (column-below (upper t) (uppers_of tags) i (sym q ∙ e))

    module _ (h : length tags ≤ most_columns) where
      pub other-mul : Fits w64 (8 * i)
      other-mul = record { fits = let l = other-in in omega arith }

      pub other-add : rows < 2 ^ 32 → Fits w64 (rows + 8 * i)
      other-add g = record { fits = let l = other-in in omega arith }

pub ruleset others = (other_none, other-some)

pub ruleset other-places = (other-in, other-mul, other-add)

-- ---- is_listed and why_absent

module _ (b : List ℕ) (edges : List ℕ) (tags : List ℕ) (t : ℕ) (f : Found) (q : f ≡ column_in truncated tags) where
  pub listed-none : f ≡ Nothing → false ≡ cell_listed b edges tags t
  unfolding cell_listed numbers_in number_of
  listed-none e = rw (← q, e)

  pub listed-some : (d : ℕ) (xs : List ℕ) (r : Bool) → f ≡ At d → xs ≡ cell_in b edges d → r ≡ memb t (numbers_in xs)
      → r ≡ cell_listed b edges tags t
  unfolding cell_listed
  listed-some d xs r e y z = rw (← q, e, ← y) z

pub ruleset listings = (listed-none, listed-some)

module _ (b : List ℕ) (edges : List ℕ) (tags : List ℕ) (c at t : ℕ) (v : List ℕ) (ve : v ≡ cell_in b edges c) where
  pub absent-not : 0 < length v → present ≡ cell_why b edges tags c at t
  unfolding cell_why
  absent-not h = rw (← ve, lt-ltb 0 (length v) h)

  module _ (h : length v ≤ 0) (l : Bool) (le : l ≡ cell_listed b edges tags t) where
    pub absent-listed : l ≡ true → Ok (reason.Listed (at + 4 + c / 8)) ≡ cell_why b edges tags c at t
    unfolding cell_why
    absent-listed e = rw (← ve, le-ltb 0 (length v) h, ← le, e)

    pub absent-unlisted : l ≡ false → Ok (reason.NotListed (at + 4 + c / 8)) ≡ cell_why b edges tags c at t
    unfolding cell_why
    absent-unlisted e = rw (← ve, le-ltb 0 (length v) h, ← le, e)

pub ruleset absences = (absent-not, absent-listed, absent-unlisted)

-- ---- why_in

module _ (b tags forms : List ℕ) (n at rows t : ℕ) (ts : List ℕ) (te : ts ≡ take n tags) (f : Found)
    (q : f ≡ column_in t ts) (r : Reply) where
  found-is : column_in t (take n tags) ≡ f
  found-is = rw te at (sym q)

  pub in-none : f ≡ Nothing → r ≡ other_type ts rows t → r ≡ table_why b (take n tags) (take n forms) at rows t
  unfolding table_why
  in-none e z = rw (found-is, e) (rw te at z)

  pub in_some : (c : ℕ) (edges fs : List ℕ) → f ≡ At c → fs ≡ take n forms
      → edges ≡ stored (replicate most_edges 0) 0 (edges_in fs at (drop at b))
      → r ≡ cell_why b edges ts c at t → r ≡ table_why b (take n tags) (take n forms) at rows t
  unfolding table_why edges_at
  in_some c edges fs e x y z = rw (found-is, e) (rw (y, x, te) at z)

pub ruleset ins = (in-none, in_some)

pub tags-few : (tags : List ℕ) (n : ℕ) (ts : List ℕ) → ts ≡ take n tags → n ≤ most_columns → length ts ≤ most_columns
tags-few tags n ts e h = rw (e, length-take n tags) (omega arith)

pub column-few : (tags : List ℕ) (n t c : ℕ) (ts : List ℕ) → ts ≡ take n tags → (f : Found) → f ≡ column_in t ts → f ≡ At c
    → n ≤ most_columns → c < most_columns
column-few tags n t c ts te f q e h =
    let l = column-below t ts c (sym q ∙ e) in
    let k = tags-few tags n ts te h in
    omega arith

-- ---- between the edges stands what the row has

numbers-none : numbers_in [] ≡ []
unfolding numbers_in number_of
numbers-none = refl

listed-octets : (e : Option (List ℕ)) → numbers_in (entry_octets e) ≡ listed_in e
listed-octets none = numbers-none
listed-octets (some v) = refl

module _ (b : List ℕ) (o : Octets b) (e : judge b ≡ clear) (w : Which) (h : There (book_in b) w) where
  abbrev cs : List Column
  cs = columns_for (book_in b) w

  abbrev at : ℕ
  at = start_for b w

  abbrev edges : List ℕ
  edges = edges_at (forms_of cs) at b

  sound : Sound (book_in b)
  sound = (book-reads b o e).0

  cell-is : (c : ℕ) → c < length cs → cell_in b edges c ≡ entry_octets (get_or (row_for (book_in b) w) c none)
  unfolding edges_at
  cell-is c l =
      let few = (columns-sound (book_in b) sound w).0 in
      let z = length-replicate {A = ℕ} most_edges 0 in
      record-cells b o e w h (replicate most_edges 0) (omega arith) c l

  cell-entry : (f : Found) → column_in truncated (tags_of cs) ≡ f
      → numbers_in (cell_by f b edges) ≡ listed_in (value_in f (row_for (book_in b) w))
  cell-entry Nothing q = numbers-none
  cell-entry (At d) q =
      ap numbers_in (cell-is d (column-in truncated cs d q)) ∙ listed-octets (get_or (row_for (book_in b) w) d none)

  listed_same : (t : ℕ) → cell_listed b edges (tags_of cs) t ≡ is_listed (book_in b) w t
  unfolding cell_listed is_listed value_for
  listed_same t = ap (memb t) (cell-entry (column_in truncated (tags_of cs)) refl)

  cell_same : (c t : ℕ) → c < length cs
      → cell_why b edges (tags_of cs) c at t
      ≡ reason_by (need (not (there (get_or (row_for (book_in b) w) c none))) breaks_form 0)
      (absent_at (is_listed (book_in b) w t) (presence_place at c))
  unfolding cell_why
  cell_same c t l = rw (cell-is c l, listed_same t) (by (get_or (row_for (book_in b) w) c none) refl)
    where
      by : (o : Option (List ℕ)) → get_or (row_for (book_in b) w) c none ≡ o
          → cond (ltb 0 (length (entry_octets o))) present (absent_at (is_listed (book_in b) w t) (presence_place at c))
          ≡ reason_by (need (not (there o)) breaks_form 0) (absent_at (is_listed (book_in b) w t) (presence_place at c))
      by none z = refl
      by (some v) z = rw (lt-ltb 0 (length v) (value-some _ v (value-formed (book_in b) sound w h c v l z)))

  -- the code's reply is the answer of the record
  pub answer-same : (t : ℕ)
      → table_why b (tags_of cs) (forms_of cs) at (rows_place (book_in b) w) t ≡ answer_in (book_in b) w at t
  unfolding table_why answer_in value_for reply_in
  answer-same t = by (column_in t (tags_of cs)) refl
    where
      by : (f : Found) → column_in t (tags_of cs) ≡ f
          → reply_by f (other_type (tags_of cs) (rows_place (book_in b) w) t) (λ c. cell_why b edges (tags_of cs) c at t)
          ≡ reason_by (need (not (there (value_in f (row_for (book_in b) w)))) breaks_form 0)
          (reply_by f (other_type (tags_of cs) (rows_place (book_in b) w) t)
          (λ c. absent_at (is_listed (book_in b) w t) (presence_place at c)))
      by Nothing z = refl
      by (At c) z = cell_same c t (column-in t cs c z)

-- ---- why

module _ (b : List ℕ) (w : Which) (t : ℕ) (u : Answer Judgement) (e : u ≡ judged_of b) where
  pub why-refused : (r : Refusal) → u ≡ Err r → Err r ≡ why_of b w t
  unfolding why_of why_at
  why-refused r q = rw (refused-by b u e r q)

  module _ (j : Judgement) (q : u ≡ Ok j) where
    good : GoodIs b j
    good = good-is b u j e q

    tables-clear : tables_at (drop 12 b) ≡ clear
    unfolding judge body_at
    tables-clear =
        let c₁ = apart (header_at b) _ good.clears in
        let c₂ = apart (body_at (count_in b) (drop 12 b)) _ c₁.1 in
        (apart (tables_at (drop 12 b)) _ c₂.0).0

    -- what why_in asks of the columns and of the places
    pub header-few : j.header.count ≤ most_columns
    header-few = rw good.heads (both-fit b tables-clear).0.few

    pub header-tags : j.header.count ≤ length j.header.tags
    header-tags = rw good.heads (reach-tags (heads_in (drop 12 b)))

    pub header-forms : j.header.count ≤ length j.header.forms
    header-forms = rw good.heads (reach-forms (heads_in (drop 12 b)))

    pub address-few : j.address.count ≤ most_columns
    address-few = rw good.cols (both-fit b tables-clear).1.few

    pub address-tags : j.address.count ≤ length j.address.tags
    address-tags = rw good.cols (reach-tags (cols_in (drop 12 b)))

    pub address-forms : j.address.count ≤ length j.address.forms
    address-forms = rw good.cols (reach-forms (cols_in (drop 12 b)))

    pub header-place : j.head < 2 ^ 32
    header-place = let k = good-keeps b good.clears in let p = good.header in omega (arith, k.0, k.2)

    heads-long : length (heads_in (drop 12 b)) ≡ head_count (drop 12 b)
    heads-long = table-long (drop 4 (drop 12 b))

    address-count : j.address.count ≡ col_count (drop 12 b)
    unfolding columns_in
    address-count = rw good.cols (table-long _)

    pub rows_in_lem : 8 * j.address.count ≤ j.head
    rows_in_lem = let p = good.header in let n = address-count in omega arith

    pub rows-mul : Fits w64 (8 * j.address.count)
    rows-mul = record { fits = let k = address-few in omega arith }

    rows_are : j.head - 8 * j.address.count ≡ 24 + 8 * length (book_in b).heads
    rows_are =
        let p = good.header in
        let n = address-count in
        let m = heads-long in
        rw (heads-are b) (omega arith)

    pub rows-place : j.head - 8 * j.address.count < 2 ^ 32
    rows-place = let p = header-place in omega arith

    pub why-header : ((i : ℕ) → Fits w8 (get_or b i 0)) → (r : Reply) → w ≡ which.Header
        → r ≡ columns_why b j.header j.head 20 t → r ≡ why_of b w t
    why-header k r z x =
        let o : Octets b = octets-from b k in
        let cs : List Column = heads_in (drop 12 b) in
        let y : r ≡ table_why b (tags_of cs) (forms_of cs) (records_place (drop 12 b)) 20 t =
        rw (good.heads, good.header, tags-in cs, forms-in cs) at x in
        rw (z, why-is b o good.clears which.Header tt t)
        (rw (← heads-are b) at y ∙ answer-same b o good.clears which.Header tt t)

    module _ (k : ℕ) (z : w ≡ which.Number k) where
      pub why-past : j.count ≤ k → Err (record { number = out_of_turn; place = 0 }) ≡ why_of b w t
      unfolding why_of why_at
      why-past g = let n = good.count in rw (z, good.clears, le-ltb k (count_in b) (omega arith))

      module _ (g : k < j.count) (at : ℕ) (ae : at ≡ walk_behind k j.first b) where
        place_is : at ≡ place_in b k
        place_is =
            let m = good-keeps b good.clears in
            let n = good.count in
            let p = good.first in
            ae ∙ walk-behind k j.first b (omega (arith, m.0, m.2)) (omega (arith, m.1)) ∙ walk-place b k j.first good.first

        pub record-place : at < 2 ^ 32
        record-place =
            let n = good.count in
            let m = good-keeps b good.clears in
            let p = place_is in
            omega (arith, m.0, (record-good b good.clears k (omega arith)).0)

        pub why-number : ((i : ℕ) → Fits w8 (get_or b i 0)) → (r : Reply)
            → r ≡ columns_why b j.address at (j.head - 8 * j.address.count) t → r ≡ why_of b w t
        why-number m r x =
            let o : Octets b = octets-from b m in
            let cs : List Column = cols_in (drop 12 b) in
            let n = good.count in
            let there : k < length (book_in b).rows = rw (rows-count b) (omega arith) in
            let y : r ≡ table_why b (tags_of cs) (forms_of cs) (place_in b k) (24 + 8 * length (book_in b).heads) t =
            rw (rows_are, good.cols, tags-in cs, forms-in cs, place_is) at x in
            rw (z, why-is b o good.clears (which.Number k) there t)
            (rw (← cols-are b) at y ∙ answer-same b o good.clears (which.Number k) there t)

pub ruleset asks = (
  header-few,
  header-tags,
  header-forms,
  address-few,
  address-tags,
  address-forms,
  header-place,
  rows-place,
  record-place,
)

pub ruleset whys = (why-refused, why-header, why-past, why-number)
