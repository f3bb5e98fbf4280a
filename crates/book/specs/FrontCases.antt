-- The ways of the code that reads a book's front and goes on to the whole, on plain values.
use Rattle.std.specs.Prelude.{Err, Ok, ℕ, ◌+◌, ◌-◌, ◌*◌, ◌^◌, ◌≤◌, ◌<◌, ◌≡◌, refl, length, take, drop}
use Rattle.std.proofs.Common.{arith, ◌∙◌, take_at, drop-drop, Fits}
use Rattle.std.proofs.Math.Nat.{sub-zero}
use Rattle.std.proofs.Math.Path.{sym, ap}
use mathlib.Core.List.{List, []}
use Rattle.std.specs.Int.{w64}
use Rattle.octets.specs.Word.{word_of}
use Rattle.answers.specs.Verdict.{Answer, Verdict, answered}
use Rattle.answers.specs.Verdict.{clear, Refused}
use Rattle.answers.specs.Verdict.{◌then◌, apart, no-clear}
use Rattle.answers.specs.declared.Refusal.{Refusal}
use Rattle.table.specs.declared.Columns.{Columns}
use Rattle.table.specs.Table.{Column}
use Rattle.table.specs.Columns.{bits_of, forms_of, columns_in, bits-long, forms-long}
use Rattle.entry.specs.Slots.{slots_from}
use Rattle.book.specs.Rows.{due_at}
use Rattle.book.specs.Book.{head_slots, heads_in, cols_in, records_in, records_place, tables_at, header_at, judge}
use Rattle.book.specs.Front.{first_place, first_in, head_at, through_tables, front_at, behind_front, judge-front}
use Rattle.book.specs.Judged.{good_with, judged_of, FitsArrays, both_tables, tables_in}
use Rattle.answers.specs.Made.{answered-refused}
use Rattle.book.specs.Judged.{front_in}
use Rattle.book.specs.Judged.{behind_in, rest_in}
use Rattle.book.specs.RecordCases.{due-whole}
use Rattle.book.specs.JudgeCases.{records-place, slots-head, slots-row, through-clear, tables-are, header-are, place_is}
use Rattle.book.specs.JudgeCases.{by-clear, by-fit, by-header, by_address, by_place}
use Rattle.book.specs.declared.Tables.{Tables}
use Rattle.book.specs.declared.Judgement.{Judgement}

-- the header record of a good front stands in the book
pub front-whole : (b : List ℕ) → front_at b ≡ clear → first_place b ≤ length b
unfolding front_at
front-whole b e =
    let ys : List ℕ = drop 12 b in
    let c = apart (tables_at ys) _ (apart (header_at b) _ e).1 in
    let d : due_at (head_slots (heads_in ys)) (records_place ys) (drop (records_place ys) b) ≡ clear =
    rw (records-place b) c.1 in
    rw (records-place b) at (due-whole (head_slots (heads_in ys)) b (records_place ys) d)

pub first-whole : (b : List ℕ) → judge b ≡ clear → first_place b ≤ length b
first-whole b e = front-whole b (apart (front_at b) _ (sym (judge-front b) ∙ e)).0

-- the address records stand behind it
pub first-place : (b : List ℕ) → drop (first_place b) b ≡ first_in b
unfolding first_in
first-place b =
    let ys : List ℕ = drop 12 b in
    sym (ap (drop (word_of 4 (records_in ys))) (sym (records-place b))
    ∙ drop-drop (word_of 4 (records_in ys)) (records_place ys) b)

-- ---- judge_head and read_front

pub head-is : (b : List ℕ) (at : ℕ) (c : Columns) (v : Verdict)
    → v ≡ due_at (slots_from (take (c.count - 0) c.forms) []) at (drop at b)
    → v ≡ due_at (slots_from (take c.count c.forms) []) at (drop at b)
head-is b at c v e = rw (sub-zero c.count) at e

forms-are : (cs : List Column) → take (columns_in cs).count (columns_in cs).forms ≡ forms_of cs
unfolding columns_in
forms-are cs = take_at (forms_of cs) _ (length cs) (forms-long cs)

module _ (b : List ℕ) (u : Answer Tables) (e : u ≡ tables_in b) where
  pub front-tables : (r : Refusal) → u ≡ Err r → ◌≡◌ {A = Answer Tables} (Err r) (front_in b)
  unfolding tables_in front_in front_at
  front-tables r z =
      let p : through_tables b ≡ Refused r = answered-refused _ _ r (sym e ∙ z) in
      ap (λ (v : Verdict). answered v (both_tables b)) (sym (stops (header_at b) (tables_at (drop 12 b)) (head_at b) p))
    where
      stops : (u v w : Verdict) → (u then v) ≡ Refused r → (u then (v then w)) ≡ Refused r
      stops (Ok _) (Refused s) w q = q
      stops (Refused s) v w q = q
      stops (Ok _) (Ok x) w q = no-clear (sym q)

  module _ (t : Tables) (y : u ≡ Ok t) (w : Verdict)
      (we : w
      ≡ due_at (slots_from (take t.header.count t.header.forms) [])
      (24 + 8 * (t.header.count + t.address.count))
      (drop (24 + 8 * (t.header.count + t.address.count)) b)) where
    front_by : front_at b ≡ w
    unfolding front_at
    front_by =
        let c = apart (header_at b) (tables_at (drop 12 b)) (through-clear b u e t y) in
        let hs : List Column = heads_in (drop 12 b) in
        rw (c.0, c.1)
        (sym (we ∙ rw (place_is b u e t y, header-are b u e t y, records-place b, forms-are hs, slots-head hs)))

    pub front-head : (r : Refusal) → w ≡ Refused r → ◌≡◌ {A = Answer Tables} (Err r) (front_in b)
    unfolding front_in
    front-head r z = rw (front_by, z)

    pub front-good : w ≡ clear → Ok t ≡ front_in b
    unfolding front_in
    front-good z = rw (front_by, z, tables-are b u e t y)

pub ruleset fronts = (front-tables, front-head, front-good)

-- ---- judge_rest

pub rest-is : (b : List ℕ) (first : ℕ) (c : Columns) (forms flags : List ℕ) (v : Verdict)
    → forms ≡ take c.count c.forms → flags ≡ take c.count c.flags → v ≡ behind_in b first forms flags → v ≡ rest_in b first c
rest-is b first c forms flags v p q e = rw (p, q) at e

rest-by : (b : List ℕ) (first : ℕ) (cs : List Column) → first ≡ first_place b → cs ≡ cols_in (drop 12 b)
    → rest_in b first (columns_in cs) ≡ behind_front b
unfolding behind_in columns_in
rest-by b first cs e q =
    rw (take_at (forms_of cs) _ (length cs) (forms-long cs), take_at (bits_of cs) _ (length cs) (bits-long cs))
    (rw (slots-row cs, e, first-place b, q))

-- ---- judge, from the front that was read

module _ (b : List ℕ) (u : Answer Tables) (e : u ≡ front_in b) where
  pub judge-stops : (r : Refusal) → u ≡ Err r → ◌≡◌ {A = Answer Judgement} (Err r) (judged_of b)
  unfolding judged_of front_in
  judge-stops r z =
      let p : front_at b ≡ Refused r = answered-refused _ _ r (sym e ∙ z) in
      ap (λ (v : Verdict). answered v (good_with b))
      (sym (judge-front b ∙ ap (λ (v : Verdict). v then behind_front b) p))

  module _ (t : Tables) (y : u ≡ Ok t) where
    front-clear : front_at b ≡ clear
    unfolding front_in
    front-clear = by-clear (front_at b) b t (sym e ∙ y)

    pub front-fit : FitsArrays t.header × FitsArrays t.address
    unfolding front_in front_at
    front-fit =
        by-fit (front_at b) b t (sym e ∙ y) (λ z. (apart (tables_at (drop 12 b)) _ (apart (header_at b) _ z).1).0)

    pub front-place : 24 + 8 * (t.header.count + t.address.count) ≡ records_place (drop 12 b)
    unfolding front_in
    front-place = by_place (front_at b) b t (sym e ∙ y)

    pub front-address : t.address ≡ columns_in (cols_in (drop 12 b))
    unfolding front_in
    front-address = by_address (front_at b) b t (sym e ∙ y)

    pub front-header : t.header ≡ columns_in (heads_in (drop 12 b))
    unfolding front_in
    front-header = by-header (front_at b) b t (sym e ∙ y)

    module _ (f : ℕ) (fe : f ≡ word_of 4 (drop (24 + 8 * (t.header.count + t.address.count)) b)) where
      first_of : f ≡ word_of 4 (records_in (drop 12 b))
      first_of = fe ∙ rw (front-place, records-place b)

      first-at : 24 + 8 * (t.header.count + t.address.count) + f ≡ first_place b
      first-at = rw (front-place, first_of)

      pub first_fits : length b < 2 ^ 64 → Fits w64 (24 + 8 * (t.header.count + t.address.count) + f)
      first_fits k = record { fits = let l = front-whole b front-clear in rw first-at (omega arith) }

      module _ (w : Verdict) (we : w ≡ rest_in b (24 + 8 * (t.header.count + t.address.count) + f) t.address) where
        judge-by : judge b ≡ w
        judge-by =
            judge-front b ∙ ap (λ (v : Verdict). v then behind_front b) front-clear
            ∙ sym (we ∙ ap (rest_in b (24 + 8 * (t.header.count + t.address.count) + f)) front-address
            ∙ rest-by b (24 + 8 * (t.header.count + t.address.count) + f) (cols_in (drop 12 b)) first-at refl)

        pub judge-rest : (r : Refusal) → w ≡ Refused r → ◌≡◌ {A = Answer Judgement} (Err r) (judged_of b)
        unfolding judged_of
        judge-rest r z = rw (judge-by, z)

        pub judge-good : (n : ℕ) → w ≡ clear → n ≡ word_of 4 (drop 8 b)
            → Ok (record {
              length = length b;
              count = n;
              head = 24 + 8 * (t.header.count + t.address.count);
              first = 24 + 8 * (t.header.count + t.address.count) + f;
              header = t.header;
              address = t.address;
            })
            ≡ judged_of b
        unfolding judged_of
        judge-good n z ne = rw (judge-by, z, ne, first_of, front-place, front-header, front-address)

pub ruleset judges = (judge-stops, judge-rest, judge-good)
