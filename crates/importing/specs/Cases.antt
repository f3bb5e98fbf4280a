-- The ways of the code of the call, on plain values.
use Prim.Native.Nat.{ℕ, suc, ◌+◌, ◌-◌, ◌%◌, ◌^◌, ◌≤◌, ◌<◌}
use Rattle.std.proofs.Common.{zero-add, add-one, ◌∙◌, take_at, take_all, Fits}
use native.Mathlib.Omega.{arith}
use Rattle.std.specs.Prelude.{Ok, Err, ◌≡◌, Bool, true, false, not, eqb, drop, get_or}
use Rattle.std.proofs.Math.Path.{refl, sym, ap, ap₂}
use mathlib.Core.List.{List, [], ◌∷◌, ◌++◌}
use Rattle.std.proofs.Math.ListN.{length, take, set, replicate, length-append, length-replicate}
use Rattle.std.proofs.Math.Seq.{set_at, take-suc, length-take-le, append_snoc}
use Rattle.std.specs.Int.{w8, w32, w64}
use borrow.Author.Tests.{eq-eqb, ne_eqb, not-true, not-false, eqb-true}
use Rattle.octets.specs.Octets.{octets-from}
use Rattle.octets.specs.Splice.{splice, stored, length-splice, length-stored}
use Rattle.answers.specs.Numbers.{out_of_turn, breaks_rule, breaks_form, wrong_sheet, most_octets, most_columns}
use Rattle.answers.specs.Padded.{padded, padded-long}
use Rattle.answers.specs.declared.Refusal.{Refusal}
use Rattle.answers.specs.Verdict.{Verdict}
use Rattle.answers.specs.Verdict.{clear, Refused}
use Rattle.answers.specs.Verdict.{refused, ◌then◌, need, apart, unmet, no-clear, joins}
use Rattle.answers.specs.Walk.{Walk}
use Rattle.answers.specs.Walk.{Ends, Broken}
use Rattle.presence.specs.Presence.{room}
use Rattle.entry.specs.Record.{row_octets}
use Rattle.entry.specs.Slots.{slots_from, slots-many}
use Rattle.entry.specs.Read.{row_in}
use Rattle.entry.specs.Present.{Row}
use Rattle.book.specs.Rows.{rows_octets}
use Rattle.book.specs.Book.{book_octets}
use Rattle.begin.specs.Begin.{start_size, begin_at, begin_octets}
use Rattle.begin.specs.Cases.{Begins, begin-in}
use Rattle.writing.specs.declared.Writing.{Writing}
use Rattle.framing.specs.Frame.{finish_octets}
use Rattle.drafting.specs.Laid.{begin-length, finish-length}
use Rattle.sheet.specs.Field.{most_chosen, all_exported, codes_of}
use Rattle.sheet.specs.One.{Exported, exported-each}
use Rattle.scanning.specs.Scan.{fits, held, scan_in}
use Rattle.scanning.specs.Exact.{text-sound}
use Rattle.importing.specs.Given.{record_given, rows_given}
use Rattle.importing.specs.Head.{offered_in, forms_for, head_given}
use Rattle.importing.specs.HeadCases.{forms-many}
use Rattle.importing.specs.LinesCases.{slots_by, lines_given, records_put}
use Rattle.importing.specs.From.{lines_at, asked_at, book_with, calls_at}
use Rattle.importing.specs.Steps.{codes_for, rest_book, records_at, given_at, given_answer, given_octets}
use Rattle.importing.specs.Steps.{front_put, laid_down, closed_by}
use Rattle.importing.specs.declared.lines.Records.{Records}
use Rattle.importing.specs.Wrote.{tags-from, Granted, granted, book-long, book-octets}
use Rattle.importing.specs.Wrote.{head-slots, row-slots, HeadIs, offered-is, offered-long, head-given}
use Rattle.importing.specs.Tied.{Taken, rows_of, scan-within}

-- ---- the codes

codes-append : (xs ys : List ℕ) → codes_of (xs ++ ys) ≡ codes_of xs ++ codes_of ys
codes-append [] ys = refl
codes-append (x ∷ xs) ys = ap (λ (l : List ℕ). x % 65536 ∷ l) (codes-append xs ys)

pub codes-long : (ts : List ℕ) → length (codes_of ts) ≡ length ts
codes-long [] = refl
codes-long (t ∷ ts) = ap suc (codes-long ts)

pub codes-start : (ts : List ℕ) → replicate 16 0 ≡ codes_for (take 0 ts)
unfolding codes_for
codes-start ts = refl

module _ (ts : List ℕ) (few : length ts ≤ most_chosen) (i : ℕ) (codes : List ℕ) (inv : codes ≡ codes_for (take i ts))
  where
    pub codes-room : i < length ts → i < length codes
    unfolding codes_for
    codes-room h =
        let l = length-take-le i ts (omega arith) in
        let m = codes-long (take i ts) in
        let n = length-append (codes_of (take i ts)) (replicate (16 - length (take i ts)) 0) in
        let r = length-replicate {A = ℕ} (16 - length (take i ts)) 0 in
        let q = ap length inv in
        omega arith

    pub codes-next : i < length ts → set codes i (get_or ts i 0 % 65536) ≡ codes_for (take (i + 1) ts)
    unfolding codes_for
    codes-next h =
        let front : List ℕ = codes_of (take i ts) in
        let l = length-take-le i ts (omega arith) in
        let m = codes-long (take i ts) in
        let t : take (i + 1) ts ≡ take i ts ++ (get_or ts i 0 ∷ []) =
        ap (λ (k : ℕ). take k ts) (add-one i) ∙ take-suc ts i 0 h in
        let n = length-take-le (i + 1) ts (omega arith) in
        let z : 16 - length (take i ts) ≡ suc (16 - suc i) = omega arith in
        let y : 16 - length (take (i + 1) ts) ≡ 16 - suc i = omega arith in
        let zeros : List ℕ = replicate (16 - suc i) 0 in
        ap (λ (x : List ℕ). set x i (get_or ts i 0 % 65536))
        (inv ∙ ap (λ (k : ℕ). front ++ replicate {A = ℕ} k 0) z)
        ∙ set_at front 0 zeros (get_or ts i 0 % 65536) i (omega arith)
        ∙ sym (append_snoc front (get_or ts i 0 % 65536) zeros)
        ∙ ap₂ (λ (x : List ℕ) (k : ℕ). x ++ replicate {A = ℕ} k 0)
        (sym (codes-append (take i ts) (get_or ts i 0 ∷ [])) ∙ ap codes_of (sym t)) (sym y)

    pub codes_all : length ts ≤ i → codes ≡ codes_for ts
    codes_all h = inv ∙ ap codes_for (take_all i ts h)

pub ruleset codes_cases = (codes-start, codes-room, codes-next, codes_all)

-- the first of them are the tags'
pub codes-front : (ts codes : List ℕ) → codes ≡ codes_for ts → take (length ts - 0) (drop 0 codes) ≡ codes_of ts
unfolding codes_for
codes-front ts codes e =
    let z : length ts - 0 ≡ length ts = omega arith in
    ap₂ (λ (n : ℕ) (l : List ℕ). take n l) z e
    ∙ take_at (codes_of ts) (replicate (16 - length ts) 0) (length ts) (codes-long ts)

-- ---- what is asked of the text

module _ (tags flags : List ℕ) (width : ℕ) (s : List ℕ) (v : Verdict) where
  pub asked-flags : (length flags ≡ length tags → ⊥) → v ≡ refused out_of_turn 0 → v ≡ asked_at tags flags width s
  unfolding asked_at
  asked-flags n q = q ∙ rw (ne_eqb (length flags) (length tags) n)

  module _ (l : length flags ≡ length tags) (t : Bool) (e : t ≡ all_exported tags) where
    pub asked-types : not t ≡ true → v ≡ refused breaks_form 0 → v ≡ asked_at tags flags width s
    unfolding asked_at
    asked-types z q = q ∙ rw (eq-eqb (length flags) (length tags) l, ← e, not-true t z)

    module _ (z : not t ≡ false) (codes : List ℕ) (c : codes ≡ codes_of tags) (r : Walk)
        (re : r ≡ scan_in (held fits) codes s) where
      scan-is : scan_in (held fits) (codes_of tags) s ≡ r
      scan-is = ap (λ (l : List ℕ). scan_in (held fits) l s) (sym c) ∙ sym re

      pub asked-lines : (p : ℕ) → r ≡ Broken p → v ≡ refused wrong_sheet (width + p) → v ≡ asked_at tags flags width s
      unfolding asked_at
      asked-lines p y q = q ∙ rw (eq-eqb (length flags) (length tags) l, ← e, not-false t z, scan-is, y)

pub asked-clear : (tags flags : List ℕ) (width : ℕ) (s : List ℕ) → length flags ≡ length tags → (t : Bool)
    → t ≡ all_exported tags → not t ≡ false → (codes : List ℕ) → codes ≡ codes_of tags → (r : Walk)
    → r ≡ scan_in (held fits) codes s → (n : ℕ) → r ≡ Ends n → clear ≡ asked_at tags flags width s
unfolding asked_at
asked-clear tags flags width s l t e z codes c r re n y =
    rw (eq-eqb (length flags) (length tags) l, ← e, not-false t z, ← c, ← re, y)

pub asked-fits : (codes s : List ℕ) (width p : ℕ) (r : Walk) → r ≡ scan_in (held fits) codes s → r ≡ Broken p
    → width + length s < 2 ^ 64 → Fits w64 (width + p)
asked-fits codes s width p r e z h =
    let b = scan-within codes s p (sym e ∙ z) in
    omega arith

pub ruleset asked_cases = (asked-flags, asked-types, asked-lines, asked-clear, asked-fits)

-- ---- what a clear verdict tells

pub record Asked (tags flags : List ℕ) (s : List ℕ) : Type 0 where
  pub many : length flags ≡ length tags
  pub types : Exported (codes_of tags)
  pub taken : Taken (codes_of tags) s

pub asked_is : (tags flags : List ℕ) (width : ℕ) (s : List ℕ) → asked_at tags flags width s ≡ clear → Asked tags flags s
unfolding asked_at
asked_is tags flags width s e =
    let a = apart (need (eqb (length flags) (length tags)) out_of_turn 0) _ e in
    let b = apart (need (all_exported tags) breaks_form 0) _ a.1 in
    record {
      many = eqb-true (length flags) (length tags) (unmet _ out_of_turn 0 a.0);
      types = exported-each tags (unmet _ breaks_form 0 b.0);
      taken = go (scan_in (held fits) (codes_of tags) s) refl b.1;
    }
  where
    go : (r : Walk) → scan_in (held fits) (codes_of tags) s ≡ r → lines_at width r ≡ clear → Taken (codes_of tags) s
    go (Ends n) q z =
        let t = text-sound fits (codes_of tags) s n q in
        q ∙ ap Ends (t.ends ∙ zero-add (length s))
    go (Broken p) q z = no-clear z

-- ---- the records

module _ (forms codes flags hrec s : List ℕ) (w n : ℕ) (o : Verdict) (oe : o ≡ offered_in (slots_from forms []) hrec)
  where
    pub records-offered : (r : Refusal) → o ≡ Refused r → Refused r ≡ records_at forms codes flags hrec s w n
    unfolding records_at
    records-offered r z = rw (← oe, z)

    module _ (z : o ≡ clear) where
      pub records-long : 4 + room (length forms) ≤ length hrec
      records-long = rw (slots-many forms []) at (offered-long (slots_from forms []) hrec (sym oe ∙ z))

      module _ (v : Verdict) (ve : v ≡ head_given forms w n hrec) where
        pub records-first : (r : Refusal) → v ≡ Refused r → Refused r ≡ records_at forms codes flags hrec s w n
        unfolding records_at
        records-first r y = rw (← oe, z, ← ve, y)

        pub records-lines : v ≡ clear → (x : Verdict) → x ≡ lines_given codes flags (w + length hrec) n (rows_of codes s)
            → x ≡ records_at forms codes flags hrec s w n
        unfolding records_at
        records-lines y x e = e ∙ rw (← oe, z, ← ve, y)

pub records-fit : (w n : ℕ) → w ≤ most_octets → n < 9223372036854775808 → Fits w64 (w + n)
records-fit w n h k = omega arith

pub ruleset records_cases = (records-offered, records-long, records-first, records-lines, records-fit)

-- ---- begin, then the records

module _ (tags flags ht hf hrec s : List ℕ) (n : ℕ) (b : Verdict) (be : b ≡ begin_at ht hf tags flags n) where
  pub given-begin : (r : Refusal) → b ≡ Refused r → Refused r ≡ given_at tags flags ht hf hrec s n
  unfolding given_at
  given-begin r z = rw (← be, z)

  module _ (z : b ≡ clear) where
    begins : Begins ht hf tags flags n
    begins = begin-in ht hf tags flags n (sym be ∙ z)

    pub given-few : length ht ≤ most_columns
    given-few = begins.few

    pub given-low : length tags ≤ most_columns
    given-low = begins.low

    module _ (forms : List ℕ) (fe : forms ≡ padded (forms_for ht)) where
      pub given-forms : length ht ≤ length forms
      given-forms =
          let f = begins.few in
          let l = forms-many ht in
          let m = ap length fe ∙ padded-long (forms_for ht) (omega arith) in
          omega arith

      part-is : take (length ht - 0) (drop 0 forms) ≡ forms_for ht
      part-is =
          let y : length ht - 0 ≡ length ht = omega arith in
          ap₂ (λ (m : ℕ) (l : List ℕ). take m l) y fe
          ∙ take_at (forms_for ht) (replicate (most_columns - length (forms_for ht)) 0) (length ht) (forms-many ht)

      pub given-part : length (take (length ht - 0) (drop 0 forms)) ≤ most_columns
      given-part = let a = ap length part-is ∙ forms-many ht in let f = begins.few in omega arith

      pub given-records : (w : ℕ) (codes : List ℕ) (x : Verdict) → ((i : ℕ) → Fits w8 (get_or hrec i 0))
          → w ≡ start_size (length ht) (length tags) → codes ≡ codes_of tags
          → x ≡ records_at (take (length ht - 0) (drop 0 forms)) codes flags hrec s w n
          → x ≡ given_at tags flags ht hf hrec s n
      unfolding given_at calls_at rest_book book_with records_at lines_given
      given-records w codes x ho we c e =
          e ∙ ap₂ (λ (l m : List ℕ). records_at l m flags hrec s w n) part-is c
          ∙ rw (← be, z, we, row-slots tags flags (sym begins.rows), ← head-slots ht hf begins.heads)
          (joins (offered_in (slots_from (forms_for ht) []) hrec) _ _
          (λ y. same (offered-is (slots_from (forms_for ht) []) hrec (octets-from hrec ho) y)))
        where
          same : HeadIs (slots_from (forms_for ht) []) hrec
              → head_given (forms_for ht) (start_size (length ht) (length tags)) n hrec
              then rows_given (slots_by (codes_of tags) flags) (start_size (length ht) (length tags) + length hrec) n 1
              (rows_of (codes_of tags) s) then need (not (eqb (length (rows_of (codes_of tags) s)) 0)) breaks_rule 0
              ≡ record_given (slots_from (forms_for ht) []) (start_size (length ht) (length tags)) n 0
              (row_in (slots_from (forms_for ht) []) hrec)
              then rows_given (slots_by (codes_of tags) flags) (start_size (length ht) (length tags)
              + length (row_octets (row_in (slots_from (forms_for ht) []) hrec))) n 1
              (rows_of (codes_of tags) s) then need (not (eqb (length (rows_of (codes_of tags) s)) 0)) breaks_rule 0
          same h =
              ap₂ (λ (x : Verdict) (m : ℕ). x
              then rows_given (slots_by (codes_of tags) flags) (start_size (length ht) (length tags) + m) n 1
              (rows_of (codes_of tags) s) then need (not (eqb (length (rows_of (codes_of tags) s)) 0)) breaks_rule 0)
              (head-given (forms_for ht) hrec (start_size (length ht) (length tags)) n h) (ap length h.reads)

pub ruleset given_cases = (given-begin, given-few, given-low, given-forms, given-part, given-records)

-- ---- laid down

pub front-octets : (tags flags ht hf hrec d b x : List ℕ) (w : ℕ) → w ≡ start_size (length ht) (length tags)
    → b ≡ begin_octets ht hf tags flags d → x ≡ stored b w hrec → x ≡ front_put tags flags ht hf hrec d
unfolding front_put
front-octets tags flags ht hf hrec d b x w we be e = e ∙ rw (be, we)

pub front-end : (ht tags hrec : List ℕ) (w : ℕ) → w ≡ start_size (length ht) (length tags)
    → w + length hrec ≡ start_size (length ht) (length tags) + length hrec
front-end ht tags hrec w we = ap (λ (m : ℕ). m + length hrec) we

pub front_long : (tags flags ht hf hrec d b x : List ℕ) (w : ℕ) → b ≡ begin_octets ht hf tags flags d
    → x ≡ stored b w hrec → length x ≡ length d
front_long tags flags ht hf hrec d b x w be e =
    ap length e ∙ length-stored b w hrec ∙ ap length be ∙ begin-length ht hf tags flags d

pub front_fits : (ht tags hrec d : List ℕ) (w : ℕ) → w ≡ start_size (length ht) (length tags)
    → start_size (length ht) (length tags) + length hrec ≤ length d → length d < 2 ^ 64 → Fits w64 (w + length hrec)
front_fits ht tags hrec d w we h l = omega arith

pub ruleset front_cases = (front-octets, front-end, front_long, front_fits)

front_kept : (tags flags ht hf hrec d : List ℕ) → length (front_put tags flags ht hf hrec d) ≡ length d
unfolding front_put
front_kept tags flags ht hf hrec d =
    length-stored (begin_octets ht hf tags flags d) (start_size (length ht) (length tags)) hrec
    ∙ begin-length ht hf tags flags d

module _ (tags codes flags ht hf hrec s d x : List ℕ) (w : ℕ) (xe : x ≡ front_put tags flags ht hf hrec d)
    (we : w ≡ start_size (length ht) (length tags) + length hrec) where
  pub lay-room : start_size (length ht) (length tags) + length hrec + length (rows_octets (rows_of codes s)) ≤ length d
      → w + length (rows_octets (rows_of codes s)) ≤ length x
  lay-room h = let l = ap length xe ∙ front_kept tags flags ht hf hrec d in omega arith

  pub lay-octets : (new : List ℕ) → new ≡ splice x w (rows_octets (rows_of codes s))
      → new ≡ laid_down tags codes flags ht hf hrec s d
  unfolding laid_down
  lay-octets new q = q ∙ rw (xe, we)

  pub lay-kept : (new : List ℕ) → new ≡ splice x w (rows_octets (rows_of codes s))
      → start_size (length ht) (length tags) + length hrec + length (rows_octets (rows_of codes s)) ≤ length d
      → length new ≡ length d
  lay-kept new q h =
      ap length q ∙ length-splice x w (rows_octets (rows_of codes s)) (lay-room h) ∙ ap length xe
      ∙ front_kept tags flags ht hf hrec d

pub lay-written : (ht tags hrec : List ℕ) (rows : List Row) (w : ℕ) (r : Records) → r ≡ records_put w rows
    → w ≡ start_size (length ht) (length tags) + length hrec
    → r.written ≡ start_size (length ht) (length tags) + length hrec + length (rows_octets rows)
unfolding records_put
lay-written ht tags hrec rows w r e we =
    ap (λ (x : Records). x.written) e ∙ ap (λ (m : ℕ). m + length (rows_octets rows)) we

pub lay-count : (rows : List Row) (w : ℕ) (r : Records) → r ≡ records_put w rows → r.count ≡ length rows
unfolding records_put
lay-count rows w r e = ap (λ (x : Records). x.count) e

pub ruleset lay_cases = (lay-room, lay-octets, lay-kept, lay-written, lay-count)

-- ---- written

module _ (tags codes flags ht hf hrec s d : List ℕ)
    (e : given_at tags flags ht hf hrec s (length d) ≡ clear) (c : codes ≡ codes_of tags) (t : Taken codes s)
    (ex : Exported codes) (os : (i : ℕ) → Fits w8 (get_or s i 0)) (oh : (i : ℕ) → Fits w8 (get_or hrec i 0)) where
  given : Granted tags flags ht hf hrec s d
  given = granted tags flags ht hf hrec s d (rw c at t) (rw c at ex) (octets-from s os) (octets-from hrec oh) e

  pub write-few : length ht ≤ most_columns
  write-few = (begin-in ht hf tags flags (length d) given.begins).few

  pub write_low : length tags ≤ most_columns
  write_low = (begin-in ht hf tags flags (length d) given.begins).low

  pub write-front : start_size (length ht) (length tags) + length hrec ≤ length d
  write-front =
      let r = given.first.roomed.buffer in
      let l = ap length given.head.reads in
      omega arith

  pub write-room : start_size (length ht) (length tags) + length hrec + length (rows_octets (rows_of codes s)) ≤ length d
  write-room =
      let r = given.rest.roomed.buffer in
      let b = ap (λ (l : List ℕ). length (rows_octets (rows_of l s))) c in
      omega arith

  pub write-count : (n : ℕ) → n ≡ length (rows_of codes s) → n + 1 < 2 ^ 64
  write-count n q =
      let f = given.rest.few in
      let b = ap (λ (l : List ℕ). length (rows_of l s)) c in
      omega arith

  module _ (th : (i : ℕ) → Fits w32 (get_or ht i 0)) (ta : (i : ℕ) → Fits w32 (get_or tags i 0)) (y : List ℕ)
      (q : y ≡ laid_down tags codes flags ht hf hrec s d) where
    down : y ≡ laid_down tags (codes_of tags) flags ht hf hrec s d
    down = rw c at q

    long-is : start_size (length ht) (length tags) + length hrec + length (rows_octets (rows_of codes s))
        ≡ length (book_octets (rest_book tags flags ht hf hrec s))
    long-is =
        rw c (book-long tags flags ht hf hrec s d (rw c at t) (rw c at ex) (octets-from s os)
        (octets-from hrec oh) given (tags-from ht th) (tags-from tags ta) y down)

    octets-are : finish_octets (closed_by (start_size (length ht) (length tags) + length hrec
        + length (rows_octets (rows_of codes s))) (length ht) (length tags) (length (rows_of codes s) + 1)) y
        ≡ stored d 0 (book_octets (rest_book tags flags ht hf hrec s))
    octets-are =
        rw c (book-octets tags flags ht hf hrec s d (rw c at t) (rw c at ex) (octets-from s os) (octets-from hrec oh)
        given (tags-from ht th) (tags-from tags ta) y down)

-- what the code finds first stands first
module _ (tags codes flags ht hf hrec s d y : List ℕ) (wr ct : ℕ) where
  pub write-long : (n : ℕ) → n ≡ wr
      → wr ≡ start_size (length ht) (length tags) + length hrec + length (rows_octets (rows_of codes s))
      → y ≡ laid_down tags codes flags ht hf hrec s d → given_at tags flags ht hf hrec s (length d) ≡ clear
      → codes ≡ codes_of tags → Taken codes s → Exported codes
      → ((i : ℕ) → Fits w8 (get_or s i 0)) → ((i : ℕ) → Fits w8 (get_or hrec i 0))
      → ((i : ℕ) → Fits w32 (get_or ht i 0)) → ((i : ℕ) → Fits w32 (get_or tags i 0))
      → n ≡ length (book_octets (rest_book tags flags ht hf hrec s))
  write-long n a b q e c t ex os oh th ta =
      a ∙ b ∙ long-is tags codes flags ht hf hrec s d e c t ex os oh th ta y q

  pub write-octets : (new : List ℕ) → new ≡ finish_octets (closed_by wr (length ht) (length tags) (ct + 1)) y
      → y ≡ laid_down tags codes flags ht hf hrec s d
      → wr ≡ start_size (length ht) (length tags) + length hrec + length (rows_octets (rows_of codes s))
      → ct ≡ length (rows_of codes s) → given_at tags flags ht hf hrec s (length d) ≡ clear
      → codes ≡ codes_of tags → Taken codes s → Exported codes
      → ((i : ℕ) → Fits w8 (get_or s i 0)) → ((i : ℕ) → Fits w8 (get_or hrec i 0))
      → ((i : ℕ) → Fits w32 (get_or ht i 0)) → ((i : ℕ) → Fits w32 (get_or tags i 0))
      → new ≡ stored d 0 (book_octets (rest_book tags flags ht hf hrec s))
  write-octets new n q b k e c t ex os oh th ta =
      n ∙ ap₂ (λ (u v : ℕ). finish_octets (closed_by u (length ht) (length tags) (v + 1)) y) b k
      ∙ octets-are tags codes flags ht hf hrec s d e c t ex os oh th ta y q

pub ruleset write_cases = (write-few, write_low, write-front, write-room, write-count)

-- ---- the finish

pub finish-kept : (st : Writing) (d new : List ℕ) → new ≡ finish_octets st d → length new ≡ length d
finish-kept st d new e = ap length e ∙ finish-length st d

pub finish-as : (st : Writing) (w h a k : ℕ) (d new : List ℕ) → new ≡ finish_octets st d → st ≡ closed_by w h a k
    → new ≡ finish_octets (closed_by w h a k) d
finish-as st w h a k d new e q = e ∙ ap (λ (x : Writing). finish_octets x d) q

pub ruleset finish_cases = (finish-kept, finish-as)

-- ---- given, then written

module _ (tags flags ht hf hrec s d : List ℕ) (u : Verdict) (ue : u ≡ given_at tags flags ht hf hrec s (length d)) where
  module _ (r : Refusal) (y : u ≡ Refused r) where
    pub give-refused : Err r ≡ given_answer tags flags ht hf hrec s d
    unfolding given_answer
    give-refused = rw (← ue, y)

    pub give-left : d ≡ given_octets tags flags ht hf hrec s d
    unfolding given_octets
    give-left = rw (← ue, y)

  module _ (y : u ≡ clear) where
    pub give-clear : given_at tags flags ht hf hrec s (length d) ≡ clear
    give-clear = sym ue ∙ y

    pub give-done : (n : ℕ) → n ≡ length (book_octets (rest_book tags flags ht hf hrec s))
        → Ok n ≡ given_answer tags flags ht hf hrec s d
    unfolding given_answer
    give-done n q = rw (← ue, y, q)

    pub give-written : (new : List ℕ) → new ≡ stored d 0 (book_octets (rest_book tags flags ht hf hrec s))
        → new ≡ given_octets tags flags ht hf hrec s d
    unfolding given_octets
    give-written new q = q ∙ rw (← ue, y)

pub ruleset give_cases = (give-refused, give-left, give-clear, give-done, give-written)
