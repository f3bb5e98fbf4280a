-- The ways of the calls that export, on plain values.
use Rattle.std.specs.Prelude.{Err, Ok, ℕ, ◌+◌, ◌-◌, ◌*◌, ◌^◌, ◌≤◌, ◌<◌, true, leb, drop, get_or, replicate}
use Rattle.std.proofs.Common.{arith, ◌∙◌, length-append, take_at, Fits}
use Rattle.std.proofs.Math.Nat.{sub-zero}
use Rattle.std.proofs.Math.Path.{◌≡◌, refl, sym, ap, ap₂}
use mathlib.Core.List.{List, [], ◌∷◌, ◌++◌}
use Rattle.std.proofs.Math.ListN.{length, take}
use Rattle.std.specs.Int.{w8}
use borrow.Author.Tests.{le-leb, lt-leb, leb-true}
use Rattle.octets.specs.Octets.{octets-from}
use Rattle.octets.specs.Splice.{splice, stored, stored-in}
use Rattle.octets.specs.Stores.{laid, laid-long}
use Rattle.answers.specs.Numbers.{out_of_turn, no_room, breaks_form, most_records}
use Rattle.answers.specs.declared.Refusal.{Refusal}
use Rattle.answers.specs.Verdict.{Answer, Verdict}
use Rattle.answers.specs.Verdict.{clear, Refused}
use Rattle.answers.specs.Verdict.{◌then◌, need, kept, apart, unmet}
use Rattle.answers.specs.Made.{Made}
use Rattle.answers.specs.Made.{answered, answered-done}
use Rattle.table.specs.declared.Columns.{Columns}
use Rattle.table.specs.Columns.{tags_of, forms_of, columns_in}
use Rattle.edges.specs.Edges.{most_edges}
use Rattle.book.specs.Book.{cols_in, count_in}
use Rattle.book.specs.Front.{first_place}
use Rattle.book.specs.Judged.{judged_of}
use Rattle.book.specs.Good.{GoodIs, good-is, refused-by, good-keeps, tags-in, forms-in, reach-tags, reach-forms}
use Rattle.book.specs.Read.{book_in}
use Rattle.book.specs.declared.Judgement.{Judgement}
use Rattle.sheet.specs.Digits.{digits_long}
use Rattle.sheet.specs.Field.{all_exported, most_chosen, end_of, line_of, tag_field, tag_fields}
use Rattle.exporting.specs.Export.{all_known, choice_at, sheet_at, export_at, length_answer}
use Rattle.exporting.specs.Export.{export_answer, export_octets, sheet_in}
use Rattle.exporting.specs.Steps.{lines_by, sheet_by, places_in, places_for, sheet_from, choice_from, good_length}
use Rattle.exporting.specs.Steps.{good_answer, good_octets}
use Rattle.exporting.specs.ChoiceCases.{places-long}
use Rattle.exporting.proofs.Tied.{sheet-tied}

-- ---- sheet_size

tags-line : (tags : List ℕ) → length (line_of (tag_fields tags)) ≡ 9 * length tags + 1
unfolding line_of
tags-line [] = refl
tags-line (t ∷ tags) =
    let e = digits_long 16 8 t in
    let i = tags-line tags in
    length-append (tag_field t) (end_of (tag_fields tags) ∷ line_of (tag_fields tags)) ∙ omega arith

pub size_is : (xs forms tags places : List ℕ) (count first r : ℕ)
    → r ≡ length (lines_by xs forms tags places count first (replicate most_edges 0))
    → 9 * length tags + 1 + r ≡ length (sheet_by xs forms tags places count first)
unfolding sheet_by
size_is xs forms tags places count first r e =
    let t = tags-line tags in
    sym (length-append (line_of (tag_fields tags)) (lines_by xs forms tags places count first (replicate most_edges 0))
    ∙ omega arith)

-- ---- the columns of the chosen tags

choice-few : (cols tags : List ℕ) → choice_at cols tags ≡ clear
    → (all_known cols tags ≡ true) × (length tags ≤ most_chosen)
unfolding choice_at
choice-few cols tags e =
    let c₁ = apart (need (all_known cols tags) out_of_turn 0) _ e in
    let c₂ = apart (need (all_exported tags) breaks_form 0) _ c₁.1 in
    let c₃ = apart (need (leb 1 (length tags)) breaks_form 0) _ c₂.1 in
    let c₄ = apart (need (leb (length tags) most_chosen) breaks_form 0) _ c₃.1 in
    (unmet _ out_of_turn 0 c₁.0, leb-true (length tags) most_chosen (unmet _ breaks_form 0 c₄.0))

module _ (columns : Columns) (tags places : List ℕ) (few : length tags ≤ most_chosen) (ts : List ℕ)
    (te : ts ≡ take columns.count columns.tags) (p : places ≡ places_for ts tags) where
  pub places-reach : length tags ≤ length places
  places-reach =
      let l = places-long ts tags in
      rw p
      (rw (length-append (places_in ts tags)
      (replicate (most_chosen - length tags) 0)) (omega arith))

  places-are : take (length tags - 0) places ≡ places_in (take columns.count columns.tags) tags
  places-are =
      rw (p, te, sub-zero (length tags))
      (take_at (places_in (take columns.count columns.tags) tags) (replicate (most_chosen - length tags) 0)
      (length tags) (places-long (take columns.count columns.tags) tags))

  sheet-is : (xs : List ℕ) (n at : ℕ) (fs : List ℕ) → fs ≡ take columns.count columns.forms
      → sheet_by xs fs tags (take (length tags - 0) places) n at ≡ sheet_from xs columns tags n at
  unfolding sheet_from
  sheet-is xs n at fs fe = ap₂ (λ (f p : List ℕ). sheet_by xs f tags p n at) fe places-are

-- ---- measure_good

module _ (xs : List ℕ) (columns : Columns) (tags : List ℕ) (n at : ℕ) (v : Verdict) (ts : List ℕ)
    (te : ts ≡ take columns.count columns.tags) (e : v ≡ choice_at ts tags) where
  choice-is : choice_from columns tags ≡ v
  choice-is = rw te at (sym e)

  pub measure-refused : (r : Refusal) → v ≡ Refused r → Err r ≡ good_length xs columns tags n at
  unfolding good_length
  measure-refused r z = rw (choice-is, z)

  module _ (z : v ≡ clear) where
    pub measure-few : length tags ≤ most_chosen
    measure-few = (choice-few (take columns.count columns.tags) tags (choice-is ∙ z)).1

    module _ (places : List ℕ) (p : places ≡ places_for ts tags) where
      pub measure-part : length tags ≤ length places
      measure-part = places-reach columns tags places measure-few ts te p

      pub measure-done : (r : ℕ) (fs : List ℕ) → fs ≡ take columns.count columns.forms
          → r ≡ length (sheet_by xs fs tags (take (length tags - 0) places) n at)
          → Ok r ≡ good_length xs columns tags n at
      unfolding good_length
      measure-done r fs fe q =
          rw (choice-is, z) (ap Ok (q ∙ ap length (sheet-is columns tags places measure-few ts te p xs n at fs fe)))

pub ruleset measure_cases = (measure-refused, measure-few, measure-part, measure-done)

-- ---- write_good

front_fits : (xs : List ℕ) (columns : Columns) (tags d : List ℕ) (n at : ℕ)
    → length (sheet_from xs columns tags n at) ≤ length d → length (line_of (tag_fields tags)) ≤ length d
unfolding sheet_from sheet_by
front_fits xs columns tags d n at h =
    let l =
    length-append (line_of (tag_fields tags))
    (lines_by xs (take columns.count columns.forms) tags
    (places_in (take columns.count columns.tags) tags) n at
    (replicate most_edges 0)) in
    omega arith

module _ (xs : List ℕ) (columns : Columns) (tags d : List ℕ) (n at : ℕ)
    (h : length (sheet_from xs columns tags n at) ≤ length d) where
  pub write-tags : 0 + length (line_of (tag_fields tags)) ≤ length d
  write-tags = let l = front_fits xs columns tags d n at h in omega arith

  module _ (few : length tags ≤ most_chosen) (places ts : List ℕ) (te : ts ≡ take columns.count columns.tags)
      (p : places ≡ places_for ts tags) (fs : List ℕ) (fe : fs ≡ take columns.count columns.forms) (mid : List ℕ) (to : ℕ)
      (q : mid ≡ splice d 0 (line_of (tag_fields tags))) (e : to ≡ 0 + length (line_of (tag_fields tags))) where
    abbrev lines : List ℕ
    lines =
        lines_by xs fs tags (take (length tags - 0) places) n at (replicate most_edges 0)

    whole : line_of (tag_fields tags) ++ lines ≡ sheet_from xs columns tags n at
    unfolding sheet_by
    whole = sheet-is columns tags places few ts te p xs n at fs fe

    whole_long : length (line_of (tag_fields tags)) + length lines ≤ length d
    whole_long =
        let l = length-append (line_of (tag_fields tags)) lines in
        let m = ap length whole in
        omega arith

    pub write-lines : to + length lines ≤ length mid
    write-lines =
        let m = laid-long d mid (line_of (tag_fields tags)) 0 q write-tags in
        let l = whole_long in
        omega arith

    pub write-put : (end : List ℕ) → end ≡ splice mid to lines → end ≡ splice d 0 (sheet_from xs columns tags n at)
    write-put end z =
        let l = whole_long in
        z ∙ laid d mid (line_of (tag_fields tags)) lines 0 to q e (omega arith) ∙ ap (splice d 0) whole

pub write-part : (columns : Columns) (tags places ts : List ℕ) → ts ≡ take columns.count columns.tags
    → places ≡ places_for ts tags → length tags ≤ most_chosen → length tags ≤ length places
write-part columns tags places ts te p few = places-reach columns tags places few ts te p

pub ruleset write_cases = (write-tags, write-part, write-lines, write-put)

-- ---- export_good

module _ (xs : List ℕ) (columns : Columns) (tags d : List ℕ) (n at : ℕ) (m : Made)
    (e : m ≡ good_length xs columns tags n at) where
  pub good-refused : (r : Refusal) → m ≡ Err r → Err r ≡ good_answer xs columns tags n at d
  unfolding good_answer good_length
  good-refused r z = go (choice_from columns tags) e
    where
      go : (v : Verdict) → m ≡ answered v (length (sheet_from xs columns tags n at))
          → Err r ≡ answered (v then need (leb (length (sheet_from xs columns tags n at)) (length d)) no_room 0)
          (length (sheet_from xs columns tags n at))
      go (Ok _) y = let o : ◌≡◌ {A = ℕ} 0 1 = cc in absurd (omega arith)
      go (Refused s) y = sym z ∙ y

  pub good_left : (r : Refusal) → m ≡ Err r → d ≡ good_octets xs columns tags n at d
  unfolding good_octets good_length
  good_left r z = go (choice_from columns tags) e
    where
      go : (v : Verdict) → m ≡ answered v (length (sheet_from xs columns tags n at))
          → d ≡ kept (v then need (leb (length (sheet_from xs columns tags n at)) (length d)) no_room 0) d
          (stored d 0 (sheet_from xs columns tags n at))
      go (Ok _) y = let o : ◌≡◌ {A = ℕ} 0 1 = cc in absurd (omega arith)
      go (Refused s) y = refl

  module _ (size : ℕ) (z : m ≡ Ok size) where
    done : (choice_from columns tags ≡ clear) × (length (sheet_from xs columns tags n at) ≡ size)
    unfolding good_length
    done = answered-done (choice_from columns tags) (length (sheet_from xs columns tags n at)) size (sym e ∙ z)

    pub good-no : length d < size
        → Err (record { number = no_room; place = 0 }) ≡ good_answer xs columns tags n at d
    unfolding good_answer
    good-no h = rw (done.0, done.1, lt-leb size (length d) h)

    pub good-kept : length d < size → d ≡ good_octets xs columns tags n at d
    unfolding good_octets
    good-kept h = rw (done.0, done.1, lt-leb size (length d) h)

    pub good-few : length tags ≤ most_chosen
    good-few = (choice-few (take columns.count columns.tags) tags done.0).1

    module _ (h : size ≤ length d) where
      pub good-room : length (sheet_from xs columns tags n at) ≤ length d
      good-room = rw done.1 h

      pub good-done : Ok size ≡ good_answer xs columns tags n at d
      unfolding good_answer
      good-done = rw (done.0, done.1, le-leb size (length d) h)

      pub good-put : (end : List ℕ) → end ≡ splice d 0 (sheet_from xs columns tags n at)
          → end ≡ good_octets xs columns tags n at d
      unfolding good_octets
      good-put end q =
          let r = good-room in
          let s = stored-in d 0 (sheet_from xs columns tags n at) (omega arith) in
          rw (done.0, le-leb (length (sheet_from xs columns tags n at)) (length d) good-room) (q ∙ sym s)

pub ruleset good_cases = (good-refused, good_left, good-no, good-kept, good-done, good-put)

-- ---- sheet_length and export

module _ (xs tags : List ℕ) (u : Answer Judgement) (e : u ≡ judged_of xs) where
  pub length-refused : (r : Refusal) → u ≡ Err r → Err r ≡ length_answer xs tags
  unfolding length_answer sheet_at
  length-refused r q = rw (refused-by xs u e r q)

  pub export-refused : (r : Refusal) (d : List ℕ) → u ≡ Err r
      → Err r ≡ export_answer xs tags d
  unfolding export_answer export_at sheet_at
  export-refused r d q = rw (refused-by xs u e r q)

  pub export-left : (r : Refusal) (d : List ℕ) → u ≡ Err r → d ≡ export_octets xs tags d
  unfolding export_octets export_at sheet_at
  export-left r d q = rw (refused-by xs u e r q)

  module _ (j : Judgement) (q : u ≡ Ok j) where
    good : GoodIs xs j
    good = good-is xs u j e q

    -- what the columns and the places keep to
    pub book-short : length xs < 2 ^ 32
    book-short = let k = good-keeps xs good.clears in omega arith

    pub first-near : j.first < 2 ^ 32
    first-near = let k = good-keeps xs good.clears in let g = good.first in omega arith

    pub count-few : j.count ≤ most_records
    count-few = let k = good-keeps xs good.clears in rw good.count k.1

    pub tags-reach : j.address.count ≤ length j.address.tags
    tags-reach = rw good.cols (reach-tags (cols_in (drop 12 xs)))

    pub forms-reach : j.address.count ≤ length j.address.forms
    forms-reach = rw good.cols (reach-forms (cols_in (drop 12 xs)))

    cols-are : j.address ≡ columns_in (book_in xs).cols
    unfolding book_in
    cols-are = good.cols

    -- the sheet as the code goes over it
    abbrev coded : List ℕ
    coded =
        sheet_by xs (forms_of (book_in xs).cols) tags (places_in (tags_of (book_in xs).cols) tags) (count_in xs)
        (first_place xs)

    coded-is : sheet_from xs j.address tags j.count j.first ≡ coded
    unfolding sheet_from
    coded-is = rw (cols-are, good.count, good.first, tags-in (book_in xs).cols, forms-in (book_in xs).cols)

    choice-same : choice_from j.address tags ≡ choice_at (tags_of (book_in xs).cols) tags
    choice-same = rw (cols-are, tags-in (book_in xs).cols)

    -- where the choice is good the two sheets are one
    module _ (o : (i : ℕ) → Fits w8 (get_or xs i 0)) where
      one-sheet : {X : Type 0} (g : Verdict → List ℕ → X)
          → ((r : Refusal) (s t : List ℕ) → g (Refused r) s ≡ g (Refused r) t)
          → g (choice_at (tags_of (book_in xs).cols) tags) coded
          ≡ g (choice_at (tags_of (book_in xs).cols) tags) (sheet_in xs tags)
      one-sheet {X} g k = go (choice_at (tags_of (book_in xs).cols) tags) refl
        where
          go : (v : Verdict) → choice_at (tags_of (book_in xs).cols) tags ≡ v → g v coded ≡ g v (sheet_in xs tags)
          go (Ok _) z =
              ap (g clear)
              (sheet-tied xs tags (octets-from xs o) good.clears (choice-few (tags_of (book_in xs).cols) tags z).0)
          go (Refused r) z = k r coded (sheet_in xs tags)

      pub length-done : (m : Made) → m ≡ good_length xs j.address tags j.count j.first → m ≡ length_answer xs tags
      unfolding good_length length_answer sheet_at
      length-done m z =
          z ∙ rw (choice-same, coded-is, good.clears) (one-sheet (λ v s. answered v (length s)) (λ r s t. refl))

      pub export-done : (m : Made) (d : List ℕ) → m ≡ good_answer xs j.address tags j.count j.first d
          → m ≡ export_answer xs tags d
      unfolding good_answer export_answer export_at sheet_at
      export-done m d z =
          z ∙ rw (choice-same, coded-is, good.clears)
          (one-sheet (λ v s. answered (v then need (leb (length s) (length d)) no_room 0) (length s)) (λ r s t. refl))

      pub export-put : (d end : List ℕ) → end ≡ good_octets xs j.address tags j.count j.first d
          → end ≡ export_octets xs tags d
      unfolding good_octets export_octets export_at sheet_at
      export-put d end z =
          z ∙ rw (choice-same, coded-is, good.clears)
          (one-sheet (λ v s. kept (v then need (leb (length s) (length d)) no_room 0) d (stored d 0 s)) (λ r s t. refl))

pub ruleset book_keeps = (book-short, first-near, count-few, tags-reach, forms-reach)

pub ruleset export_cases = (length-refused, export-refused, export-left, length-done, export-done, export-put)
