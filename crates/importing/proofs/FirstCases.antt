-- The ways of the code behind the first line, and with it, on plain values.
use Prim.Native.Nat.{ℕ, ◌+◌, ◌-◌, ◌^◌, ◌≤◌, ◌<◌}
use Rattle.std.proofs.Common.{◌∙◌, length-drop, take_at, take_all}
use native.Mathlib.Omega.{arith}
use Rattle.std.specs.Prelude.{Result, Err, Ok, ◌≡◌, drop}
use Rattle.std.proofs.Math.Path.{refl, sym, ap, ap₂}
use mathlib.Core.List.{List, ◌++◌}
use Rattle.std.proofs.Math.ListN.{length, take, replicate, length-append}
use Rattle.octets.specs.Splice.{stored}
use Rattle.answers.specs.Numbers.{wrong_sheet}
use Rattle.answers.specs.declared.Refusal.{Refusal}
use Rattle.answers.specs.Verdict.{Verdict}
use Rattle.answers.specs.Verdict.{clear, Refused}
use Rattle.answers.specs.Verdict.{◌then◌, kept}
use Rattle.answers.specs.Made.{Made}
use Rattle.answers.specs.Made.{answered}
use Rattle.book.specs.Book.{book_octets}
use Rattle.sheet.specs.Field.{most_chosen, codes_of}
use Rattle.sheet.specs.One.{Exported}
use Rattle.scanning.specs.declared.FirstLine.{FirstLine}
use Rattle.scanning.specs.First.{Headed, tags_to, fault, head_in, first_line_of}
use Rattle.scanning.specs.FirstSound.{first-sound, head_small}
use Rattle.importing.specs.From.{asked_at, book_with, book_for, from_at, from_answer, from_octets}
use Rattle.importing.specs.Steps.{codes_for, rest_book, given_at, given_answer, given_octets, asks_first}
use Rattle.importing.specs.Steps.{rest_answer, rest_octets}
use Rattle.importing.specs.Tied.{Taken, rows_of, rows_behind}
use Rattle.importing.specs.Cases.{codes-long, codes-front, Asked, asked_is}

-- ---- behind the first line

module _ (tags flags ht hf hrec : List ℕ) (width : ℕ) (s d : List ℕ) (v : Verdict)
    (ve : v ≡ asked_at tags flags width s) where
  module _ (r : Refusal) (z : v ≡ Refused r) where
    pub rest-asked : Err r ≡ rest_answer tags flags ht hf hrec width s d
    unfolding rest_answer
    rest-asked = rw (← ve, z)

    pub rest-kept : d ≡ rest_octets tags flags ht hf hrec width s d
    unfolding rest_octets
    rest-kept = rw (← ve, z)

  module _ (z : v ≡ clear) where
    pub rest-answer : (m : Made) → m ≡ given_answer tags flags ht hf hrec s d
        → m ≡ rest_answer tags flags ht hf hrec width s d
    unfolding rest_answer
    rest-answer m q = q ∙ rw (← ve, z)

    pub rest-octets : (new : List ℕ) → new ≡ given_octets tags flags ht hf hrec s d
        → new ≡ rest_octets tags flags ht hf hrec width s d
    unfolding rest_octets
    rest-octets new q = q ∙ rw (← ve, z)

module _ (tags flags s : List ℕ) (width : ℕ) (v : Verdict) (ve : v ≡ asked_at tags flags width s) (z : v ≡ clear)
    (codes : List ℕ) (ce : codes ≡ codes_for tags) where
  asked : Asked tags flags s
  asked = asked_is tags flags width s (sym ve ∙ z)

  pub rest-taken : Taken (take (length tags - 0) (drop 0 codes)) s
  rest-taken = rw (codes-front tags codes ce) asked.taken

  pub rest-types : Exported (take (length tags - 0) (drop 0 codes))
  rest-types = rw (codes-front tags codes ce) asked.types

pub rest-codes : (tags codes : List ℕ) → codes ≡ codes_for tags → take (length tags - 0) (drop 0 codes) ≡ codes_of tags
rest-codes tags codes e = codes-front tags codes e

pub rest-few : (tags codes : List ℕ) → codes ≡ codes_for tags → length tags ≤ most_chosen
    → length (take (length tags - 0) (drop 0 codes)) ≤ most_chosen
rest-few tags codes e h = let l = ap length (codes-front tags codes e) ∙ codes-long tags in omega arith

pub rest-many : (tags codes : List ℕ) → codes ≡ codes_for tags → length tags ≤ most_chosen → length tags ≤ length codes
unfolding codes_for
rest-many tags codes e h =
    let a = ap length e ∙ length-append (codes_of tags) (replicate (16 - length tags) 0) in
    let b = codes-long tags in
    omega arith

pub ruleset rest_cases = (rest-codes, rest-few, rest-many, rest-taken, rest-types)

pub ruleset rest_ends = (rest-asked, rest-kept, rest-answer, rest-octets)

-- ---- the first line

-- the line and where it ends
abbrev line_of : List ℕ → ℕ → FirstLine
line_of tags w = record { tags = tags ++ replicate (16 - length tags) 0; count = length tags; end = w }

no_line : {X : Type 0} {p : ℕ} {l : FirstLine} → ◌≡◌ {A = Result FirstLine ℕ} (Err p) (Ok l) → X
no_line e = let z : ◌≡◌ {A = ℕ} 0 1 = cc in absurd (omega arith)

same-line : {l m : FirstLine} → ◌≡◌ {A = Result FirstLine ℕ} (Ok l) (Ok m) → l ≡ m
same-line e = cc

same-place : {p q : ℕ} → ◌≡◌ {A = Result FirstLine ℕ} (Err p) (Err q) → p ≡ q
same-place e = cc

by-head : {X : Type 0} (text : List ℕ) (u : Result FirstLine ℕ) → u ≡ first_line_of (head_in text)
    → ((p : ℕ) → head_in text ≡ fault p → u ≡ Err p → X)
    → ((tags : List ℕ) (w : ℕ) → head_in text ≡ tags_to tags w → u ≡ Ok (line_of tags w) → X) → X
unfolding first_line_of
by-head {X} text u e f g = go (head_in text) refl e
  where
    go : (h : Headed) → head_in text ≡ h → u ≡ first_line_of h → X
    go (tags_to tags w) q z = g tags w q z
    go (fault p) q z = f p q z

module _ (text flags ht hf hrec d : List ℕ) (u : Result FirstLine ℕ) (e : u ≡ first_line_of (head_in text)) where
  module _ (p : ℕ) (z : u ≡ Err p) where
    fault-is : head_in text ≡ fault p
    fault-is =
        by-head text u e (λ q h w. h ∙ ap fault (same-place (sym w ∙ z))) (λ tags w h x. no_line (sym z ∙ x))

    pub first-refused : Err (record { number = wrong_sheet; place = p }) ≡ from_answer text flags ht hf hrec d
    unfolding from_answer from_at
    first-refused = rw fault-is

    pub first-kept : d ≡ from_octets text flags ht hf hrec d
    unfolding from_octets from_at
    first-kept = rw fault-is

  module _ (first : FirstLine) (z : u ≡ Ok first) where
    told : {X : Type 0} → ((tags : List ℕ) → head_in text ≡ tags_to tags first.end
        → first.tags ≡ tags ++ replicate (16 - length tags) 0 → first.count ≡ length tags → X) → X
    told f =
        by-head text u e (λ p h q. no_line (sym q ∙ z))
        (λ tags v h x. let y = same-line (sym z ∙ x) in
        f tags (h ∙ ap (λ (l : FirstLine). tags_to tags l.end) (sym y)) (ap (λ (l : FirstLine). l.tags) y)
        (ap (λ (l : FirstLine). l.count) y))

    pub first-many : first.count ≤ length first.tags
    first-many =
        told (λ tags h a b. let l = ap length a ∙ length-append tags (replicate (16 - length tags) 0) in omega arith)

    pub first-within : first.end ≤ length text
    first-within =
        told (λ tags h a b. let f = first-sound text tags first.end h in
        let l = ap length f.reads ∙ length-append f.line f.rest in
        let m = f.width in omega arith)

    tags-are : (tags : List ℕ) → first.tags ≡ tags ++ replicate (16 - length tags) 0 → first.count ≡ length tags
        → take (first.count - 0) (drop 0 first.tags) ≡ tags
    tags-are tags a b =
        let y : first.count - 0 ≡ length tags = omega arith in
        ap₂ (λ (n : ℕ) (l : List ℕ). take n l) y a
        ∙ take_at tags (replicate (16 - length tags) 0) (length tags) refl

    pub first-few : length (take (first.count - 0) (drop 0 first.tags)) ≤ most_chosen
    first-few =
        told (λ tags h a b. let l = ap length (tags-are tags a b) in
        let m = (head_small text tags first.end h).1 in omega arith)

    lines-all : take (length text - first.end) (drop first.end text) ≡ drop first.end text
    lines-all =
        let l = length-drop first.end text in
        take_all (length text - first.end) (drop first.end text) (omega arith)

    pub first_fits : length text < 2 ^ 64
        → first.end + length (take (length text - first.end) (drop first.end text)) < 2 ^ 64
    first_fits h =
        let l = ap length lines-all ∙ length-drop first.end text in
        let m = first-within in
        omega arith

    first_rows : (tags : List ℕ) → head_in text ≡ tags_to tags first.end
        → book_for text flags ht hf hrec ≡ rest_book tags flags ht hf hrec (drop first.end text)
    unfolding rest_book rows_of
    first_rows tags h = rw h (ap (book_with tags flags ht hf hrec) (rows_behind text tags first.end h))

    verdict-is : (tags : List ℕ) (n : ℕ) → head_in text ≡ tags_to tags first.end → from_at text flags ht hf hrec n
        ≡ (asked_at tags flags first.end (drop first.end text)
        then given_at tags flags ht hf hrec (drop first.end text) n)
    unfolding from_at given_at
    verdict-is tags n h = rw (first_rows tags h, h)

    answer-is : (tags : List ℕ) → head_in text ≡ tags_to tags first.end
        → rest_answer tags flags ht hf hrec first.end (drop first.end text) d ≡ from_answer text flags ht hf hrec d
    unfolding rest_answer given_answer from_answer
    answer-is tags h =
        rw (verdict-is tags (length d) h, first_rows tags h)
        (go (asked_at tags flags first.end (drop first.end text)))
      where
        go : (v : Verdict) → asks_first v (answered (given_at tags flags ht hf hrec (drop first.end text) (length d))
            (length (book_octets (rest_book tags flags ht hf hrec (drop first.end text)))))
            ≡ answered (v then given_at tags flags ht hf hrec (drop first.end text) (length d))
            (length (book_octets (rest_book tags flags ht hf hrec (drop first.end text))))
        go (Ok _) = refl
        go (Refused r) = refl

    octets-is : (tags : List ℕ) → head_in text ≡ tags_to tags first.end
        → rest_octets tags flags ht hf hrec first.end (drop first.end text) d ≡ from_octets text flags ht hf hrec d
    unfolding rest_octets given_octets from_octets
    octets-is tags h =
        rw (verdict-is tags (length d) h, first_rows tags h)
        (go (asked_at tags flags first.end (drop first.end text)))
      where
        new : List ℕ
        new = stored d 0 (book_octets (rest_book tags flags ht hf hrec (drop first.end text)))

        go : (v : Verdict) → kept v d (kept (given_at tags flags ht hf hrec (drop first.end text) (length d)) d new)
            ≡ kept (v then given_at tags flags ht hf hrec (drop first.end text) (length d)) d new
        go (Ok _) = refl
        go (Refused r) = refl

    pub first-answer : (m : Made)
        → m ≡ rest_answer (take (first.count - 0) (drop 0 first.tags)) flags ht hf hrec first.end
        (take (length text - first.end) (drop first.end text)) d → m ≡ from_answer text flags ht hf hrec d
    first-answer m q =
        told (λ tags h a b. q
        ∙ ap₂ (λ (x y : List ℕ). rest_answer x flags ht hf hrec first.end y d) (tags-are tags a b) lines-all
        ∙ answer-is tags h)

    pub first-octets : (new : List ℕ) → new ≡ rest_octets (take (first.count - 0) (drop 0 first.tags)) flags ht hf
        hrec first.end (take (length text - first.end) (drop first.end text)) d
        → new ≡ from_octets text flags ht hf hrec d
    first-octets new q =
        told (λ tags h a b. q
        ∙ ap₂ (λ (x y : List ℕ). rest_octets x flags ht hf hrec first.end y d) (tags-are tags a b) lines-all
        ∙ octets-is tags h)

pub ruleset first_cases = (first-refused, first-kept, first-many, first-within, first-few, first_fits)

pub ruleset first_ends = (first-answer, first-octets)
