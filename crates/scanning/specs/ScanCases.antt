-- The scan in the steps of the code, field by field, and its ways on plain values.
use Rattle.std.specs.Prelude.{ℕ, suc, ◌+◌, ◌-◌, ◌^◌, ◌≤◌, ◌<◌, ◌≡◌, refl, Bool, false, cond, List, [], ◌∷◌, eqb, ltb, leb, length, take, drop, get_or, Result, Ok, Err, IsErrAnd}
use Rattle.std.proofs.Common.{arith, ◌∙◌, length-drop, drop_of_length-le, drop-drop, Fits}
use Rattle.std.proofs.Math.Path.{sym, ap}
use Rattle.std.proofs.Math.Bool.{true}
use Rattle.std.specs.Int.{w64}
use borrow.Author.Tests.{lt-ltb, le-ltb, le-leb, lt-leb, ne_eqb}
use Rattle.octets.specs.Cases.{split}
use Rattle.octets.specs.Octets.{octet_at, drop-next}
use Rattle.answers.specs.Walk.{Walk}
use Rattle.answers.specs.Walk.{Ends as WalkEnds, Broken as WalkBroken}
use Rattle.sheet.specs.Field.{lf, end_of}
use Rattle.sheet.specs.Values.{is_string}
use Rattle.scanning.specs.declared.Fill.TheVariants.{Nothing}
use Rattle.scanning.specs.declared.Stage.TheVariants.{Outside}
use Rattle.scanning.specs.Steps.{field_from}
use Rattle.scanning.specs.Scan.{fits, held, end_at, scan_from, scan_in}
use Rattle.scanning.specs.FieldBack.{AnEnd, end_is}
use Rattle.scanning.specs.Runs.{Runs, runs, fails, field-within, due-is}
use Rattle.scanning.specs.Inner.{inner_of}
use Rattle.scanning.specs.Same.{in_place, scan-in-place}
use Rattle.scanning.specs.Passing.{string_from, string-is}

-- what follows a field or a line's end: a field of the line and a place, or the place of the octet at fault
abbrev pub Passed : Type 0
Passed = Result (ℕ × ℕ) ℕ

abbrev pub On : ℕ → ℕ → Passed
On j k = Ok (j, k)

-- the place that `?` hands on is the answer
pub handed-on : {X : Type 0} {p : ℕ} {z : Result X ℕ} (a : Result X ℕ) → IsErrAnd a (λ q. q ≡ p) → Err p ≡ z → a ≡ z
handed-on (Ok x) h e = absurd h
handed-on (Err q) h e = rw h e

-- a field of the text, from `at` up to v
abbrev pub stretch : List ℕ → ℕ → ℕ → List ℕ
stretch text at v = take (v - at) (drop at text)

-- what follows the walk over a field from `at`
abbrev pub walked : Walk → ℕ → ℕ → ℕ → List ℕ → Passed
walked (WalkEnds v) code column at text = cond (in_place code (stretch text at v)) (On (column + 1) (v + 1)) (Err at)
walked (WalkBroken p) code column at text = Err p

unfoldable pub field_passed : ℕ → ℕ → ℕ → ℕ → List ℕ → Passed
field_passed code e column at text = walked (field_from code e (Outside Nothing) at (drop at text)) code column at text

unfoldable pub passed_of : List ℕ → ℕ → ℕ → List ℕ → Passed
passed_of codes column at text =
    cond (leb (length codes) column) (cond (eqb (get_or text at 0) lf) (On 0 (at + 1)) (Err at))
    (field_passed (get_or codes column 0) (end_at codes column) column at text)

-- ---- end_of, walk_field

module _ (j n : ℕ) where
  pub end-comma : j + 1 < n → ◌≡◌ {A = ℕ} 44 (cond (ltb (j + 1) n) 44 13)
  end-comma h = rw (lt-ltb (j + 1) n h)

  pub end-cr : n ≤ j + 1 → ◌≡◌ {A = ℕ} 13 (cond (ltb (j + 1) n) 44 13)
  end-cr h = rw (le-ltb (j + 1) n h)

pub a-comma : AnEnd 44
a-comma = end_is {A = ℕ} (0 ∷ [])

pub a-cr : AnEnd 13
a-cr = end_is {A = ℕ} []

pub ruleset end_cases = (end-comma, end-cr, a-comma, a-cr)

end_same : (codes : List ℕ) (j : ℕ) → cond (ltb (j + 1) (length codes)) 44 13 ≡ end_at codes j
end_same codes j = go (drop (j + 1) codes) (length-drop (j + 1) codes)
  where
    go : (cs : List ℕ) → length cs ≡ length codes - (j + 1) → cond (ltb (j + 1) (length codes)) 44 13 ≡ end_of cs
    go [] l = rw (le-ltb (j + 1) (length codes) (omega arith))
    go (c ∷ cs) l = rw (lt-ltb (j + 1) (length codes) (omega arith))

module _ (code e : ℕ) (text : List ℕ) (at : ℕ) (r : Walk) where
  pub as_number : code ≡ 3 → r ≡ field_from 3 e (Outside Nothing) at (drop at text)
      → r ≡ field_from code e (Outside Nothing) at (drop at text)
  as_number z q = rw z q

  pub as-string : AnEnd e → (code ≡ 3 → ⊥) → (code ≡ 11 → ⊥) → r ≡ string_from e at (drop at text)
      → r ≡ field_from code e (Outside Nothing) at (drop at text)
  unfolding is_string
  as-string a n m q = q ∙ sym (string-is code e kind a at (drop at text))
    where
      kind : is_string code ≡ true
      kind = rw (ne_eqb code 3 n, ne_eqb code 11 m)

pub truth-kind : (code : ℕ) → code ≡ 11 → is_string code ≡ false
unfolding is_string
truth-kind code e = rw e

pub ruleset field_cases = (as_number, as-string, truth-kind)

-- ---- pass_field

module _ (code e column at : ℕ) (text : List ℕ) (w : Walk)
    (q : w ≡ field_from code e (Outside Nothing) at (drop at text)) where
  pub pass-broken : (p : ℕ) → w ≡ WalkBroken p → Err p ≡ field_passed code e column at text
  unfolding field_passed
  pass-broken p z = rw (← q, z)

  module _ (v : ℕ) (z : w ≡ WalkEnds v) where
    module _ (b : Bool) (k : b ≡ fits code (inner_of (stretch text at v))) where
      pub pass_on : b ≡ true → On (column + 1) (v + 1) ≡ field_passed code e column at text
      unfolding field_passed
      pass_on y = rw (← q, z, ← k, y)

      pub pass-unfit : b ≡ false → Err at ≡ field_passed code e column at text
      unfolding field_passed
      pass-unfit y = rw (← q, z, ← k, y)

    module _ (h : at ≤ length text) where
      inside : (at ≤ v) × (v < at + length (drop at text))
      inside = field-within (drop at text) code e (Outside Nothing) at v (sym q ∙ z)

      pub pass-from : at ≤ v
      pass-from = inside.0

      pub pass-to : v ≤ length text
      pass-to = let k = inside.1 in let l = length-drop at text in omega arith

      pub pass_fits : length text < 2 ^ 64 → Fits w64 (v + 1)
      pass_fits f = let k = inside.1 in let l = length-drop at text in record { fits = omega arith }

pub ruleset pass_cases = (pass-broken, pass_on, pass-unfit, pass-from, pass-to, pass_fits)

-- ---- pass

module _ (codes text : List ℕ) (column at : ℕ) where
  pub due-on : length codes ≤ column → get_or text at 0 ≡ 10 → On 0 (at + 1) ≡ passed_of codes column at text
  unfolding passed_of
  due-on h e = rw (le-leb (length codes) column h, e)

  pub due-broken : length codes ≤ column → (get_or text at 0 ≡ 10 → ⊥) → Err at ≡ passed_of codes column at text
  unfolding passed_of
  due-broken h e = rw (le-leb (length codes) column h, ne_eqb (get_or text at 0) 10 e)

  pub field-passed : (r : Passed) (e : ℕ) → column < length codes → e ≡ cond (ltb (column + 1) (length codes)) 44 13
      → r ≡ field_passed (get_or codes column 0) e column at text → r ≡ passed_of codes column at text
  unfolding passed_of
  field-passed r e h k q =
      rw (lt-leb (length codes) column h)
      (q ∙ ap (λ (x : ℕ). field_passed (get_or codes column 0) x column at text) (k ∙ end_same codes column))

pub ruleset due_cases = (due-on, due-broken, field-passed)

-- ---- scan

-- what is still to be scanned
abbrev gone_on : List ℕ → List ℕ → Passed → Walk
gone_on codes text (Ok x) = scan_from in_place codes x.0 (Outside Nothing) [] x.1 (drop x.1 text)
gone_on codes text (Err p) = WalkBroken p

-- further on in the text, and not past its end
abbrev Further : List ℕ → ℕ → Passed → Type 0
Further text at (Ok x) = (at < x.1) × (x.1 ≤ length text)
Further text at (Err p) = Unit {0}

-- one turn of the loop
record Turn (codes text : List ℕ) (column at : ℕ) (r : Passed) : Type 0 where
  scans : scan_from in_place codes column (Outside Nothing) [] at (drop at text) ≡ gone_on codes text r
  further : Further text at r

module _ (codes text : List ℕ) (column at : ℕ) (l : at < length text) where
  due-turn : length codes ≤ column → (b : Bool) → eqb (octet_at text at) lf ≡ b
      → Turn codes text column at (cond b (On 0 (at + 1)) (Err at))
  due-turn h b e = go b (scans ∙ rw e)
    where
      scans : scan_from in_place codes column (Outside Nothing) [] at (drop at text)
          ≡ cond (eqb (octet_at text at) lf)
          (scan_from in_place codes 0 (Outside Nothing) [] (at + 1) (drop (at + 1) text))
          (WalkBroken at)
      scans =
          ap (scan_from in_place codes column (Outside Nothing) [] at) (drop-next text at l)
          ∙ due-is in_place codes column (Outside Nothing) [] at (octet_at text at) h (drop (at + 1) text)

      go : (b : Bool)
          → scan_from in_place codes column (Outside Nothing) [] at (drop at text)
          ≡ cond b (scan_from in_place codes 0 (Outside Nothing) [] (at + 1) (drop (at + 1) text)) (WalkBroken at)
          → Turn codes text column at (cond b (On 0 (at + 1)) (Err at))
      go true q = record { scans = q; further = (omega arith, omega arith) }
      go false q = record { scans = q; further = tt }

  ends-turn : (v : ℕ) → column < length codes
      → field_from (get_or codes column 0) (end_at codes column) (Outside Nothing) at (drop at text) ≡ WalkEnds v
      → Turn codes text column at (walked (WalkEnds v) (get_or codes column 0) column at text)
  ends-turn v h z = go (in_place (get_or codes column 0) (stretch text at v)) scans
    where
      r : Runs in_place codes column (Outside Nothing) [] at (drop at text) v
      r = runs in_place codes (drop at text) column (Outside Nothing) [] at v h z

      far : at + r.wide ≡ v
      far = sym r.ends

      scans : scan_from in_place codes column (Outside Nothing) [] at (drop at text)
          ≡ cond (in_place (get_or codes column 0) (stretch text at v))
          (scan_from in_place codes (column + 1) (Outside Nothing) [] (v + 1) (drop (v + 1) text)) (WalkBroken at)
      scans =
          let n : r.wide ≡ v - at = (let f = far in omega arith) in
          let m : at + suc r.wide ≡ v + 1 = (let f = far in omega arith) in
          let o : at - 0 ≡ at = omega arith in
          let k : at + r.wide + 1 ≡ v + 1 = (let f = far in omega arith) in
          let d : drop (suc r.wide) (drop at text) ≡ drop (v + 1) text =
          drop-drop (suc r.wide) at text ∙ ap (λ (y : ℕ). drop y text) m in
          r.scans ∙ rw (d, k, n, o)

      go : (b : Bool)
          → scan_from in_place codes column (Outside Nothing) [] at (drop at text)
          ≡ cond b (scan_from in_place codes (column + 1) (Outside Nothing) [] (v + 1) (drop (v + 1) text))
          (WalkBroken at)
          → Turn codes text column at (cond b (On (column + 1) (v + 1)) (Err at))
      go true q =
          let w = r.within in
          let k = length-drop at text in
          let f = far in
          record { scans = q; further = (omega arith, omega arith) }
      go false q = record { scans = q; further = tt }

  field-turn : (r : Walk) → column < length codes
      → field_from (get_or codes column 0) (end_at codes column) (Outside Nothing) at (drop at text) ≡ r
      → Turn codes text column at (walked r (get_or codes column 0) column at text)
  field-turn (WalkBroken p) h z =
      let k = length-drop at text in
      record {
        scans = fails in_place codes (drop at text) column (Outside Nothing) [] at p h (λ y. omega arith) z;
        further = tt;
      }
  field-turn (WalkEnds v) h z = ends-turn v h z

  turn : Turn codes text column at (passed_of codes column at text)
  unfolding passed_of field_passed
  turn =
      split column (length codes)
      (λ h. rw (lt-leb (length codes) column h)
      (field-turn (field_from (get_or codes column 0) (end_at codes column) (Outside Nothing) at (drop at text))
      h refl))
      (λ h. rw (le-leb (length codes) column h) (due-turn h (eqb (octet_at text at) lf) refl))

pub scan-starts : (codes text : List ℕ)
    → scan_from in_place codes 0 (Outside Nothing) [] 0 (drop 0 text) ≡ scan_in (held fits) codes text
scan-starts codes text = scan-in-place codes text

module _ (codes text : List ℕ) (column at : ℕ)
    (inv : scan_from in_place codes column (Outside Nothing) [] at (drop at text)
    ≡ scan_in (held fits) codes text) where
  module _ (l : at < length text) (r : Passed) (e : r ≡ passed_of codes column at text) where
    pub scan-stops : (p : ℕ) → r ≡ Err p → WalkBroken p ≡ scan_in (held fits) codes text
    scan-stops p z =
        sym (ap (gone_on codes text) (sym e ∙ z)) ∙ sym (turn codes text column at l).scans ∙ inv

    module _ (j k : ℕ) (z : r ≡ On j k) where
      pub scan-on : scan_from in_place codes j (Outside Nothing) [] k (drop k text) ≡ scan_in (held fits) codes text
      scan-on = sym (ap (gone_on codes text) (sym e ∙ z)) ∙ sym (turn codes text column at l).scans ∙ inv

      further : (at < k) × (k ≤ length text)
      further = rw (sym e ∙ z) at (turn codes text column at l).further

      pub scan-further : at < k
      scan-further = further.0

      pub scan-within : k ≤ length text
      scan-within = further.1

      pub scan-less : length text - k < length text - at
      scan-less = let f = further.0 in let g = further.1 in omega arith

  module _ (h : length text ≤ at) where
    over : cond (cond (eqb column 0) true false) (WalkEnds at) (WalkBroken at) ≡ scan_in (held fits) codes text
    unfolding scan_from
    over = rw (drop_of_length-le text {i = at} h) at inv

    pub scan-ends : column ≡ 0 → WalkEnds at ≡ scan_in (held fits) codes text
    scan-ends z = rw z at over

    pub scan-open : (column ≡ 0 → ⊥) → WalkBroken at ≡ scan_in (held fits) codes text
    scan-open n = rw (ne_eqb column 0 n) at over

pub ruleset scan_cases =
    (scan-starts, scan-stops, scan-on, scan-further, scan-within, scan-less, scan-ends, scan-open)
