-- Two ways to look at fields that agree on every field that is spelt in a permitted way give the same scan. So a field
-- may be judged where it stands.
use Prim.Native.Nat.{ℕ, zero, suc, ◌+◌, ◌≤◌, ◌<◌}
use Rattle.std.proofs.Common.{arith, ◌∙◌, le-ltb}
use Rattle.std.specs.Prelude.{◌≡◌, Bool, true, get_or}
use Rattle.std.proofs.Math.Path.{refl, sym, ap}
use mathlib.Core.List.{List, [], ◌∷◌}
use Rattle.std.proofs.Math.ListN.{length, take, drop, length-append}
use Rattle.std.proofs.Math.Seq.{take-append_seam}
use Rattle.octets.specs.Cases.{split}
use Rattle.answers.specs.Walk.{Walk}
use Rattle.answers.specs.Walk.{Ends as WalkEnds, Broken as WalkBroken}
use Rattle.sheet.specs.Back.{Spells, content-back}
use Rattle.scanning.specs.declared.Fill.TheVariants.{Nothing}
use Rattle.scanning.specs.declared.Stage.TheVariants.{Outside}
use Rattle.scanning.specs.Steps.{holds, field_from}
use Rattle.scanning.specs.Scan.{fits, held, end_at, scan_from, scan_in}
use Rattle.scanning.specs.FieldSound.{field-sound}
use Rattle.scanning.specs.Runs.{runs, fails, drop_past}
use Rattle.scanning.specs.Inner.{inner_of, fits-inner}

module _ (raw way : ℕ → List ℕ → Bool) (codes : List ℕ)
    (agree : (code : ℕ) (t f : List ℕ) → Spells t f → holds code Nothing t ≡ true → raw code f ≡ way code f) where
  Sames : ℕ → Type 0
  Sames n =
      (j i : ℕ) (xs : List ℕ) → length xs ≤ n
      → scan_from raw codes j (Outside Nothing) [] i xs ≡ scan_from way codes j (Outside Nothing) [] i xs

  none-same : (j i : ℕ) → scan_from raw codes j (Outside Nothing) [] i []
      ≡ scan_from way codes j (Outside Nothing) [] i []
  unfolding scan_from
  none-same j i = refl

  due-same : (n j i x : ℕ) (xs : List ℕ) → Sames n → length xs ≤ n → length codes ≤ j
      → scan_from raw codes j (Outside Nothing) [] i (x ∷ xs) ≡ scan_from way codes j (Outside Nothing) [] i (x ∷ xs)
  unfolding scan_from Sames
  due-same n j i x xs ih h l = rw (le-ltb j (length codes) l, ih 0 (i + 1) xs h)

  -- a field that ends
  field-same : (n j i : ℕ) (xs : List ℕ) (v : ℕ) → Sames n → length xs ≤ suc n → j < length codes
      → field_from (get_or codes j 0) (end_at codes j) (Outside Nothing) i xs ≡ WalkEnds v
      → scan_from raw codes j (Outside Nothing) [] i xs ≡ scan_from way codes j (Outside Nothing) [] i xs
  unfolding Sames
  field-same n j i xs v ih h l e =
      let r = runs raw codes xs j (Outside Nothing) [] i v l e in
      let w = runs way codes xs j (Outside Nothing) [] i v l e in
      let s = field-sound (get_or codes j 0) (end_at codes j) xs i v e in
      let a : r.wide ≡ length s.field = omega (arith, r.ends, s.ends) in
      let b : w.wide ≡ length s.field = omega (arith, w.ends, s.ends) in
      let m : take (length s.field) xs ≡ s.field =
      ap (take (length s.field)) s.reads ∙ take-append_seam s.field (end_at codes j ∷ s.rest) in
      let d : drop (suc (length s.field)) xs ≡ s.rest =
      ap (drop (suc (length s.field))) s.reads ∙ drop_past s.field (end_at codes j) s.rest in
      let k : length xs ≡ length s.field + suc (length s.rest) =
      ap length s.reads ∙ length-append s.field (end_at codes j ∷ s.rest) in
      let g : raw (get_or codes j 0) s.field ≡ way (get_or codes j 0) s.field =
      agree (get_or codes j 0) s.content s.field s.spelt s.held in
      r.scans
      ∙ rw (a, m, d, g, ih (j + 1) (i + length s.field + 1) s.rest (omega arith)) (sym (w.scans ∙ rw (b, m, d)))

  more_same : (n : ℕ) → Sames n → Sames (suc n)
  unfolding Sames
  more_same n ih j i [] h = none-same j i
  more_same n ih j i (x ∷ xs) h =
      split j (length codes)
      (λ l. go (field_from (get_or codes j 0) (end_at codes j) (Outside Nothing) i (x ∷ xs)) refl l)
      (λ l. due-same n j i x xs ih (omega arith) l)
    where
      go : (r : Walk) → field_from (get_or codes j 0) (end_at codes j) (Outside Nothing) i (x ∷ xs) ≡ r
          → j < length codes
          → scan_from raw codes j (Outside Nothing) [] i (x ∷ xs)
          ≡ scan_from way codes j (Outside Nothing) [] i (x ∷ xs)
      go (WalkEnds v) e l = field-same n j i (x ∷ xs) v ih h l e
      go (WalkBroken p) e l =
          fails raw codes (x ∷ xs) j (Outside Nothing) [] i p l (λ z. omega arith) e
          ∙ sym (fails way codes (x ∷ xs) j (Outside Nothing) [] i p l (λ z. omega arith) e)

  first-same : Sames 0
  unfolding Sames
  first-same j i [] h = none-same j i
  first-same j i (x ∷ xs) h = absurd (omega arith)

  sames : (n : ℕ) → Sames n
  sames zero = first-same
  sames (suc n) = more_same n (sames n)

  pub scan-same : (xs : List ℕ) → scan_in raw codes xs ≡ scan_in way codes xs
  unfolding Sames
  scan-same xs = sames (length xs) 0 0 xs (omega arith)

-- a field judged where it stands
abbrev pub in_place : ℕ → List ℕ → Bool
in_place code f = fits code (inner_of f)

pub scan-in-place : (codes xs : List ℕ) → scan_in in_place codes xs ≡ scan_in (held fits) codes xs
scan-in-place codes xs =
    scan-same in_place (held fits) codes (λ code t f s h. fits-inner code t f s h
    ∙ ap (fits code) (sym (content-back t f s))) xs
