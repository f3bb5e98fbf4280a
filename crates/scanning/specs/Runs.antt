-- The machine goes over a field as the field is scanned: to its end, where the field is looked at and the next one
-- begins, or to the octet at fault. Assumes nothing.
use Rattle.std.specs.Prelude.{ℕ, suc, ◌+◌, ◌-◌, ◌≤◌, ◌<◌, ◌≡◌, refl, Bool, true, false, cond, List, [], ◌∷◌, ◌++◌, eqb, length, take, drop, get_or}
use Rattle.std.proofs.Common.{add-zero, arith, add-one, sym, ap, ◌∙◌, append-nil, length-append, length-drop, drop_of_length-le, drop-cons, lt-ltb, le-ltb, eqb-true}
use Rattle.std.proofs.Math.Seq.{append_snoc}
use Rattle.octets.specs.Cases.{split}
use Rattle.answers.specs.Walk.{Walk}
use Rattle.answers.specs.Walk.{Ends as WalkEnds, Broken as WalkBroken}
use Rattle.answers.specs.Walk.{no_end}
use Rattle.entry.specs.Record.{unlike}
use Rattle.sheet.specs.Field.{lf}
use Rattle.scanning.specs.declared.Fill.TheVariants.{Nothing}
use Rattle.scanning.specs.declared.Stage.{Stage}
use Rattle.scanning.specs.declared.Stage.TheVariants.{Outside}
use Rattle.scanning.specs.declared.Step.{Step}
use Rattle.scanning.specs.declared.Step.TheVariants.{Goes, Ends, Broken}
use Rattle.scanning.specs.Steps.{step_of, moved, field_from}
use Rattle.scanning.specs.Scan.{end_at, at_start, scan_from}

pub no-break : {X : Type 0} {w p : ℕ} → WalkEnds w ≡ WalkBroken p → X
no-break e = no_end (sym e)

-- ---- one octet

pub field-none : (code e : ℕ) (s : Stage) (i : ℕ) → field_from code e s i [] ≡ WalkBroken i
unfolding field_from
field-none code e s i = refl

pub field_step : (code e : ℕ) (s : Stage) (i x : ℕ) (xs : List ℕ) (t : Step) → step_of code e s x ≡ t
    → field_from code e s i (x ∷ xs) ≡ moved t i (λ u. field_from code e u (i + 1) xs) (WalkEnds i)
unfolding field_from
field_step code e s i x xs t q = rw q

-- a field ends within the text
pub field-within : (xs : List ℕ) (code e : ℕ) (s : Stage) (i v : ℕ) → field_from code e s i xs ≡ WalkEnds v
    → (i ≤ v) × (v < i + length xs)
field-within [] code e s i v q = no_end (sym (field-none code e s i) ∙ q)
field-within (x ∷ xs) code e s i v q =
    go (step_of code e s x) (sym (field_step code e s i x xs (step_of code e s x) refl) ∙ q)
    (λ u z. field-within xs code e u (i + 1) v z)
  where
    go : (t : Step) → moved t i (λ u. field_from code e u (i + 1) xs) (WalkEnds i) ≡ WalkEnds v
        → ((u : Stage) → field_from code e u (i + 1) xs ≡ WalkEnds v → (i + 1 ≤ v) × (v < i + 1 + length xs))
        → (i ≤ v) × (v < i + length (x ∷ xs))
    go (Goes u) z ih = let k = ih u z in (omega (arith, k.0), omega (arith, k.1))
    go Ends z ih = let y : i ≡ v = cc in (omega arith, omega arith)
    go Broken z ih = no_end z

module _ (raw : ℕ → List ℕ → Bool) (codes : List ℕ) where
  -- what follows where field j has ended with the text f
  abbrev pub ended : ℕ → List ℕ → ℕ → List ℕ → Walk
  ended j f i xs =
      cond (raw (get_or codes j 0) f) (scan_from raw codes (j + 1) (Outside Nothing) [] (i + 1) xs)
      (WalkBroken (i - length f))

  pub step_is : (j : ℕ) (s : Stage) (f : List ℕ) (i x : ℕ) (t : Step) → j < length codes
      → step_of (get_or codes j 0) (end_at codes j) s x ≡ t → (xs : List ℕ)
      → scan_from raw codes j s f i (x ∷ xs)
      ≡ moved t i (λ u. scan_from raw codes j u (f ++ (x ∷ [])) (i + 1) xs) (ended j f i xs)
  unfolding scan_from
  step_is j s f i x t h e xs = rw (lt-ltb j (length codes) h, e)

  -- behind the last field of a line
  pub due-is : (j : ℕ) (s : Stage) (f : List ℕ) (i x : ℕ) → length codes ≤ j → (xs : List ℕ)
      → scan_from raw codes j s f i (x ∷ xs)
      ≡ cond (eqb x lf) (scan_from raw codes 0 (Outside Nothing) [] (i + 1) xs) (WalkBroken i)
  unfolding scan_from
  due-is j s f i x h xs = rw (le-ltb j (length codes) h)

  pub stops : (j : ℕ) (s : Stage) (f : List ℕ) (i : ℕ) → at_start j f ≡ false
      → scan_from raw codes j s f i [] ≡ WalkBroken i
  unfolding scan_from
  stops j s f i z = rw z

  -- ---- a field

  pub record Runs (j : ℕ) (s : Stage) (f : List ℕ) (i : ℕ) (xs : List ℕ) (v : ℕ) : Type 0 where
    pub wide : ℕ
    pub ends : v ≡ i + wide
    pub within : wide < length xs
    pub scans : scan_from raw codes j s f i xs
        ≡ cond (raw (get_or codes j 0) (f ++ take wide xs))
        (scan_from raw codes (j + 1) (Outside Nothing) [] (i + wide + 1) (drop (suc wide) xs))
        (WalkBroken (i - length f))

  pub runs : (xs : List ℕ) (j : ℕ) (s : Stage) (f : List ℕ) (i v : ℕ) → j < length codes
      → field_from (get_or codes j 0) (end_at codes j) s i xs ≡ WalkEnds v → Runs j s f i xs v
  runs [] j s f i v h q = no_end (sym (field-none (get_or codes j 0) (end_at codes j) s i) ∙ q)
  runs (x ∷ xs) j s f i v h q =
      go (step_of (get_or codes j 0) (end_at codes j) s x) refl (λ u z. runs xs j u (f ++ (x ∷ [])) (i + 1) v h z)
    where
      walks : (t : Step) → step_of (get_or codes j 0) (end_at codes j) s x ≡ t
          → moved t i (λ u. field_from (get_or codes j 0) (end_at codes j) u (i + 1) xs) (WalkEnds i) ≡ WalkEnds v
      walks t z = sym (field_step (get_or codes j 0) (end_at codes j) s i x xs t z) ∙ q

      go : (t : Step) → step_of (get_or codes j 0) (end_at codes j) s x ≡ t
          → ((u : Stage) → field_from (get_or codes j 0) (end_at codes j) u (i + 1) xs ≡ WalkEnds v
          → Runs j u (f ++ (x ∷ [])) (i + 1) xs v)
          → Runs j s f i (x ∷ xs) v
      go (Goes u) z ih =
          let r = ih u (walks (Goes u) z) in
          let n : i + 1 - length (f ++ (x ∷ [])) ≡ i - length f = rw (length-append f (x ∷ [])) (omega arith) in
          let m : i + 1 + r.wide + 1 ≡ i + suc r.wide + 1 = omega arith in
          record {
            wide = suc r.wide;
            ends = r.ends ∙ omega arith;
            within = omega (arith, r.within);
            scans = step_is j s f i x (Goes u) h z xs ∙ r.scans ∙ rw (append_snoc f x (take r.wide xs), n, m);
          }
      go Ends z ih =
          let a : WalkEnds i ≡ WalkEnds v = walks Ends z in
          let b : i ≡ v = cc in
          record {
            wide = 0;
            ends = omega arith;
            within = omega arith;
            scans = step_is j s f i x Ends h z xs ∙ rw (append-nil f, add-zero i);
          }
      go Broken z ih = no_end (walks Broken z)

  longer : (j : ℕ) (f : List ℕ) (x : ℕ) → at_start j (f ++ (x ∷ [])) ≡ true → ⊥
  longer j f x z = go (eqb j 0) z
    where
      go : (b : Bool) → cond b (eqb (length (f ++ (x ∷ []))) 0) false ≡ true → ⊥
      go true q =
          let y = eqb-true (length (f ++ (x ∷ []))) 0 q in
          let l = length-append f (x ∷ []) in
          omega arith
      go false q = unlike q

  -- where the field fails, the machine does
  pub fails : (xs : List ℕ) (j : ℕ) (s : Stage) (f : List ℕ) (i p : ℕ) → j < length codes
      → (at_start j f ≡ true → 0 < length xs) → field_from (get_or codes j 0) (end_at codes j) s i xs ≡ WalkBroken p
      → scan_from raw codes j s f i xs ≡ WalkBroken p
  fails [] j s f i p h n q = nothing_left (at_start j f) refl
    where
      nothing_left : (b : Bool) → at_start j f ≡ b → scan_from raw codes j s f i [] ≡ WalkBroken p
      nothing_left true z = absurd (let l = n z in omega arith)
      nothing_left false z = stops j s f i z ∙ sym (field-none (get_or codes j 0) (end_at codes j) s i) ∙ q
  fails (x ∷ xs) j s f i p h n q =
      go (step_of (get_or codes j 0) (end_at codes j) s x) refl
      (λ u z. fails xs j u (f ++ (x ∷ [])) (i + 1) p h (λ w. absurd (longer j f x w)) z)
    where
      walks : (t : Step) → step_of (get_or codes j 0) (end_at codes j) s x ≡ t
          → moved t i (λ u. field_from (get_or codes j 0) (end_at codes j) u (i + 1) xs) (WalkEnds i) ≡ WalkBroken p
      walks t z = sym (field_step (get_or codes j 0) (end_at codes j) s i x xs t z) ∙ q

      go : (t : Step) → step_of (get_or codes j 0) (end_at codes j) s x ≡ t
          → ((u : Stage) → field_from (get_or codes j 0) (end_at codes j) u (i + 1) xs ≡ WalkBroken p
          → scan_from raw codes j u (f ++ (x ∷ [])) (i + 1) xs ≡ WalkBroken p)
          → scan_from raw codes j s f i (x ∷ xs) ≡ WalkBroken p
      go (Goes u) z ih = step_is j s f i x (Goes u) h z xs ∙ ih u (walks (Goes u) z)
      go Ends z ih = no-break (walks Ends z)
      go Broken z ih = step_is j s f i x Broken h z xs ∙ walks Broken z

-- ---- the codes from j on

pub code_at : (codes : List ℕ) (j c : ℕ) (cs : List ℕ) → drop j codes ≡ c ∷ cs
    → (get_or codes j 0 ≡ c) × (drop (j + 1) codes ≡ cs) × (j < length codes)
code_at codes j c cs e =
    split j (length codes)
    (λ h. let z : ◌≡◌ {A = List ℕ} (get_or codes j 0 ∷ drop (suc j) codes) (c ∷ cs) = sym (drop-cons codes j 0 h) ∙ e in
    (cc, rw (add-one j) cc, h))
    (λ h. let z : ◌≡◌ {A = List ℕ} [] (c ∷ cs) = sym (drop_of_length-le codes {i = j} h) ∙ e in
    absurd (let y : ◌≡◌ {A = ℕ} 0 1 = cc in omega arith))

pub none_left : (codes : List ℕ) (j : ℕ) → drop j codes ≡ [] → length codes ≤ j
none_left codes j e = let l = sym (length-drop j codes) ∙ ap length e in omega arith

pub drop_past : (f : List ℕ) (e : ℕ) (rest : List ℕ) → drop (suc (length f)) (f ++ (e ∷ rest)) ≡ rest
drop_past [] e rest = refl
drop_past (x ∷ f) e rest = drop_past f e rest
