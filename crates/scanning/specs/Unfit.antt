-- A text that is refused for no octet is refused for a field that has ended and holds what is no value; its place is
-- the field's start. Assumes nothing.
use Prim.Native.Nat.{ℕ, ◌+◌, ◌-◌, ◌≤◌, ◌<◌}
use Rattle.std.proofs.Common.{add-zero, arith, sym, ap, ◌∙◌}
use Rattle.std.specs.Prelude.{◌≡◌, Bool, true, false, ◌⊎◌, get_or}
use Rattle.std.proofs.Math.Path.{refl}
use Rattle.std.proofs.Math.Bool.{cond}
use Rattle.std.proofs.Math.Logic.{inl, inr}
use mathlib.Core.List.{List, [], ◌∷◌, ◌++◌}
use Rattle.std.proofs.Math.Dec.{eqb}
use Rattle.std.proofs.Math.ListN.{length}
use Rattle.octets.specs.Cases.{split}
use Rattle.answers.specs.Walk.{Walk}
use Rattle.answers.specs.Walk.{Broken as WalkBroken}
use Rattle.sheet.specs.Field.{lf}
use Rattle.sheet.specs.Reading.{content_in}
use Rattle.scanning.specs.declared.Fill.TheVariants.{Nothing}
use Rattle.scanning.specs.declared.Stage.{Stage}
use Rattle.scanning.specs.declared.Stage.TheVariants.{Outside}
use Rattle.scanning.specs.declared.Step.{Step}
use Rattle.scanning.specs.declared.Step.TheVariants.{Goes, Ends, Broken}
use Rattle.scanning.specs.Steps.{step_of}
use Rattle.scanning.specs.Scan.{anything, held, end_at, scan_from, scan_in}
use Rattle.scanning.specs.Runs.{step_is, due-is}

module _ (good : ℕ → List ℕ → Bool) (codes : List ℕ) where
  abbrev from : ℕ → Stage → List ℕ → ℕ → List ℕ → Walk
  from j s f i xs = scan_from (held good) codes j s f i xs

  -- the machine, having gone over `before`, stands in a field whose text is `field`; the next octet ends it, what it
  -- holds isn't good, and p is where it started
  pub record Unfit (j : ℕ) (s : Stage) (f : List ℕ) (i : ℕ) (xs : List ℕ) (p : ℕ) : Type 0 where
    pub before : List ℕ
    pub end : ℕ
    pub rest : List ℕ
    pub reads : xs ≡ before ++ (end ∷ rest)
    pub column : ℕ
    pub stage : Stage
    pub field : List ℕ
    pub reached : (ys : List ℕ)
        → scan_from (held good) codes j s f i (before ++ ys)
        ≡ scan_from (held good) codes column stage field (i + length before) ys
    pub due : column < length codes
    pub ended : step_of (get_or codes column 0) (end_at codes column) stage end ≡ Ends
    pub bad : good (get_or codes column 0) (content_in field) ≡ false
    pub place : p ≡ i + length before - length field

  further : (j k : ℕ) (s t : Stage) (f g : List ℕ) (i x : ℕ) (xs : List ℕ) (p : ℕ)
      → ((ys : List ℕ) → from j s f i (x ∷ ys) ≡ from k t g (i + 1) ys) → Unfit k t g (i + 1) xs p
      → Unfit j s f i (x ∷ xs) p
  further j k s t f g i x xs p e r =
      let n : i + 1 + length r.before ≡ i + length (x ∷ r.before) = omega arith in
      record {
        before = x ∷ r.before;
        end = r.end;
        rest = r.rest;
        reads = ap (λ (l : List ℕ). x ∷ l) r.reads;
        column = r.column;
        stage = r.stage;
        field = r.field;
        reached = λ ys. e (r.before ++ ys) ∙ r.reached ys
            ∙ ap (λ (m : ℕ). from r.column r.stage r.field m ys) n;
        due = r.due;
        ended = r.ended;
        bad = r.bad;
        place = r.place ∙ ap (λ (m : ℕ). m - length r.field) n;
      }

  here : (j : ℕ) (s : Stage) (f : List ℕ) (i x : ℕ) (xs : List ℕ) (p : ℕ) → j < length codes
      → step_of (get_or codes j 0) (end_at codes j) s x ≡ Ends → good (get_or codes j 0) (content_in f) ≡ false
      → i - length f ≡ p → Unfit j s f i (x ∷ xs) p
  here j s f i x xs p h e b q =
      record {
        before = [];
        end = x;
        rest = xs;
        reads = refl;
        column = j;
        stage = s;
        field = f;
        reached = λ ys. ap (λ (m : ℕ). from j s f m ys) (sym (add-zero i));
        due = h;
        ended = e;
        bad = b;
        place = sym q ∙ ap (λ (m : ℕ). m - length f) (sym (add-zero i));
      }

  none_is : (j : ℕ) (s : Stage) (f : List ℕ) (i : ℕ) → from j s f i [] ≡ scan_from anything codes j s f i []
  unfolding scan_from
  none_is j s f i = refl

  Either : ℕ → Stage → List ℕ → ℕ → List ℕ → ℕ → Type 0
  Either j s f i xs p = (scan_from anything codes j s f i xs ≡ WalkBroken p) ⊎ Unfit j s f i xs p

  onward : (j k : ℕ) (s t : Stage) (f g : List ℕ) (i x : ℕ) (xs : List ℕ) (p : ℕ)
      → ((ys : List ℕ) → from j s f i (x ∷ ys) ≡ from k t g (i + 1) ys)
      → ((ys : List ℕ) → scan_from anything codes j s f i (x ∷ ys) ≡ scan_from anything codes k t g (i + 1) ys)
      → Either k t g (i + 1) xs p → Either j s f i (x ∷ xs) p
  unfolding Either
  onward j k s t f g i x xs p e a (inl q) = inl (a xs ∙ q)
  onward j k s t f g i x xs p e a (inr r) = inr (further j k s t f g i x xs p e r)

  faults : (xs : List ℕ) (j : ℕ) (s : Stage) (f : List ℕ) (i p : ℕ) → from j s f i xs ≡ WalkBroken p
      → Either j s f i xs p
  unfolding Either
  faults [] j s f i p q = inl (sym (none_is j s f i) ∙ q)
  faults (x ∷ xs) j s f i p q =
      split j (length codes)
      (λ h. inside h (step_of (get_or codes j 0) (end_at codes j) s x) refl
      (λ t z. faults xs j t (f ++ (x ∷ [])) (i + 1) p z) (λ z. faults xs (j + 1) (Outside Nothing) [] (i + 1) p z))
      (λ h. due h (eqb x lf) refl (λ z. faults xs 0 (Outside Nothing) [] (i + 1) p z))
    where
      line : (any : ℕ → List ℕ → Bool) → length codes ≤ j → (b : Bool) → eqb x lf ≡ b → (ys : List ℕ)
          → scan_from any codes j s f i (x ∷ ys)
          ≡ cond b (scan_from any codes 0 (Outside Nothing) [] (i + 1) ys) (WalkBroken i)
      line any h b z ys = due-is any codes j s f i x h ys ∙ rw z

      due : length codes ≤ j → (b : Bool) → eqb x lf ≡ b
          → (from 0 (Outside Nothing) [] (i + 1) xs ≡ WalkBroken p → Either 0 (Outside Nothing) [] (i + 1) xs p)
          → Either j s f i (x ∷ xs) p
      due h true z ih =
          onward j 0 s (Outside Nothing) f [] i x xs p (line (held good) h true z) (line anything h true z)
          (ih (sym (line (held good) h true z xs) ∙ q))
      due h false z ih = inl (line anything h false z xs ∙ sym (line (held good) h false z xs) ∙ q)

      after : j < length codes → step_of (get_or codes j 0) (end_at codes j) s x ≡ Ends → (b : Bool)
          → good (get_or codes j 0) (content_in f) ≡ b → (ys : List ℕ)
          → from j s f i (x ∷ ys) ≡ cond b (from (j + 1) (Outside Nothing) [] (i + 1) ys) (WalkBroken (i - length f))
      after h z b y ys = step_is (held good) codes j s f i x Ends h z ys ∙ rw y

      ends : j < length codes → step_of (get_or codes j 0) (end_at codes j) s x ≡ Ends → (b : Bool)
          → good (get_or codes j 0) (content_in f) ≡ b
          → (from (j + 1) (Outside Nothing) [] (i + 1) xs ≡ WalkBroken p
          → Either (j + 1) (Outside Nothing) [] (i + 1) xs p)
          → Either j s f i (x ∷ xs) p
      ends h z true y jh =
          onward j (j + 1) s (Outside Nothing) f [] i x xs p (after h z true y)
          (step_is anything codes j s f i x Ends h z)
          (jh (sym (after h z true y xs) ∙ q))
      ends h z false y jh =
          let a : WalkBroken (i - length f) ≡ WalkBroken p = sym (after h z false y xs) ∙ q in
          let w : i - length f ≡ p = cc in
          inr (here j s f i x xs p h z y w)

      inside : j < length codes → (t : Step) → step_of (get_or codes j 0) (end_at codes j) s x ≡ t
          → ((u : Stage) → from j u (f ++ (x ∷ [])) (i + 1) xs ≡ WalkBroken p → Either j u (f ++ (x ∷ [])) (i + 1) xs p)
          → (from (j + 1) (Outside Nothing) [] (i + 1) xs ≡ WalkBroken p
          → Either (j + 1) (Outside Nothing) [] (i + 1) xs p)
          → Either j s f i (x ∷ xs) p
      inside h (Goes u) z ih jh =
          let e = step_is (held good) codes j s f i x (Goes u) h z in
          onward j j s u f (f ++ (x ∷ [])) i x xs p e (step_is anything codes j s f i x (Goes u) h z)
          (ih u (sym (e xs) ∙ q))
      inside h Ends z ih jh = ends h z (good (get_or codes j 0) (content_in f)) refl jh
      inside h Broken z ih jh =
          inl
          (step_is anything codes j s f i x Broken h z xs ∙ sym (step_is (held good) codes j s f i x Broken h z xs) ∙ q)

  -- a refused text: its place is that of the text with sizes and UTF-8 left aside, or the start of a field that is no
  -- value
  pub refused-for : (xs : List ℕ) (p : ℕ) → scan_in (held good) codes xs ≡ WalkBroken p
      → (scan_in anything codes xs ≡ WalkBroken p) ⊎ Unfit 0 (Outside Nothing) [] 0 xs p
  unfolding Either
  refused-for xs p q = faults xs 0 (Outside Nothing) [] 0 p q
