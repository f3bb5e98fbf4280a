-- The place of a fault is right (reading 27): what stands before it is the beginning of a text that is taken, and with
-- the octet at the place no text is, sizes and UTF-8 left aside. Assumes nothing.
use Rattle.std.specs.Prelude.{ℕ, zero, suc, ◌+◌, ◌≤◌, ◌<◌, ◌≡◌, refl, Bool, List, [], ◌∷◌, ◌++◌, eqb, length, drop, get_or, take}
use Rattle.std.proofs.Common.{zero-add, arith, sym, ◌∙◌}
use Rattle.std.proofs.Math.Path.{ap}
use Rattle.std.proofs.Math.Bool.{true, false, cond}
use Rattle.answers.specs.Walk.{Walk}
use Rattle.answers.specs.Walk.{Ends as WalkEnds, Broken as WalkBroken}
use Rattle.sheet.specs.Field.{quote, lf}
use Rattle.scanning.specs.declared.Fill.TheVariants.{Nothing}
use Rattle.scanning.specs.declared.Stage.{Stage}
use Rattle.scanning.specs.declared.Stage.TheVariants.{Outside, Inside, Behind}
use Rattle.scanning.specs.declared.Step.{Step}
use Rattle.scanning.specs.declared.Step.TheVariants.{Goes, Ends, Broken}
use Rattle.scanning.specs.Steps.{step_of}
use Rattle.scanning.specs.Scan.{anything, end_at, at_start, scan_from, scan_in}
use Rattle.scanning.specs.FieldBack.{end_is, step_end, step-close, step-last}
use Rattle.scanning.specs.Runs.{no-break, step_is, due-is}

module _ (codes : List ℕ) where
  abbrev from : ℕ → Stage → List ℕ → ℕ → List ℕ → Walk
  from j s f i xs = scan_from anything codes j s f i xs

  -- one octet leads from here to there
  abbrev Leads : ℕ → ℕ → Stage → Stage → List ℕ → List ℕ → ℕ → ℕ → Type 0
  Leads j k s t f g i x = (ys : List ℕ) → from j s f i (x ∷ ys) ≡ from k t g (i + 1) ys

  -- ---- every text that has not failed can be brought to its end

  -- a text that is taken from here on
  record Closes (j : ℕ) (s : Stage) (f : List ℕ) (i : ℕ) : Type 0 where
    tail : List ℕ
    taken : from j s f i tail ≡ WalkEnds (i + length tail)

  one_on_lem : (j k : ℕ) (s t : Stage) (f g : List ℕ) (i x : ℕ) → Leads j k s t f g i x → Closes k t g (i + 1)
      → Closes j s f i
  one_on_lem j k s t f g i x e c =
      record { tail = x ∷ c.tail; taken = e c.tail ∙ c.taken ∙ ap WalkEnds (omega arith) }

  none-on : (i : ℕ) → from 0 (Outside Nothing) [] i [] ≡ WalkEnds (i + 0)
  unfolding scan_from
  none-on i = ap WalkEnds (omega arith)

  line-end : (f : List ℕ) (i j : ℕ) → length codes ≤ j → (s : Stage) → Closes j s f i
  line-end f i j h s =
      one_on_lem j 0 s (Outside Nothing) f [] i lf (due-is anything codes j s f i lf h) (record {
        tail = [];
        taken = none-on (i + 1);
      })

  ends_on : (f : List ℕ) (i j : ℕ) (s : Stage) → j < length codes
      → step_of (get_or codes j 0) (end_at codes j) s (end_at codes j) ≡ Ends
      → Closes (j + 1) (Outside Nothing) [] (i + 1) → Closes j s f i
  ends_on f i j s h e c =
      one_on_lem j (j + 1) s (Outside Nothing) f [] i (end_at codes j)
      (step_is anything codes j s f i (end_at codes j) Ends h e) c

  closes : (left j : ℕ) → j + left ≡ length codes → (s : Stage) (f : List ℕ) (i : ℕ) → Closes j s f i
  closes zero j e s f i = line-end f i j (omega arith) s
  closes (suc left) j e (Outside fill) f i =
      ends_on f i j (Outside fill) (omega arith)
      (step_end (get_or codes j 0) (end_at codes j) (end_is (drop (j + 1) codes)) fill)
      (closes left (j + 1) (omega arith) (Outside Nothing) [] (i + 1))
  closes (suc left) j e Behind f i =
      ends_on f i j Behind (omega arith) (step-last (get_or codes j 0) (end_at codes j) (end_is (drop (j + 1) codes)))
      (closes left (j + 1) (omega arith) (Outside Nothing) [] (i + 1))
  closes (suc left) j e (Inside fill) f i =
      one_on_lem j j (Inside fill) Behind f (f ++ (quote ∷ [])) i quote
      (step_is anything codes j (Inside fill) f i quote (Goes Behind) (omega arith)
      (step-close (get_or codes j 0) (end_at codes j) (end_is (drop (j + 1) codes)) fill))
      (ends_on (f ++ (quote ∷ [])) (i + 1) j Behind (omega arith)
      (step-last (get_or codes j 0) (end_at codes j) (end_is (drop (j + 1) codes)))
      (closes left (j + 1) (omega arith) (Outside Nothing) [] (i + 1 + 1)))

  -- ---- the place

  -- p is so many octets on: before it some text goes on to be taken, and with the octet there none
  record FaultIs (j : ℕ) (s : Stage) (f : List ℕ) (i : ℕ) (xs : List ℕ) (p : ℕ) : Type 0 where
    before : ℕ
    place : p ≡ i + before
    within : before ≤ length xs
    tail : List ℕ
    viable : from j s f i (take before xs ++ tail) ≡ WalkEnds (i + before + length tail)
    dead : before < length xs → (more : List ℕ) → from j s f i (take (suc before) xs ++ more) ≡ WalkBroken p

  here : (j : ℕ) (s : Stage) (f : List ℕ) (i : ℕ) (xs : List ℕ) (p : ℕ) → Closes j s f i → i ≡ p
      → (0 < length xs → (more : List ℕ) → from j s f i (take 1 xs ++ more) ≡ WalkBroken p) → FaultIs j s f i xs p
  here j s f i xs p c e d =
      record {
        before = 0;
        place = omega arith;
        within = omega arith;
        tail = c.tail;
        viable = c.taken ∙ ap WalkEnds (omega arith);
        dead = d;
      }

  further : (j k : ℕ) (s t : Stage) (f g : List ℕ) (i x : ℕ) (xs : List ℕ) (p : ℕ) → Leads j k s t f g i x
      → FaultIs k t g (i + 1) xs p → FaultIs j s f i (x ∷ xs) p
  further j k s t f g i x xs p e r =
      record {
        before = suc r.before;
        place = r.place ∙ omega arith;
        within = omega (arith, r.within);
        tail = r.tail;
        viable = e (take r.before xs ++ r.tail) ∙ r.viable ∙ ap WalkEnds (omega arith);
        dead = λ h more. e (take (suc r.before) xs ++ more) ∙ r.dead (omega arith) more;
      }

  broken-one : {i p : ℕ} → ◌≡◌ {A = Walk} (WalkBroken i) (WalkBroken p) → i ≡ p
  broken-one e = cc

  stuck : (j : ℕ) (s : Stage) (f : List ℕ) (i x : ℕ) (xs : List ℕ) (p : ℕ) → Closes j s f i
      → ((ys : List ℕ) → from j s f i (x ∷ ys) ≡ WalkBroken i) → from j s f i (x ∷ xs) ≡ WalkBroken p
      → FaultIs j s f i (x ∷ xs) p
  stuck j s f i x xs p c g e =
      let z : i ≡ p = broken-one (sym (g xs) ∙ e) in
      here j s f i (x ∷ xs) p c z (λ l more. g more ∙ ap WalkBroken z)

  nothing_left : (j : ℕ) (s : Stage) (f : List ℕ) (i p : ℕ) → from j s f i [] ≡ WalkBroken p → i ≡ p
  unfolding scan_from
  nothing_left j s f i p e = go (at_start j f) e
    where
      go : (b : Bool) → cond b (WalkEnds i) (WalkBroken i) ≡ WalkBroken p → i ≡ p
      go true q = no-break q
      go false q = broken-one q

  fault-is : (left j : ℕ) → j + left ≡ length codes → (s : Stage) (f : List ℕ) (i : ℕ) (xs : List ℕ) (p : ℕ)
      → from j s f i xs ≡ WalkBroken p → FaultIs j s f i xs p
  fault-is left j h s f i [] p e =
      here j s f i [] p (closes left j h s f i) (nothing_left j s f i p e) (λ z. absurd (omega arith))
  fault-is zero j h s f i (x ∷ xs) p e =
      go (eqb x lf) refl (λ q. fault-is (length codes) 0 (zero-add (length codes)) (Outside Nothing) [] (i + 1) xs p q)
    where
      due : (b : Bool) → eqb x lf ≡ b → (ys : List ℕ)
          → from j s f i (x ∷ ys) ≡ cond b (from 0 (Outside Nothing) [] (i + 1) ys) (WalkBroken i)
      due b q ys = due-is anything codes j s f i x (omega arith) ys ∙ rw q

      go : (b : Bool) → eqb x lf ≡ b
          → (from 0 (Outside Nothing) [] (i + 1) xs ≡ WalkBroken p → FaultIs 0 (Outside Nothing) [] (i + 1) xs p)
          → FaultIs j s f i (x ∷ xs) p
      go true q ih = further j 0 s (Outside Nothing) f [] i x xs p (due true q) (ih (sym (due true q xs) ∙ e))
      go false q ih = stuck j s f i x xs p (closes 0 j h s f i) (due false q) e
  fault-is (suc left) j h s f i (x ∷ xs) p e =
      go (step_of (get_or codes j 0) (end_at codes j) s x) refl
      (λ t q. fault-is (suc left) j h t (f ++ (x ∷ [])) (i + 1) xs p q)
      (λ q. fault-is left (j + 1) (omega arith) (Outside Nothing) [] (i + 1) xs p q)
    where
      go : (t : Step) → step_of (get_or codes j 0) (end_at codes j) s x ≡ t
          → ((u : Stage) → from j u (f ++ (x ∷ [])) (i + 1) xs ≡ WalkBroken p
          → FaultIs j u (f ++ (x ∷ [])) (i + 1) xs p)
          → (from (j + 1) (Outside Nothing) [] (i + 1) xs ≡ WalkBroken p
          → FaultIs (j + 1) (Outside Nothing) [] (i + 1) xs p)
          → FaultIs j s f i (x ∷ xs) p
      go (Goes u) q ih jh =
          let g = step_is anything codes j s f i x (Goes u) (omega arith) q in
          further j j s u f (f ++ (x ∷ [])) i x xs p g (ih u (sym (g xs) ∙ e))
      go Ends q ih jh =
          let g = step_is anything codes j s f i x Ends (omega arith) q in
          further j (j + 1) s (Outside Nothing) f [] i x xs p g (jh (sym (g xs) ∙ e))
      go Broken q ih jh =
          stuck j s f i x xs p (closes (suc left) j h s f i) (step_is anything codes j s f i x Broken (omega arith) q) e

-- of a whole text: the least place at which it can't be the beginning of a sheet's lines, or its end
pub record PlaceIs (codes xs : List ℕ) (p : ℕ) : Type 0 where
  pub within : p ≤ length xs
  pub tail : List ℕ
  pub viable : scan_in anything codes (take p xs ++ tail) ≡ WalkEnds (p + length tail)
  pub dead : p < length xs → (more : List ℕ) → scan_in anything codes (take (suc p) xs ++ more) ≡ WalkBroken p

pub place_is : (codes xs : List ℕ) (p : ℕ) → scan_in anything codes xs ≡ WalkBroken p → PlaceIs codes xs p
place_is codes xs p e =
    let r = fault-is codes (length codes) 0 (zero-add (length codes)) (Outside Nothing) [] 0 xs p e in
    let z : r.before ≡ p = sym (r.place ∙ zero-add r.before) in
    record {
      within = rw z at r.within;
      tail = r.tail;
      viable = rw (zero-add p) at (rw z at r.viable);
      dead = rw z at r.dead;
    }
