-- A field that is scanned to its end was spelt in a permitted way. Assumes nothing.
use Rattle.std.specs.Prelude.{ℕ, ◌+◌, Bool, cond, length}
use native.Mathlib.Omega.{arith}
use Rattle.std.proofs.Math.Path.{◌≡◌, refl, sym, ap}
use Rattle.std.proofs.Common.{◌∙◌, length-append, eqb-true}
use Rattle.std.proofs.Math.Bool.{true, false}
use mathlib.Core.List.{List, [], ◌∷◌, ◌++◌}
use Rattle.std.proofs.Math.Dec.{eqb}
use Rattle.std.proofs.Math.Seq.{append_snoc}
use Rattle.std.proofs.lemmas.Bool.{eqb-false}
use Rattle.answers.specs.Walk.{Walk}
use Rattle.answers.specs.Walk.{Ends as WalkEnds}
use Rattle.answers.specs.Walk.{no_end}
use Rattle.entry.specs.Record.{unlike}
use Rattle.sheet.specs.Field.{quote, numbers, truths, is_mark, marked, doubled, quoted}
use Rattle.sheet.specs.Marks.{doubled-quote, doubled-other}
use Rattle.sheet.specs.Back.{Spells, plainly, in_quotes}
use Rattle.sheet.specs.Values.{is_string}
use Rattle.scanning.specs.declared.Fill.{Fill}
use Rattle.scanning.specs.declared.Fill.TheVariants.{Nothing, More, All}
use Rattle.scanning.specs.declared.Stage.{Stage}
use Rattle.scanning.specs.declared.Stage.TheVariants.{Outside, Inside, Behind}
use Rattle.scanning.specs.declared.Step.TheVariants.{Goes, Ends, Broken}
use Rattle.scanning.specs.Steps.{is_nothing, is_all, filled, takes, holds, step_of, moved, field_from}
use Rattle.scanning.specs.Steps.{string-takes, string-filled}

module _ (code e : ℕ) where
  -- ---- what a step says

  module _ {X : Type 0} (fill : Fill) (x i : ℕ) (f : Stage → Walk) (v : ℕ) where
    outside-step : moved (step_of code e (Outside fill) x) i f (WalkEnds i) ≡ WalkEnds v → (x ≡ e → i ≡ v → X)
        → (x ≡ quote → is_nothing fill ≡ true → f (Inside Nothing) ≡ WalkEnds v → X)
        → (is_mark x ≡ false → takes code fill x ≡ true → f (Outside (filled code fill x)) ≡ WalkEnds v → X) → X
    unfolding step_of
    outside-step q ends opens goes =
        go (eqb x e) refl (eqb x quote) refl (is_nothing fill) refl (is_mark x) refl (takes code fill x) refl q
      where
        go : (a : Bool) → eqb x e ≡ a → (b : Bool) → eqb x quote ≡ b → (c : Bool) → is_nothing fill ≡ c → (d : Bool)
            → is_mark x ≡ d → (g : Bool) → takes code fill x ≡ g
            → moved
            (cond a Ends
            (cond b (cond c (Goes (Inside Nothing)) Broken)
            (cond d Broken (cond g (Goes (Outside (filled code fill x))) Broken)))) i f (WalkEnds i)
            ≡ WalkEnds v → X
        go true p b r c s d t g u q = ends (eqb-true x e p) (let z : i ≡ v = cc in z)
        go false p true r true s d t g u q = opens (eqb-true x quote r) s q
        go false p true r false s d t g u q = no_end q
        go false p false r c s true t g u q = no_end q
        go false p false r c s false t true u q = goes t u q
        go false p false r c s false t false u q = no_end q

    inside-step : moved (step_of code e (Inside fill) x) i f (WalkEnds i) ≡ WalkEnds v
        → (x ≡ quote → f Behind ≡ WalkEnds v → X)
        → ((x ≡ quote → ⊥) → takes code fill x ≡ true → f (Inside (filled code fill x)) ≡ WalkEnds v → X) → X
    unfolding step_of
    inside-step q closes goes = go (eqb x quote) refl (takes code fill x) refl q
      where
        go : (a : Bool) → eqb x quote ≡ a → (b : Bool) → takes code fill x ≡ b
            → moved (cond a (Goes Behind) (cond b (Goes (Inside (filled code fill x))) Broken)) i f (WalkEnds i)
            ≡ WalkEnds v → X
        go true p b r q = closes (eqb-true x quote p) q
        go false p true r q = goes (eqb-false x quote p) r q
        go false p false r q = no_end q

    behind-step : moved (step_of code e Behind x) i f (WalkEnds i) ≡ WalkEnds v → (x ≡ e → i ≡ v → X)
        → (x ≡ quote → is_string code ≡ true → f (Inside More) ≡ WalkEnds v → X) → X
    unfolding step_of
    behind-step q ends goes = go (eqb x e) refl (eqb x quote) refl (is_string code) refl q
      where
        go : (a : Bool) → eqb x e ≡ a → (b : Bool) → eqb x quote ≡ b → (c : Bool) → is_string code ≡ c
            → moved (cond a Ends (cond b (cond c (Goes (Inside More)) Broken) Broken)) i f (WalkEnds i) ≡ WalkEnds v → X
        go true p b r c s q = ends (eqb-true x e p) (let z : i ≡ v = cc in z)
        go false p true r true s q = goes (eqb-true x quote r) s q
        go false p true r false s q = no_end q
        go false p false r c s q = no_end q

  -- ---- inside quotes

  record InQuotes (fill : Fill) (i : ℕ) (xs : List ℕ) (v : ℕ) : Type 0 where
    content : List ℕ
    held : holds code fill content ≡ true
    rest : List ℕ
    reads : xs ≡ doubled content ++ (quote ∷ e ∷ rest)
    ends : v ≡ i + length (doubled content) + 1

  closed : (fill : Fill) (i : ℕ) (rest : List ℕ) (v : ℕ) → i + 1 ≡ v → InQuotes fill i (quote ∷ e ∷ rest) v
  unfolding holds doubled
  closed fill i rest v q = record { content = []; held = refl; rest = rest; reads = refl; ends = omega arith }

  twice-more : (fill : Fill) (i : ℕ) (xs : List ℕ) (v : ℕ) → is_string code ≡ true → is_all fill ≡ false
      → InQuotes More (i + 1 + 1) xs v → InQuotes fill i (quote ∷ quote ∷ xs) v
  unfolding holds
  twice-more fill i xs v h n r =
      let d = doubled-quote quote r.content refl in
      record {
        content = quote ∷ r.content;
        held = rw (string-takes code fill quote h n (λ z. omega arith), string-filled code fill quote h) r.held;
        rest = r.rest;
        reads =
            ap (λ (l : List ℕ). quote ∷ quote ∷ l) r.reads ∙ ap (λ (l : List ℕ). l ++ (quote ∷ e ∷ r.rest)) (sym d);
        ends = r.ends ∙ rw d (omega arith);
      }

  one_more_lem : (fill : Fill) (i x : ℕ) (xs : List ℕ) (v : ℕ) → (x ≡ quote → ⊥) → takes code fill x ≡ true
      → InQuotes (filled code fill x) (i + 1) xs v → InQuotes fill i (x ∷ xs) v
  unfolding holds
  one_more_lem fill i x xs v n t r =
      let d = doubled-other x r.content n in
      record {
        content = x ∷ r.content;
        held = rw t r.held;
        rest = r.rest;
        reads = ap (λ (l : List ℕ). x ∷ l) r.reads ∙ ap (λ (l : List ℕ). l ++ (quote ∷ e ∷ r.rest)) (sym d);
        ends = r.ends ∙ rw d (omega arith);
      }

  inside-sound : (xs : List ℕ) (fill : Fill) (i v : ℕ) → (is_string code ≡ true → is_all fill ≡ false)
      → field_from code e (Inside fill) i xs ≡ WalkEnds v → InQuotes fill i xs v
  unfolding field_from
  inside-sound [] fill i v n q = no_end q
  inside-sound (x ∷ []) fill i v n q = inside-step fill x i _ v q (λ a b. no_end b) (λ a b c. no_end c)
  inside-sound (x ∷ y ∷ ys) fill i v n q =
      inside-step fill x i _ v q
      (λ a b. behind-step fill y (i + 1) _ v b
      (λ c d. rw (a, c) (closed fill i ys v d))
      (λ c d g. rw (a, c) (twice-more fill i ys v d (n d) (inside-sound ys More (i + 1 + 1) v (λ s. refl) g))))
      (λ a b c. one_more_lem fill i x (y ∷ ys) v a b
      (inside-sound (y ∷ ys) (filled code fill x) (i + 1) v
      (λ s. ap is_all (string-filled code fill x s)) c))

  -- ---- outside

  record Plain (fill : Fill) (i : ℕ) (xs : List ℕ) (v : ℕ) : Type 0 where
    content : List ℕ
    held : holds code fill content ≡ true
    plain : marked content ≡ false
    rest : List ℕ
    reads : xs ≡ content ++ (e ∷ rest)
    ends : v ≡ i + length content

  plain-none : (fill : Fill) (i : ℕ) (rest : List ℕ) (v : ℕ) → i ≡ v → Plain fill i (e ∷ rest) v
  unfolding holds marked
  plain-none fill i rest v q = record {
    content = [];
    held = refl;
    plain = refl;
    rest = rest;
    reads = refl;
    ends = omega arith;
  }

  plain_more : (fill : Fill) (i x : ℕ) (xs : List ℕ) (v : ℕ) → is_mark x ≡ false → takes code fill x ≡ true
      → Plain (filled code fill x) (i + 1) xs v → Plain fill i (x ∷ xs) v
  unfolding holds marked
  plain_more fill i x xs v m t r =
      record {
        content = x ∷ r.content;
        held = rw t r.held;
        plain = rw m r.plain;
        rest = r.rest;
        reads = ap (λ (l : List ℕ). x ∷ l) r.reads;
        ends = r.ends ∙ omega arith;
      }

  filled-some : (fill : Fill) (x : ℕ) → is_nothing (filled code fill x) ≡ false
  unfolding filled
  filled-some fill x = go (eqb code numbers) (eqb code truths) (is_nothing fill) (eqb x 48)
    where
      go : (a b c d : Bool) → is_nothing (cond a (cond c (cond d All More) More) (cond b All More)) ≡ false
      go true b true true = refl
      go true b true false = refl
      go true b false d = refl
      go false true c d = refl
      go false false c d = refl

  -- once something has been read
  plain-sound : (xs : List ℕ) (fill : Fill) (i v : ℕ) → is_nothing fill ≡ false
      → field_from code e (Outside fill) i xs ≡ WalkEnds v → Plain fill i xs v
  unfolding field_from
  plain-sound [] fill i v n q = no_end q
  plain-sound (x ∷ xs) fill i v n q =
      outside-step fill x i _ v q
      (λ a b. rw a (plain-none fill i xs v b))
      (λ a b c. unlike (sym n ∙ b))
      (λ a b c. plain_more fill i x xs v a b (plain-sound xs (filled code fill x) (i + 1) v (filled-some fill x) c))

  -- ---- a field

  pub record FieldIs (i : ℕ) (xs : List ℕ) (v : ℕ) : Type 0 where
    pub content : List ℕ
    pub field : List ℕ
    pub spelt : Spells content field
    pub held : holds code Nothing content ≡ true
    pub rest : List ℕ
    pub reads : xs ≡ field ++ (e ∷ rest)
    pub ends : v ≡ i + length field

  is_plain : (i : ℕ) (xs : List ℕ) (v : ℕ) → Plain Nothing i xs v → FieldIs i xs v
  is_plain i xs v r = record {
    content = r.content;
    field = r.content;
    spelt = plainly refl r.plain;
    held = r.held;
    rest = r.rest;
    reads = r.reads;
    ends = r.ends;
  }

  quoted-reads : (t xs rest : List ℕ) → xs ≡ doubled t ++ (quote ∷ e ∷ rest) → quote ∷ xs ≡ quoted t ++ (e ∷ rest)
  unfolding quoted
  quoted-reads t xs rest q = ap (λ (l : List ℕ). quote ∷ l) (q ∙ sym (append_snoc (doubled t) quote (e ∷ rest)))

  quoted-ends : (i : ℕ) (t : List ℕ) → i + 1 + length (doubled t) + 1 ≡ i + length (quoted t)
  unfolding quoted
  quoted-ends i t = rw (length-append (doubled t) (quote ∷ [])) (omega arith)

  is-quoted : (i : ℕ) (xs : List ℕ) (v : ℕ) → InQuotes Nothing (i + 1) xs v → FieldIs i (quote ∷ xs) v
  is-quoted i xs v r =
      record {
        content = r.content;
        field = quoted r.content;
        spelt = in_quotes refl;
        held = r.held;
        rest = r.rest;
        reads = quoted-reads r.content xs r.rest r.reads;
        ends = r.ends ∙ quoted-ends i r.content;
      }

  pub field-sound : (xs : List ℕ) (i v : ℕ) → field_from code e (Outside Nothing) i xs ≡ WalkEnds v → FieldIs i xs v
  unfolding field_from
  field-sound [] i v q = no_end q
  field-sound (x ∷ xs) i v q =
      outside-step Nothing x i _ v q
      (λ a b. is_plain i (x ∷ xs) v (rw a (plain-none Nothing i xs v b)))
      (λ a b c. rw a (is-quoted i xs v (inside-sound xs Nothing (i + 1) v (λ s. refl) c)))
      (λ a b c. is_plain i (x ∷ xs) v
      (plain_more Nothing i x xs v a b (plain-sound xs (filled code Nothing x) (i + 1) v (filled-some Nothing x) c)))
