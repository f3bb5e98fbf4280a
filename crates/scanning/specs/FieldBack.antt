-- A field that was written in a permitted spelling is scanned to its end. Assumes nothing.
use Rattle.std.specs.Prelude.{ℕ, ◌+◌, ◌≡◌, Bool, false, cond, eqb}
use Rattle.std.proofs.Common.{add-zero, arith, sym, ◌∙◌, length-append, eq-eqb, ne_eqb}
use Rattle.std.proofs.Math.Decide.{ℕ_discrete}
use Rattle.std.proofs.Math.Path.{refl, ap}
use Rattle.std.proofs.Math.Bool.{true}
use mathlib.Core.List.{List, [], ◌∷◌, ◌++◌}
use Rattle.std.proofs.Math.ListN.{length}
use Rattle.std.proofs.Math.Seq.{append_snoc}
use Rattle.octets.specs.Cases.{taken}
use Rattle.answers.specs.Walk.{Ends as WalkEnds}
use Rattle.entry.specs.Record.{unlike}
use Rattle.sheet.specs.Field.{quote, numbers, truths, is_mark, marked, doubled, quoted, end_of}
use Rattle.sheet.specs.Marks.{mark-quote, no-mark, doubled-quote, doubled-other}
use Rattle.sheet.specs.Back.{Spells, plainly, in_quotes}
use Rattle.sheet.specs.Values.{is_string}
use Rattle.scanning.specs.declared.Fill.{Fill}
use Rattle.scanning.specs.declared.Fill.TheVariants.{Nothing, More, All}
use Rattle.scanning.specs.declared.Stage.TheVariants.{Outside, Inside, Behind}
use Rattle.scanning.specs.declared.Step.TheVariants.{Goes, Ends}
use Rattle.scanning.specs.Steps.{spells, is_nothing, is_all, filled, takes, holds, step_of, field_from}

-- a quote is spelt in strings only, and more may follow it
string-of : (code : ℕ) (fill : Fill) → spells code quote ≡ true
    → (is_string code ≡ true) × (filled code fill quote ≡ More)
unfolding spells is_string filled
string-of code fill h = go (eqb code numbers) (eqb code truths) h
  where
    go : (a b : Bool) → cond a false (cond b false true) ≡ true
        → (cond a false (cond b false true) ≡ true)
        × (cond a (cond (is_nothing fill) More More) (cond b All More) ≡ More)
    go true b e = unlike e
    go false true e = unlike e
    go false false e = (refl, refl)

takes-spells : (code : ℕ) (fill : Fill) (x : ℕ) → takes code fill x ≡ true → spells code x ≡ true
unfolding takes
takes-spells code fill x h = taken (is_all fill) _ _ _ h (λ a b. unlike b) (λ a b. b)

-- the end of a field is a comma or a CR: a mark and no quote
pub record AnEnd (e : ℕ) : Type 0 where
  pub mark : is_mark e ≡ true
  pub other : quote ≡ e → ⊥

pub end_is : {A : Type 0} (gs : List A) → AnEnd (end_of gs)
unfolding is_mark
end_is [] = record { mark = refl; other = λ z. omega arith }
end_is (g ∷ gs) = record { mark = refl; other = λ z. omega arith }

module _ (code e : ℕ) (a : AnEnd e) where
  step-plain : (fill : Fill) (x : ℕ) → is_mark x ≡ false → takes code fill x ≡ true
      → step_of code e (Outside fill) x ≡ Goes (Outside (filled code fill x))
  unfolding step_of
  step-plain fill x m h = rw (no-mark x e m a.mark, no-mark x quote m mark-quote, m, h)

  step-inside : (fill : Fill) (x : ℕ) → (x ≡ quote → ⊥) → takes code fill x ≡ true
      → step_of code e (Inside fill) x ≡ Goes (Inside (filled code fill x))
  unfolding step_of
  step-inside fill x m h = rw (ne_eqb x quote m, h)

  step-two : is_string code ≡ true → step_of code e Behind quote ≡ Goes (Inside More)
  unfolding step_of
  step-two h = rw (ne_eqb quote e a.other, h)

  pub step_end : (fill : Fill) → step_of code e (Outside fill) e ≡ Ends
  unfolding step_of
  step_end fill = rw (eq-eqb e e refl)

  pub step-close : (fill : Fill) → step_of code e (Inside fill) quote ≡ Goes Behind
  unfolding step_of
  step-close fill = refl

  pub step-last : step_of code e Behind e ≡ Ends
  unfolding step_of
  step-last = rw (eq-eqb e e refl)

  step-open : step_of code e (Outside Nothing) quote ≡ Goes (Inside Nothing)
  unfolding step_of
  step-open = rw (ne_eqb quote e a.other)

  plain_back : (fill : Fill) (i : ℕ) (t rest : List ℕ) → marked t ≡ false → holds code fill t ≡ true
      → field_from code e (Outside fill) i (t ++ (e ∷ rest)) ≡ WalkEnds (i + length t)
  unfolding field_from marked holds
  plain_back fill i [] rest m h = rw (step_end fill) (ap WalkEnds (sym (add-zero i)))
  plain_back fill i (x ∷ t) rest m h =
      taken (is_mark x) _ _ _ m (λ p q. unlike (sym q))
      (λ p q. taken (takes code fill x) _ _ _ h
      (λ r s. rw (step-plain fill x p r)
      (plain_back (filled code fill x) (i + 1) t rest q s ∙ ap WalkEnds (omega arith)))
      (λ r s. unlike s))

  module _ (x : ℕ) (fill : Fill) (i : ℕ) (t rest : List ℕ) (p : takes code fill x ≡ true)
      (q : holds code (filled code fill x) t ≡ true)
      (ih : (f : Fill) (j : ℕ) → holds code f t ≡ true
      → field_from code e (Inside f) j (doubled t ++ (quote ∷ e ∷ rest)) ≡ WalkEnds (j + length (doubled t) + 1)) where
    inside-quote : x ≡ quote
        → field_from code e (Inside fill) i (doubled (x ∷ t) ++ (quote ∷ e ∷ rest))
        ≡ WalkEnds (i + length (doubled (x ∷ t)) + 1)
    unfolding field_from
    inside-quote y =
        let s = string-of code fill (rw y at (takes-spells code fill x p)) in
        let q₁ : holds code More t ≡ true = rw (y, s.1) at q in
        rw (doubled-quote x t y, step-close fill, step-two s.0) (ih More (i + 1 + 1) q₁ ∙ ap WalkEnds (omega arith))

    inside-other : (x ≡ quote → ⊥)
        → field_from code e (Inside fill) i (doubled (x ∷ t) ++ (quote ∷ e ∷ rest))
        ≡ WalkEnds (i + length (doubled (x ∷ t)) + 1)
    unfolding field_from
    inside-other y =
        rw (doubled-other x t y, step-inside fill x y p)
        (ih (filled code fill x) (i + 1) q ∙ ap WalkEnds (omega arith))

  inside-none : (fill : Fill) (i : ℕ) (rest : List ℕ)
      → field_from code e (Inside fill) i (doubled [] ++ (quote ∷ e ∷ rest)) ≡ WalkEnds (i + length (doubled []) + 1)
  unfolding field_from doubled
  inside-none fill i rest = rw (step-close fill, step-last) (ap WalkEnds (omega arith))

  inside_back : (fill : Fill) (i : ℕ) (t rest : List ℕ) → holds code fill t ≡ true
      → field_from code e (Inside fill) i (doubled t ++ (quote ∷ e ∷ rest)) ≡ WalkEnds (i + length (doubled t) + 1)
  unfolding holds
  inside_back fill i [] rest h = inside-none fill i rest
  inside_back fill i (x ∷ t) rest h =
      taken (takes code fill x) _ _ _ h
      (λ p q. elim (ℕ_discrete x quote) [
        | yes y ↦ inside-quote x fill i t rest p q (λ f j r. inside_back f j t rest r) y
        | no y ↦ inside-other x fill i t rest p q (λ f j r. inside_back f j t rest r) y
      ])
      (λ p q. unlike q)

  quoted-back : (i : ℕ) (t rest : List ℕ) → holds code Nothing t ≡ true
      → field_from code e (Outside Nothing) i (quoted t ++ (e ∷ rest)) ≡ WalkEnds (i + length (quoted t))
  unfolding quoted field_from
  quoted-back i t rest h =
      let l : i + 1 + length (doubled t) + 1 ≡ i + length (quote ∷ (doubled t ++ (quote ∷ []))) =
      rw (length-append (doubled t) (quote ∷ [])) (omega arith) in
      rw (step-open, append_snoc (doubled t) quote (e ∷ rest)) (inside_back Nothing (i + 1) t rest h ∙ ap WalkEnds l)

  pub field_back : (i : ℕ) (t f rest : List ℕ) → Spells t f → holds code Nothing t ≡ true
      → field_from code e (Outside Nothing) i (f ++ (e ∷ rest)) ≡ WalkEnds (i + length f)
  field_back i t f rest (plainly q m) h = rw q (plain_back Nothing i t rest m h)
  field_back i t f rest (in_quotes q) h = rw q (quoted-back i t rest h)
