-- The ways of the code that scans numbers and truths, on plain values. Digits are no marks.
use Rattle.std.specs.Prelude.{ℕ, ◌+◌, ◌≤◌, ◌<◌, ◌≡◌, refl, Bool, true, false, cond, eqb, leb}
use Rattle.std.specs.Prelude.{List, length, drop, get_or}
use Rattle.std.proofs.Common.{arith, sym, ap, ◌∙◌, drop_of_length-le}
use borrow.Author.Tests.{le-leb, lt-leb, eq-eqb, ne_eqb, leb-true}
use Rattle.octets.specs.Cases.{split, taken, same-either}
use Rattle.octets.specs.Octets.{octet_at, drop-next}
use Rattle.answers.specs.Walk.{Walk}
use Rattle.answers.specs.Walk.{Ends as WalkEnds, Broken as WalkBroken}
use Rattle.entry.specs.Record.{unlike}
use Rattle.sheet.specs.Field.{numbers, is_mark}
use Rattle.sheet.specs.Values.{is_string}
use Rattle.scanning.specs.declared.Fill.{Fill}
use Rattle.scanning.specs.declared.Fill.TheVariants.{Nothing, More, All}
use Rattle.scanning.specs.declared.Stage.{Stage}
use Rattle.scanning.specs.declared.Stage.TheVariants.{Outside, Inside, Behind}
use Rattle.scanning.specs.declared.Step.{Step}
use Rattle.scanning.specs.declared.Step.TheVariants.{Goes, Ends, Broken}
use Rattle.scanning.specs.Steps.{spells, is_nothing, is_all, filled, takes, step_of, moved, field_from}
use Rattle.scanning.specs.Steps.{two-types, digit-plain}
use Rattle.scanning.specs.FieldBack.{AnEnd}
use Rattle.scanning.specs.Runs.{field-none, field_step}
use Rattle.scanning.specs.Passing.{pass_from, number-kind, number_is}

not_all : (f : Fill) → (f ≡ All → ⊥) → is_all f ≡ false
not_all Nothing n = refl
not_all More n = refl
not_all All n = absurd (n refl)

some-read : (f : Fill) → (f ≡ Nothing → ⊥) → is_nothing f ≡ false
some-read Nothing n = absurd (n refl)
some-read More n = refl
some-read All n = refl

module _ (c : ℕ) (s : is_string c ≡ false) where
  not-number : (c ≡ 3 → ⊥) → c ≡ 11
  not-number n = two-types c s (λ p. absurd (n p)) (λ p. p)

  module _ (x : ℕ) where
    pub spelt-number : (r : Bool) → c ≡ 3 → r ≡ spells numbers x → r ≡ spells c x
    spelt-number r e q = rw e q

    pub spelt-zero : (c ≡ 3 → ⊥) → x ≡ 48 → true ≡ spells c x
    unfolding spells
    spelt-zero n e = rw (not-number n, e)

    pub spelt-one : (c ≡ 3 → ⊥) → (x ≡ 48 → ⊥) → eqb x 49 ≡ spells c x
    unfolding spells
    spelt-one n m =
        rw (not-number n)
        (split x 48 (λ h. rw (lt-leb 48 x h, ne_eqb x 49 (omega arith)))
        (λ h. rw (le-leb 48 x h)
        (split 49 x (λ l. rw (lt-leb x 49 l, ne_eqb x 49 (omega arith)))
        (λ l. rw (le-leb x 49 l, eq-eqb x 49 (omega arith))))))

    module _ (f : Fill) where
      pub takes-full : f ≡ All → false ≡ takes c f x
      unfolding takes
      takes-full a = rw a

      pub takes-is : (r : Bool) → (f ≡ All → ⊥) → r ≡ spells c x → r ≡ takes c f x
      unfolding takes
      takes-is r a q = rw (not_all f a) q

      pub fill-zero : c ≡ 3 → f ≡ Nothing → x ≡ 48 → All ≡ filled c f x
      unfolding filled
      fill-zero a b d = rw (a, b, d)

      pub fill-first : c ≡ 3 → f ≡ Nothing → (x ≡ 48 → ⊥) → More ≡ filled c f x
      unfolding filled
      fill-first a b d = rw (a, b, ne_eqb x 48 d)

      pub fill_more : c ≡ 3 → (f ≡ Nothing → ⊥) → More ≡ filled c f x
      unfolding filled
      fill_more a b = rw (a, some-read f b)

      pub fill-truth : (c ≡ 3 → ⊥) → All ≡ filled c f x
      unfolding filled
      fill-truth n = rw (not-number n)

      taken-plain : takes c f x ≡ true → is_mark x ≡ false
      unfolding takes
      taken-plain h = taken (is_all f) _ _ _ h (λ p q. unlike q) (λ p q. digit-plain c x s q)

      module _ (e : ℕ) where
        pub out-ends : x ≡ e → Ends ≡ step_of c e (Outside f) x
        unfolding step_of
        out-ends a = rw (eq-eqb x e a)

        module _ (n : x ≡ e → ⊥) where
          pub out-opens : x ≡ 34 → f ≡ Nothing → Goes (Inside Nothing) ≡ step_of c e (Outside f) x
          unfolding step_of
          out-opens a b = rw (ne_eqb x e n, eq-eqb x 34 a, b)

          pub out-late : x ≡ 34 → (f ≡ Nothing → ⊥) → Broken ≡ step_of c e (Outside f) x
          unfolding step_of
          out-late a b = rw (ne_eqb x e n, eq-eqb x 34 a, some-read f b)

          module _ (o : x ≡ 34 → ⊥) (t : Bool) (te : t ≡ takes c f x) where
            pub out-goes : (g : Fill) → t ≡ true → g ≡ filled c f x → Goes (Outside g) ≡ step_of c e (Outside f) x
            unfolding step_of
            out-goes g a q = rw (ne_eqb x e n, ne_eqb x 34 o, taken-plain (sym te ∙ a), ← te, a, q)

            pub out-not : t ≡ false → Broken ≡ step_of c e (Outside f) x
            unfolding step_of
            out-not a = rw (ne_eqb x e n, ne_eqb x 34 o, ← te, a) (sym (same-either (is_mark x) Broken))

        pub in-closes : x ≡ 34 → Goes Behind ≡ step_of c e (Inside f) x
        unfolding step_of
        in-closes a = rw (eq-eqb x 34 a)

        module _ (o : x ≡ 34 → ⊥) (t : Bool) (te : t ≡ takes c f x) where
          pub in-goes : (g : Fill) → t ≡ true → g ≡ filled c f x → Goes (Inside g) ≡ step_of c e (Inside f) x
          unfolding step_of
          in-goes g a q = rw (ne_eqb x 34 o, ← te, a, q)

          pub in-not : t ≡ false → Broken ≡ step_of c e (Inside f) x
          unfolding step_of
          in-not a = rw (ne_eqb x 34 o, ← te, a)

    module _ (e : ℕ) where
      pub behind-ends : x ≡ e → Ends ≡ step_of c e Behind x
      unfolding step_of
      behind-ends a = rw (eq-eqb x e a)

      pub behind-not : (x ≡ e → ⊥) → Broken ≡ step_of c e Behind x
      unfolding step_of
      behind-not n = rw (ne_eqb x e n, s) (sym (same-either (eqb x 34) Broken))

      module _ (st : Stage) (r : Step) where
        pub on-outside : (f : Fill) → st ≡ Outside f → r ≡ step_of c e (Outside f) x → r ≡ step_of c e st x
        on-outside f z q = rw z q

        pub on-inside : (f : Fill) → st ≡ Inside f → r ≡ step_of c e (Inside f) x → r ≡ step_of c e st x
        on-inside f z q = rw z q

        pub on-behind : st ≡ Behind → r ≡ step_of c e Behind x → r ≡ step_of c e st x
        on-behind z q = rw z q

pub ruleset spelt_cases = (spelt-number, spelt-zero, spelt-one)

pub ruleset takes_cases = (takes-full, takes-is)

pub ruleset fill_cases = (fill-zero, fill-first, fill_more, fill-truth)

pub ruleset out_cases = (out-ends, out-opens, out-late, out-goes, out-not)

pub ruleset in_cases = (in-closes, in-goes, in-not)

pub ruleset behind_cases = (behind-ends, behind-not)

pub ruleset on_cases = (on-outside, on-inside, on-behind)

-- ---- a field, by what remains of it

module _ (c e : ℕ) (text : List ℕ) (at i : ℕ) (st : Stage)
    (inv : field_from c e st i (drop i text) ≡ field_from c e (Outside Nothing) at (drop at text)) where
  module _ (h : i < length text) (t : Step) (q : t ≡ step_of c e st (get_or text i 0)) where
    turn : moved t i (λ u. field_from c e u (i + 1) (drop (i + 1) text)) (WalkEnds i)
        ≡ field_from c e (Outside Nothing) at (drop at text)
    turn =
        sym (field_step c e st i (octet_at text i) (drop (i + 1) text) t (sym q))
        ∙ ap (field_from c e st i) (sym (drop-next text i h)) ∙ inv

    pub digits-end : t ≡ Ends → WalkEnds i ≡ field_from c e (Outside Nothing) at (drop at text)
    digits-end z = rw z at turn

    pub digits-broken : t ≡ Broken → WalkBroken i ≡ field_from c e (Outside Nothing) at (drop at text)
    digits-broken z = rw z at turn

    pub digits-on : (u : Stage) → t ≡ Goes u
        → field_from c e u (i + 1) (drop (i + 1) text) ≡ field_from c e (Outside Nothing) at (drop at text)
    digits-on u z = rw z at turn

  pub digits-over : length text ≤ i → WalkBroken i ≡ field_from c e (Outside Nothing) at (drop at text)
  digits-over h =
      sym (field-none c e st i) ∙ ap (field_from c e st i) (sym (drop_of_length-le text {i = i} h)) ∙ inv

pub ruleset digits_cases = (digits-end, digits-broken, digits-on, digits-over)

-- ---- a number

module _ (x : ℕ) where
  pub digit_low : x < 48 → false ≡ spells numbers x
  unfolding spells
  digit_low h = rw (lt-leb 48 x h)

  pub digit-high : 48 ≤ x → leb x 57 ≡ spells numbers x
  unfolding spells
  digit-high h = rw (le-leb 48 x h)

  pub first-low : x < 49 → false ≡ cond (leb 49 x) (leb x 57) false
  first-low h = rw (lt-leb 49 x h)

  pub first-high : 49 ≤ x → leb x 57 ≡ cond (leb 49 x) (leb x 57) false
  first-high h = rw (le-leb 49 x h)

pub ruleset digit_cases = (digit_low, digit-high, first-low, first-high)

module _ (e : ℕ) (text : List ℕ) (at : ℕ) where
  pub number-none : length text ≤ at → WalkBroken at ≡ field_from numbers e (Outside Nothing) at (drop at text)
  number-none h =
      sym (ap (field_from numbers e (Outside Nothing) at) (drop_of_length-le text {i = at} h)
      ∙ field-none numbers e (Outside Nothing) at)

  pub number_more : AnEnd e → at < length text → (b : Bool)
      → b ≡ cond (leb 49 (get_or text at 0)) (leb (get_or text at 0) 57) false
      → b ≡ true → (r : Walk) → r ≡ pass_from (spells numbers) e (at + 1) (drop (at + 1) text)
      → r ≡ field_from numbers e (Outside Nothing) at (drop at text)
  number_more a h b q z r p =
      taken (leb 49 (get_or text at 0)) _ _ _ (sym q ∙ z)
      (λ k l. let f = leb-true 49 (get_or text at 0) k in
      let t = leb-true (get_or text at 0) 57 l in
      p
      ∙ sym
      (ap (field_from numbers e (Outside Nothing) at) (drop-next text at h)
      ∙ number_is e a at (get_or text at 0) (drop (at + 1) text) f t))
      (λ k l. unlike l)

pub ruleset number_cases = (number-none, number_more, number-kind)
