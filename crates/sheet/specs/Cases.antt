-- The ways of the code that tells marks and types, on plain values.
use Rattle.std.specs.Prelude.{ℕ, ◌+◌, ◌≤◌, ◌<◌, ◌%◌, ◌≡◌, refl, Bool, true, false, not, cond, List, [], ◌∷◌, eqb, length, drop, get_or}
use Rattle.std.specs.List.{list_all}
use Rattle.std.proofs.Common.{sym, ap, ◌∙◌, ◌&&◌, drop_of_length-le}
use borrow.Author.Tests.{ne_eqb, not-true, not-false}
use Rattle.octets.specs.Octets.{drop-next}
use Rattle.sheet.specs.Field.{is_mark, is_exported, all_exported}
use Rattle.sheet.specs.Marks.{last-test, far-plain}

pub is-past : (x : ℕ) → 44 < x → false ≡ is_mark x
is-past x h = sym (far-plain x h)

pub is-comma : (x : ℕ) → x ≡ 44 → true ≡ is_mark x
unfolding is_mark
is-comma x e = rw e

pub is-quote : (x : ℕ) → x ≡ 34 → true ≡ is_mark x
unfolding is_mark
is-quote x e = rw e

pub is-cr : (x : ℕ) → x ≡ 13 → true ≡ is_mark x
unfolding is_mark
is-cr x e = rw e

pub is-lf : (x : ℕ) → (x ≡ 44 → ⊥) → (x ≡ 34 → ⊥) → (x ≡ 13 → ⊥) → eqb x 10 ≡ is_mark x
unfolding is_mark
is-lf x a b c = rw (ne_eqb x 44 a, ne_eqb x 34 b, ne_eqb x 13 c) (last-test (eqb x 10))

pub ruleset mark_cases = (is-past, is-comma, is-quote, is-cr, is-lf)

pub exported-number : (x : ℕ) → x ≡ 3 → true ≡ is_exported x
unfolding is_exported
exported-number x e = rw e

pub exported-truth : (x : ℕ) → x ≡ 11 → true ≡ is_exported x
unfolding is_exported
exported-truth x e = rw e

pub exported-narrow : (x : ℕ) → x ≡ 30 → true ≡ is_exported x
unfolding is_exported
exported-narrow x e = rw e

pub exported-text : (x : ℕ) → (x ≡ 3 → ⊥) → (x ≡ 11 → ⊥) → (x ≡ 30 → ⊥) → eqb x 31 ≡ is_exported x
unfolding is_exported
exported-text x a b c = rw (ne_eqb x 3 a, ne_eqb x 11 b, ne_eqb x 30 c) (last-test (eqb x 31))

pub ruleset exported_cases = (exported-number, exported-truth, exported-narrow, exported-text)

module _ (tags : List ℕ) (i : ℕ) (inv : all_exported (drop i tags) ≡ all_exported tags) where
  module _ (h : i < length tags) (r : Bool) (e : r ≡ is_exported (get_or tags i 0 % 65536)) where
    pub types-next : not r ≡ false → all_exported (drop (i + 1) tags) ≡ all_exported tags
    unfolding all_exported
    types-next z = rw (drop-next tags i h, ← e, not-false r z) at inv

    pub types-not : not r ≡ true → false ≡ all_exported tags
    unfolding all_exported
    types-not z = rw (drop-next tags i h, ← e, not-true r z) at inv

  pub types-all : length tags ≤ i → true ≡ all_exported tags
  unfolding all_exported
  types-all h = rw (drop_of_length-le tags {i = i} h) at inv

pub ruleset types_cases = (types-next, types-not, types-all)

-- each tag by the same test
pub types_each : (tags : List ℕ) → all_exported tags ≡ list_all (λ t. is_exported (t % 65536)) tags
unfolding all_exported
types_each [] = refl
types_each (t ∷ tags) = go (is_exported (t % 65536)) ∙ ap (λ b. is_exported (t % 65536) && b) (types_each tags)
  where
    go : (b : Bool) → cond b (all_exported tags) false ≡ (b && all_exported tags)
    go true = refl
    go false = refl
