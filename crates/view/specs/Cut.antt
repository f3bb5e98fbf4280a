-- The stretch that a lookup found, taken out of any octets, on plain values: whatever start and end are, it is those
-- octets that there are.
use Rattle.std.specs.Prelude.{Ok, Some, None, ℕ, ◌-◌, ◌≤◌, ◌≡◌, List, [], length, take, drop}
use Rattle.std.proofs.Common.{arith, sym, ◌∙◌, length-drop, drop_of_length-le, take_all}
use Rattle.std.proofs.Math.Seq.{take-nil}
use Rattle.lookup.specs.Look.{stretch_by}
use Rattle.lookup.specs.Placed.{lookup_at, stretch_at}
use Rattle.lookup.specs.Looked.{Span, Looked}

module _ (xs : List ℕ) (s e : ℕ) where
  pub none_between : e ≤ s → [] ≡ take (e - s) (drop s xs)
  none_between h = let z : e - s ≡ 0 = omega arith in rw z

  pub none-behind : length xs ≤ s → [] ≡ take (e - s) (drop s xs)
  none-behind h = rw (drop_of_length-le xs h) (sym (take-nil (e - s)))

  pub rest-between : length xs ≤ e → take (length xs - s) (drop s xs) ≡ take (e - s) (drop s xs)
  rest-between h =
      take_all (length xs - s) (drop s xs) (simp length-drop (omega arith))
      ∙ sym (take_all (e - s) (drop s xs) (simp length-drop (omega arith)))

pub cut_at : (xs ys : List ℕ) (l : Looked) (v : Span) → l ≡ Ok v → (s e : ℕ) → v ≡ Some (s, e)
    → ys ≡ take (e - s) (drop s xs) → ys ≡ stretch_by xs l
cut_at xs ys l v p s e q h = rw (p, q) h

pub cut-none : (xs : List ℕ) (l : Looked) (v : Span) → l ≡ Ok v → v ≡ None → [] ≡ stretch_by xs l
cut-none xs l v p q = rw (p, q)

-- the stretch of what a lookup answered is the stretch of the lookup
pub found-stretch : (xs ys : List ℕ) (at t : ℕ) (l : Looked) → l ≡ lookup_at xs at t → ys ≡ stretch_by xs l
    → ys ≡ stretch_at xs at t
unfolding stretch_at
found-stretch xs ys at t l q h = rw (← q) h
