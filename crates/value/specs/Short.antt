-- Values of one octet, known at a look: they are most of a record's values that aren't strings, and need no walk.
use Rattle.std.specs.Prelude.{ℕ, ◌≡◌, List, Bool, true, false, cond, eqb, ltb, length}
use Rattle.std.proofs.Common.{arith, ap, eqb-true}
use Rattle.octets.specs.Cases.{taken}
use Rattle.octets.specs.Octets.{octet_at}
use Rattle.answers.specs.Walk.{Ends}
use Rattle.whole.specs.Number.{number_of}
use Rattle.value.specs.Types.{number, truth, kind_number, form_at}
use Rattle.value.specs.Value.{numeric_of, truth_of, element_of, value_of}

unfoldable pub short_of : ℕ → List ℕ → Bool
short_of form xs =
    cond (ltb (length xs) 1) false
    (cond (eqb form (kind_number truth)) (ltb (octet_at xs 0) 2)
    (cond (eqb form (kind_number number)) (ltb (octet_at xs 0) 128)
    false))

none-such : {X : Type 0} → false ≡ true → X
none-such e =
    let z : ◌≡◌ {A = ℕ} 0 1 = ap (λ (b : Bool). cond b 1 0) e in
    absurd (omega arith)

pub short-is : (form : ℕ) (xs : List ℕ) → short_of form xs ≡ true → value_of (form_at form) xs ≡ Ends 1
unfolding short_of form_at value_of element_of truth_of numeric_of number_of
short-is form xs e =
    taken (ltb (length xs) 1) _ _ _ e (λ t q. none-such q)
    (λ t q. taken (eqb form (kind_number truth)) _ _ _ q
    (λ u r. rw (eqb-true form (kind_number truth) u, t, r))
    (λ u r. taken (eqb form (kind_number number)) _ _ _ r
    (λ v s. rw (eqb-true form (kind_number number) v, t, s))
    (λ v s. none-such s)))
