-- A value that is read stands in the list.
use Rattle.std.specs.Prelude.{ℕ, zero, suc, ◌+◌, ◌-◌, ◌≤◌, ◌≡◌, refl, List, length, drop, ltb, leb}
use Rattle.std.proofs.Common.{arith, sym, ap, ◌∙◌, length-drop, leb-true, ltb-false}
use Rattle.octets.specs.Cases.{taken}
use Rattle.octets.specs.Octets.{octet_at}
use Rattle.answers.specs.Walk.{Walk}
use Rattle.answers.specs.Walk.{Ends, Broken}
use Rattle.answers.specs.Walk.{no_end, from-walk, from-break, break_of, break-either}
use Rattle.whole.specs.Number.{Number}
use Rattle.whole.specs.Number.{Some, Broken as NoNumber}
use Rattle.whole.specs.Number.{number_of}
use Rattle.whole.specs.Laws.{number-within}
use Rattle.text.specs.Narrow.{narrow_within, narrow-breaks}
use Rattle.text.specs.Text.{text-within, text-breaks}
use Rattle.value.specs.Types.{Kind, number, truth, narrow, text, binary, Form, one, many, unknown}
use Rattle.value.specs.Value.{counted, numeric_of, truth_of, binary_of, element_of, list_from, list_of, value_of}

-- the number that a walk went on from
pub from-number : {X : Type 0} (r : Number) (f : ℕ → ℕ → Walk) (w : ℕ) → counted r f ≡ Ends w
    → ((n k : ℕ) → r ≡ Some (n, k) → f n k ≡ Ends w → X) → X
from-number (Some (n, k)) f w e g = g n k refl e
from-number NoNumber f w e g = no_end e

-- the number that a walk broke at or behind
pub break-number : {X : Type 0} (r : Number) (f : ℕ → ℕ → Walk) (q : ℕ) → counted r f ≡ Broken q
    → ((n k : ℕ) → r ≡ Some (n, k) → f n k ≡ Broken q → X) → (r ≡ NoNumber → 0 ≡ q → X) → X
break-number (Some (n, k)) f q e g h = g n k refl e
break-number NoNumber f q e g h = h refl cc

pub numeric-within : (xs : List ℕ) (w : ℕ) → numeric_of xs ≡ Ends w → w ≤ length xs
unfolding numeric_of
numeric-within xs w e =
    from-number (number_of xs) _ w e
    (λ n k p q. let z : k ≡ w = cc in rw z at (number-within (number_of xs) xs n k p refl))

pub binary-within : (xs : List ℕ) (w : ℕ) → binary_of xs ≡ Ends w → w ≤ length xs
unfolding binary_of
binary-within xs w e =
    from-number (number_of xs) _ w e
    (λ n k p q. let l = number-within (number_of xs) xs n k p refl in
    taken (ltb n 1) _ _ _ q (λ t q. no_end q)
    (λ t q. taken (leb n (length xs - k)) _ _ _ q
    (λ t q. let z : k + n ≡ w = cc in omega (arith, leb-true n (length xs - k) t))
    (λ t q. no_end q)))

pub truth-within : (xs : List ℕ) (w : ℕ) → truth_of xs ≡ Ends w → w ≤ length xs
unfolding truth_of
truth-within xs w e =
    taken (ltb (length xs) 1) _ _ _ e (λ t q. no_end q)
    (λ t q. taken (ltb (octet_at xs 0) 2) _ _ _ q (λ u q. let z : 1 ≡ w = cc in omega (arith, ltb-false (length xs) 1 t)) (λ u q. no_end q))

pub element-within : (k : Kind) (xs : List ℕ) (w : ℕ) → element_of k xs ≡ Ends w → w ≤ length xs
unfolding element_of
element-within number xs w e = numeric-within xs w e
element-within truth xs w e = truth-within xs w e
element-within narrow xs w e = narrow_within xs w e
element-within text xs w e = text-within xs w e
element-within binary xs w e = binary-within xs w e

from-within : (k : Kind) (n i : ℕ) (xs : List ℕ) (w : ℕ) → list_from k n i xs ≡ Ends w → w ≤ i + length xs
unfolding list_from
from-within k zero i xs w e = let z : i ≡ w = cc in omega arith
from-within k (suc n) i xs w e =
    from-walk (element_of k xs) _ _ w e
    (λ v p q. let l = element-within k xs v p in
    let m = from-within k n (i + v) (drop v xs) w q in
    omega (arith, simp length-drop at m))

pub list-within : (k : Kind) (xs : List ℕ) (w : ℕ) → list_of k xs ≡ Ends w → w ≤ length xs
unfolding list_of
list-within k xs w e =
    from-number (number_of xs) _ w e
    (λ n v p q. let l = number-within (number_of xs) xs n v p refl in
    taken (ltb n 1) _ _ _ q (λ t q. no_end q)
    (λ t q. let m = from-within k n v (drop v xs) w q in omega (arith, simp length-drop at m)))

pub value-within : (f : Form) (xs : List ℕ) (w : ℕ) → value_of f xs ≡ Ends w → w ≤ length xs
unfolding value_of
value-within (one k) xs w e = element-within k xs w e
value-within (many k) xs w e = list-within k xs w e
value-within unknown xs w e = no_end e

-- ---- where a value breaks lies in the part

break-counted : (r : Number) (f : ℕ → ℕ → Walk) → ((n w : ℕ) → break_of (f n w) ≡ 0) → break_of (counted r f) ≡ 0
break-counted (Some (n, w)) f h = h n w
break-counted NoNumber f h = refl

element-breaks : (k : Kind) (xs : List ℕ) → break_of (element_of k xs) ≡ 0
unfolding element_of numeric_of truth_of binary_of
element-breaks number xs = break-counted (number_of xs) _ (λ n w. refl)
element-breaks truth xs = break-either (ltb (length xs) 1) _ _ refl (break-either (ltb (octet_at xs 0) 2) _ _ refl refl)
element-breaks narrow xs = narrow-breaks xs
element-breaks text xs = text-breaks xs
element-breaks binary xs = break-counted (number_of xs) _ (λ n w. break-either (ltb n 1) _ _ refl (break-either (leb n (length xs - w)) _ _ refl refl))

from-breaks : (k : Kind) (n i : ℕ) (xs : List ℕ) (q : ℕ) → list_from k n i xs ≡ Broken q → q ≤ i + length xs
unfolding list_from
from-breaks k zero i xs q e = no_end (sym e)
from-breaks k (suc n) i xs q e =
    from-break (element_of k xs) _ _ q e
    (λ w p z. let m = from-breaks k n (i + w) (drop w xs) q z in
    omega (arith, element-within k xs w p, simp length-drop at m))
    (λ s p z. omega arith)

list-breaks : (k : Kind) (xs : List ℕ) (q : ℕ) → list_of k xs ≡ Broken q → q ≤ length xs
unfolding list_of
list-breaks k xs q e =
    break-number (number_of xs) _ q e
    (λ n v p z. let l = number-within (number_of xs) xs n v p refl in
    taken (ltb n 1) _ _ _ z (λ t z. let y : 0 ≡ q = cc in omega arith)
    (λ t z. omega (arith, simp length-drop at (from-breaks k n v (drop v xs) q z))))
    (λ p z. omega arith)

pub element-break : (k : Kind) (xs : List ℕ) (q : ℕ) → element_of k xs ≡ Broken q → q ≡ 0
element-break k xs q e = sym (ap break_of e) ∙ element-breaks k xs

pub value-breaks : (f : Form) (xs : List ℕ) (q : ℕ) → value_of f xs ≡ Broken q → q ≤ length xs
unfolding value_of
value-breaks (one k) xs q e = omega (arith, element-break k xs q e)
value-breaks (many k) xs q e = list-breaks k xs q e
value-breaks unknown xs q e = let y : 0 ≡ q = cc in omega arith
