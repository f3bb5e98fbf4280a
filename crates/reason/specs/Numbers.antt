-- A list of numbers as it is written (2.9.6.6) is read as those numbers, and every value of its form is such a list.
use Rattle.std.specs.Prelude.{ℕ, zero, suc, ◌^◌, ◌≤◌, ◌<◌, ◌≡◌, refl, Bool, true, false, cond, List, [], ◌∷◌, eqb, length, get_or}
use Rattle.std.proofs.Common.{arith, sym, ap, ◌∙◌, eqb-true, eq-eqb}
use Rattle.std.proofs.Math.Seq.{drop-append_seam}
use Rattle.whole.specs.Number.{encode_number}
use Rattle.whole.specs.Laws.{number-back}
use Rattle.value.specs.Types.{Kind, number, truth, narrow, text, binary, kind_number, many}
use Rattle.value.specs.Encode.{Item, a_number, a_truth, a_narrow, a_text, a_binary, Valids, encode_items}
use Rattle.value.specs.Encode.{encode_list, count}
use Rattle.value.specs.Form.{IsValue}
use Rattle.table.specs.Repeat.{memb}
use Rattle.reason.specs.Why.{numbers_from, numbers_in}

abbrev pub as_items : List ℕ → List Item
as_items [] = []
as_items (n ∷ ns) = a_number n ∷ as_items ns

abbrev pub Small : List ℕ → Type 0
Small [] = Unit {0}
Small (n ∷ ns) = (n < 2 ^ 32) × Small ns

-- v is the list of these numbers
pub record NumbersAre (v : List ℕ) : Type 0 where
  pub numbers : List ℕ
  pub small : Small numbers
  pub few : length numbers < 2 ^ 32
  pub form : v ≡ encode_list (as_items numbers)

-- ---- read back

items-many : (ns : List ℕ) → count (as_items ns) ≡ length ns
items-many [] = refl
items-many (n ∷ ns) = ap suc (items-many ns)

items_back : (ns : List ℕ) → Small ns → numbers_from (length ns) (encode_items (as_items ns)) ≡ ns
unfolding numbers_from
items_back [] s = refl
items_back (n ∷ ns) s =
    let zs : List ℕ = encode_items (as_items ns) in
    rw (number-back n s.0 zs, drop-append_seam (encode_number n) zs)
    (ap (λ (l : List ℕ). n ∷ l) (items_back ns s.1))

pub numbers-back : (v : List ℕ) (x : NumbersAre v) → numbers_in v ≡ x.numbers
unfolding numbers_in
numbers-back v x =
    let ns : List ℕ = x.numbers in
    let zs : List ℕ = encode_items (as_items ns) in
    rw (
      x.form,
      items-many ns,
      number-back (length ns) x.few zs,
      drop-append_seam (encode_number (length ns)) zs,
    )
    (items_back ns x.small)

-- ---- every value of the form is such a list

abbrev numbers_of : List Item → List ℕ
numbers_of [] = []
numbers_of (a_number n ∷ vs) = n ∷ numbers_of vs
numbers_of (a_truth b ∷ vs) = numbers_of vs
numbers_of (a_narrow t ∷ vs) = numbers_of vs
numbers_of (a_text t ∷ vs) = numbers_of vs
numbers_of (a_binary t ∷ vs) = numbers_of vs

no_other : {X : Type 0} (k : Kind) → 1 ≤ kind_number k → k ≡ number → X
no_other k h e = let z : kind_number k ≡ 0 = ap kind_number e in absurd (omega arith)

items-are : (vs : List Item) → Valids number vs → (vs ≡ as_items (numbers_of vs)) × Small (numbers_of vs)
items-are [] h = (refl, tt)
items-are (a_number n ∷ vs) h =
    let r = items-are vs h.2 in
    (ap (λ (l : List Item). a_number n ∷ l) r.0, (h.1, r.1))
items-are (a_truth b ∷ vs) h = no_other truth (omega arith) h.0
items-are (a_narrow t ∷ vs) h = no_other narrow (omega arith) h.0
items-are (a_text t ∷ vs) h = no_other text (omega arith) h.0
items-are (a_binary t ∷ vs) h = no_other binary (omega arith) h.0

pub numbers-are : (v : List ℕ) → IsValue (many number) v → NumbersAre v
unfolding IsValue
numbers-are v h =
    let ns : List ℕ = numbers_of h.items in
    let r = items-are h.items h.valid in
    let m : count h.items ≡ length ns = ap count r.0 ∙ items-many ns in
    record { numbers = ns; small = r.1; few = rw m at h.few; form = h.form ∙ ap encode_list r.0 }

-- ---- one of the numbers

pub record Among (t : ℕ) (ns : List ℕ) : Type 0 where
  pub place : ℕ
  pub below : place < length ns
  pub is : get_or ns place 0 ≡ t

pub memb-among : (t : ℕ) (ns : List ℕ) → memb t ns ≡ true → Among t ns
memb-among t [] e = let q : ◌≡◌ {A = ℕ} 0 1 = ap (λ (b : Bool). cond b 1 0) e in absurd (omega arith)
memb-among t (n ∷ ns) e = go (eqb t n) refl e (memb-among t ns)
  where
    go : (b : Bool) → eqb t n ≡ b → cond b true (memb t ns) ≡ true → (memb t ns ≡ true → Among t ns) → Among t (n ∷ ns)
    go true z q f = record { place = 0; below = omega arith; is = sym (eqb-true t n z) }
    go false z q f =
        let a = f q in
        let l = a.below in
        record { place = suc a.place; below = omega arith; is = a.is }

pub among-memb : (t : ℕ) (ns : List ℕ) → Among t ns → memb t ns ≡ true
among-memb t ns a = go ns a.place a.below a.is
  where
    either : (b : Bool) (x : Bool) → x ≡ true → cond b true x ≡ true
    either true x q = refl
    either false x q = q

    go : (ns : List ℕ) (i : ℕ) → i < length ns → get_or ns i 0 ≡ t → memb t ns ≡ true
    go [] i l e = absurd (omega arith)
    go (n ∷ ns) zero l e = rw (eq-eqb t n (sym e))
    go (n ∷ ns) (suc i) l e = either (eqb t n) (memb t ns) (go ns i (omega arith) e)
