-- Where a value is at fault (document 02, request 109): a single value at its start; a list at its count if that is
-- wrong, else at the first element that is none of its kind. This is said of what can be written, and the walk breaks
-- at just that place: `value-fault`, `fault-value`.
use Rattle.std.specs.Prelude.{ℕ, zero, suc, ◌+◌, ◌-◌, ◌^◌, ◌≤◌, ◌<◌, ◌≡◌, refl, List, [], ◌++◌, length, drop, ltb}
use Rattle.std.proofs.Common.{arith, sym, ap, ◌∙◌, append_assoc, length-append, lt-ltb, ltb-true}
use Rattle.octets.specs.Cases.{split, taken}
use Rattle.octets.specs.Octets.{Octets, octets-drop, octets-right}
use Rattle.answers.specs.Walk.{Walk}
use Rattle.answers.specs.Walk.{Ends, Broken}
use Rattle.answers.specs.Walk.{broken, no_end, from-break}
use Rattle.whole.specs.Number.{Number}
use Rattle.whole.specs.Number.{Some, Broken as NoNumber}
use Rattle.whole.specs.Number.{number_of, encode_number}
use Rattle.whole.specs.Laws.{same-number, number-back, number-sound, number_small, number-wide, no_number}
use Rattle.value.specs.Types.{Kind, Form, one, many, unknown}
use Rattle.value.specs.Value.{element_of, list_from, list_of, value_of}
use Rattle.value.specs.Within.{break-number, element-break}
use Rattle.value.specs.Encode.{Item, kind_of, Valid, Valids, count, encode_item, encode_items}
use Rattle.value.specs.Encode.{item_back, list-front, item-sound, WrittenAll, joined}

-- no value of the kind k stands at the front of xs
abbrev pub NoItem : Kind → List ℕ → Type 0
NoItem k xs = (v : Item) → kind_of v ≡ k → Valid v → (rest : List ℕ) → xs ≡ encode_item v ++ rest → ⊥

-- no count of a list stands there: no whole number from 1 on
abbrev pub NoCount : List ℕ → Type 0
NoCount xs = (n : ℕ) → 1 ≤ n → n < 2 ^ 32 → (rest : List ℕ) → xs ≡ encode_number n ++ rest → ⊥

-- a count and good elements, fewer than it says, stand at the front of xs; behind them, at q, stands none
pub record BadElement (k : Kind) (xs : List ℕ) (q : ℕ) : Type 0 where
  pub stated : ℕ
  pub small : stated < 2 ^ 32
  pub good : List Item
  pub valid : Valids k good
  pub fewer : count good < stated
  pub rest : List ℕ
  pub reads : xs ≡ (encode_number stated ++ encode_items good) ++ rest
  pub place : q ≡ length (encode_number stated ++ encode_items good)
  pub bad : NoItem k rest

pub data ListFault (k : Kind) (xs : List ℕ) (q : ℕ) : Type 0 where
  wrong_count : NoCount xs → q ≡ 0 → ListFault k xs q
  bad_element : BadElement k xs q → ListFault k xs q

-- a value of the form f at the front of xs is at fault, at q
abbrev pub Fault : Form → List ℕ → ℕ → Type 0
Fault (one k) xs q = NoItem k xs × (q ≡ 0)
Fault (many k) xs q = ListFault k xs q
Fault unknown xs q = q ≡ 0

-- ---- where the walk breaks, the value is at fault

no_item : (k : Kind) (xs : List ℕ) (p : ℕ) → element_of k xs ≡ Broken p → NoItem k xs
no_item k xs p e v z g rest q = no_end (sym e ∙ ap (element_of k) q ∙ rw z at (item_back v g rest))

no-count : (xs : List ℕ) → ((n w : ℕ) → number_of xs ≡ Some (n, w) → n < 1) → NoCount xs
no-count xs h n p q rest e = absurd (omega (arith, h n _ (ap number_of e ∙ number-back n q rest)))

-- of n elements at the front of xs, where i octets have gone before, the first that is none stands at q
record FaultFrom (k : Kind) (n i : ℕ) (xs : List ℕ) (q : ℕ) : Type 0 where
  before : ℕ
  fewer : before < n
  good : WrittenAll k before i xs q
  bad : NoItem k good.rest

items-fault : (k : Kind) (n i : ℕ) (xs : List ℕ) → Octets xs → (q : ℕ) → list_from k n i xs ≡ Broken q
    → FaultFrom k n i xs q
unfolding list_from joined
items-fault k zero i xs o q e = no_end (sym e)
items-fault k (suc n) i xs o q e =
    from-break (element_of k xs) _ _ q e
    (λ v p z. let t = items-fault k n (i + v) (drop v xs) (octets-drop v xs o) q z in record {
      before = suc t.before;
      fewer = omega (arith, t.fewer);
      good = joined k t.before i v q xs (item-sound k xs o v p) t.good;
      bad = t.bad;
    })
    (λ s p z. record {
      before = 0;
      fewer = omega arith;
      good = record { items = []; valid = tt; many = refl; rest = xs; reads = refl; ends = omega arith };
      bad = no_item k xs s p;
    })

list-fault : (k : Kind) (xs : List ℕ) → Octets xs → (q : ℕ) → list_of k xs ≡ Broken q → ListFault k xs q
unfolding list_of
list-fault k xs o q e =
    break-number (number_of xs) _ q e
    (λ n v p z. taken (ltb n 1) _ _ _ z
    (λ t z. wrong_count (no-count xs (λ m w y. let (s, r) = same-number (sym p ∙ y) in omega (arith, ltb-true n 1 t, s))) cc)
    (λ t z. bad_element (element n v p (items-fault k n v (drop v xs) (octets-drop v xs o) q z))))
    (λ p z. wrong_count (no-count xs (λ m w y. no_number (sym p ∙ y))) (sym z))
  where
    element : (n v : ℕ) → number_of xs ≡ Some (n, v) → FaultFrom k n v (drop v xs) q → BadElement k xs q
    element n v p t =
        let g = t.good in
        let wide = number-wide xs o n v p in
        record {
          stated = n;
          small = number_small xs o n v p;
          good = g.items;
          valid = g.valid;
          fewer = omega (arith, t.fewer, g.many);
          rest = g.rest;
          reads = rw append_assoc (number-sound xs o n v p ∙ ap (λ (l : List ℕ). encode_number n ++ l) g.reads);
          place = simp length-append (omega (arith, g.ends));
          bad = t.bad;
        }

pub value-fault : (f : Form) (xs : List ℕ) → Octets xs → (q : ℕ) → value_of f xs ≡ Broken q → Fault f xs q
unfolding value_of
value-fault (one k) xs o q e = (no_item k xs q e, element-break k xs q e)
value-fault (many k) xs o q e = list-fault k xs o q e
value-fault unknown xs o q e = cc

-- ---- where the value is at fault, the walk breaks

item-none : (k : Kind) (xs : List ℕ) → Octets xs → NoItem k xs → element_of k xs ≡ broken
item-none k xs o h = go (element_of k xs) refl
  where
    go : (r : Walk) → element_of k xs ≡ r → element_of k xs ≡ broken
    go (Ends w) e = let t = item-sound k xs o w e in absurd (h t.item t.kind t.valid t.rest t.reads)
    go (Broken p) e = e ∙ ap Broken (element-break k xs p e)

count_none : (k : Kind) (xs : List ℕ) → Octets xs → NoCount xs → list_of k xs ≡ broken
unfolding list_of
count_none k xs o h = go (number_of xs) refl
  where
    go : (r : Number) → number_of xs ≡ r → list_of k xs ≡ broken
    go NoNumber e = rw e
    go (Some (n, w)) e =
        split n 1 (λ l. rw e (simp (lt-ltb n 1 l)))
        (λ l. absurd (h n l (number_small xs o n w e) (drop w xs) (number-sound xs o n w e)))

element-none : (k : Kind) (xs : List ℕ) → Octets xs → (q : ℕ) → BadElement k xs q → list_of k xs ≡ Broken q
unfolding list_from
element-none k xs o q t =
    let front = encode_number t.stated ++ encode_items t.good in
    let here = item-none k t.rest (octets-right front t.rest (rw t.reads at o)) t.bad in
    let left = t.stated - count t.good - 1 in
    let more : t.stated ≡ count t.good + suc left = omega (arith, t.fewer) in
    ap (list_of k) t.reads
    ∙ list-front k t.good t.valid t.stated (suc left) more (omega (arith, t.fewer)) t.small t.rest
    ∙ stop left (length front) t.rest here
    ∙ ap Broken (sym t.place)
  where
    stop : (n i : ℕ) (xs : List ℕ) → element_of k xs ≡ broken → list_from k (suc n) i xs ≡ Broken i
    stop n i xs e = rw e

pub fault-value : (f : Form) (xs : List ℕ) → Octets xs → (q : ℕ) → Fault f xs q → value_of f xs ≡ Broken q
unfolding value_of
fault-value (one k) xs o q h = item-none k xs o h.0 ∙ ap Broken (sym h.1)
fault-value (many k) xs o q (wrong_count h z) = count_none k xs o h ∙ ap Broken (sym z)
fault-value (many k) xs o q (bad_element t) = element-none k xs o q t
fault-value unknown xs o q h = ap Broken (sym h)
