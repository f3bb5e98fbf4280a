-- One value of a form, as its octets: what the theory of books uses of a value. Nothing above unfolds what is defined here; it goes by the walk
-- `value_of`, by `IsValue` and by the laws within, read-back and sound.
use Rattle.std.specs.Prelude.{ℕ, ◌^◌, ◌≤◌, ◌<◌, ◌≡◌, refl, List, [], ◌∷◌, ◌++◌, length, take, drop}
use Rattle.std.proofs.Common.{arith, sym, ap, ◌∙◌, take_at, drop_at}
use Rattle.octets.specs.Octets.{Octets}
use Rattle.answers.specs.Walk.{Ends}
use Rattle.answers.specs.Walk.{broken, no_end}
use Rattle.whole.specs.Number.{number_of as whole_of}
use Rattle.text.specs.Narrow.{narrow_from, encode_narrow, NoZero}
use Rattle.text.specs.Utf8.{text_from}
use Rattle.value.specs.Types.{Kind, number, truth, narrow, text, binary, kind_number, Form, one, many, unknown}
use Rattle.value.specs.Types.{form_in, number_of, form_at, form_of}
use Rattle.value.specs.Value.{numeric_of, truth_of, binary_of, element_of, list_of, value_of}
use Rattle.value.specs.Encode.{Item, a_number, a_truth, a_narrow, a_text, a_binary, kind_of, Valid, Valids, encode_item}
use Rattle.value.specs.Encode.{encode_list, count, item_back, list_back, item-sound, list-sound}

pub record One (k : Kind) (v : List ℕ) : Type 0 where
  pub item : Item
  pub kind : kind_of item ≡ k
  pub valid : Valid item
  pub form : v ≡ encode_item item

pub record Many (k : Kind) (v : List ℕ) : Type 0 where
  pub items : List Item
  pub valid : Valids k items
  pub some : 1 ≤ count items
  pub few : count items < 2 ^ 32
  pub form : v ≡ encode_list items

-- v is the encoding of one value of the form f
unfoldable pub IsValue : Form → List ℕ → Type 0
IsValue (one k) v = One k v
IsValue (many k) v = Many k v
IsValue unknown v = ⊥

-- what was written is walked over
pub value-back : (f : Form) (v : List ℕ) → IsValue f v → (rest : List ℕ) → value_of f (v ++ rest) ≡ Ends (length v)
unfolding IsValue value_of
value-back (one k) v h rest = rw h.form (rw h.kind at (item_back h.item h.valid rest))
value-back (many k) v h rest = rw h.form (list_back k h.items h.valid h.some h.few rest)
value-back unknown v h rest = absurd h

-- what is walked over was written so: a value stands at the front of xs and ends at w
pub record Stands (f : Form) (xs : List ℕ) (w : ℕ) : Type 0 where
  pub value : List ℕ
  pub good : IsValue f value
  pub rest : List ℕ
  pub reads : xs ≡ value ++ rest
  pub wide : w ≡ length value

pub value-sound : (f : Form) (xs : List ℕ) → Octets xs → (w : ℕ) → value_of f xs ≡ Ends w → Stands f xs w
unfolding IsValue value_of
value-sound (one k) xs o w e =
    let t = item-sound k xs o w e in
    record { value = encode_item t.item; good = record { item = t.item; kind = t.kind; valid = t.valid; form = refl }; rest = t.rest; reads = t.reads; wide = t.wide }
value-sound (many k) xs o w e =
    let t = list-sound k xs o w e in
    record { value = encode_list t.items; good = record { items = t.items; valid = t.valid; some = t.some; few = t.few; form = refl }; rest = t.rest; reads = t.reads; wide = t.ends }
value-sound unknown xs o w e = no_end e

-- two values at the front of one list are one
pub value-one : (f : Form) (v w r s : List ℕ) → IsValue f v → IsValue f w → v ++ r ≡ w ++ s → (v ≡ w) × (r ≡ s)
value-one f v w r s h i e =
    let a : value_of f (v ++ r) ≡ Ends (length v) = value-back f v h r in
    let b : value_of f (v ++ r) ≡ Ends (length w) = rw e (value-back f w i s) in
    let l : length w ≡ length v = cc in
    let z = take_at v r (length v) refl in
    let y = drop_at v r (length v) refl in
    (sym z ∙ ap (take (length v)) e ∙ take_at w s (length v) l, sym y ∙ ap (drop (length v)) e ∙ drop_at w s (length v) l)

no_value : (f : Form) → value_of f [] ≡ broken
unfolding value_of element_of numeric_of truth_of binary_of list_of whole_of narrow_from text_from
no_value (one number) = refl
no_value (one truth) = refl
no_value (one narrow) = refl
no_value (one text) = refl
no_value (one binary) = refl
no_value (many k) = refl
no_value unknown = refl

-- no value is empty
pub value-some : (f : Form) (v : List ℕ) → IsValue f v → 1 ≤ length v
value-some f [] h = no_end (sym (no_value f) ∙ value-back f [] h [])
value-some f (x ∷ v) h = omega arith

-- ---- type 000D, a reference to another entry (2.9.6.3)

-- it has the form of 001E
pub object-narrow : form_of 0x000D ≡ form_of 0x001E
unfolding form_in number_of form_at form_of
object-narrow = refl

-- its values are one or more octets other than 00, and a 00
pub object-value : (t : List ℕ) → NoZero t → 1 ≤ length t → IsValue (form_of 0x000D) (encode_narrow t)
unfolding form_in number_of form_at form_of IsValue
object-value t h i = record { item = a_narrow t; kind = refl; valid = (h, i); form = refl }

pub record Reference (v : List ℕ) : Type 0 where
  pub octets : List ℕ
  pub no_zero : NoZero octets
  pub some : 1 ≤ length octets
  pub reads : v ≡ encode_narrow octets

pub object-only : (v : List ℕ) → IsValue (form_of 0x000D) v → Reference v
unfolding form_in number_of form_at form_of IsValue
object-only v h = go h.item h.kind h.valid h.form
  where
    go : (i : Item) → kind_of i ≡ narrow → Valid i → v ≡ encode_item i → Reference v
    go (a_narrow t) e g q = record { octets = t; no_zero = g.0; some = g.1; reads = q }
    go (a_number n) e g q = let z : ◌≡◌ {A = ℕ} 0 2 = ap kind_number e in absurd (omega arith)
    go (a_truth b) e g q = let z : ◌≡◌ {A = ℕ} 1 2 = ap kind_number e in absurd (omega arith)
    go (a_text t) e g q = let z : ◌≡◌ {A = ℕ} 3 2 = ap kind_number e in absurd (omega arith)
    go (a_binary t) e g q = let z : ◌≡◌ {A = ℕ} 4 2 = ap kind_number e in absurd (omega arith)
