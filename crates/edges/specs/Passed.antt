-- In a good record a value is passed over by less than its form: a text ends where a narrow string would, so its
-- characters need no second look. What is sound under the forms of its columns is sound under those it is passed by.
use Rattle.std.specs.Prelude.{ℕ, zero, suc, ◌+◌, ◌≡◌, refl, Bool, cond, List, [], ◌∷◌, ◌++◌, eqb, length, drop}
use Rattle.std.proofs.Common.{arith, ap, ap₂, ◌∙◌, eq-eqb, ne_eqb}
use Rattle.std.proofs.Math.Decide.{ℕ_discrete}
use Rattle.std.proofs.Math.Option.{Option, none, some}
use Rattle.whole.specs.Number.{encode_number}
use Rattle.text.specs.Text.{encode_chars, chars-no_zero, chars-some}
use Rattle.value.specs.Types.{narrow, text, kind_number, list_form, form_at}
use Rattle.value.specs.Encode.{Item, a_number, a_truth, a_narrow, a_text, a_binary, kind_of, Valid, Valids, encode_item, count}
use Rattle.value.specs.Encode.{encode_items}
use Rattle.value.specs.Form.{One, Many, IsValue}
use Rattle.entry.specs.Present.{Row}
use Rattle.entry.specs.Record.{SoundEntry, SoundRow}
use Rattle.entry.specs.Slots.{slots_from}

unfoldable pub passed_form : ℕ → ℕ
passed_form f =
    cond (eqb f (kind_number text)) (kind_number narrow)
    (cond (eqb f (list_form + kind_number text)) (list_form + kind_number narrow)
    f)

abbrev pub passed : List ℕ → List ℕ
passed [] = []
passed (f ∷ forms) = passed_form f ∷ passed forms

pub passed-long : (forms : List ℕ) → length (passed forms) ≡ length forms
passed-long [] = refl
passed-long (f ∷ forms) = ap suc (passed-long forms)

pub passed-drop : (j : ℕ) (forms : List ℕ) → drop j (passed forms) ≡ passed (drop j forms)
passed-drop zero forms = refl
passed-drop (suc j) [] = refl
passed-drop (suc j) (f ∷ forms) = passed-drop j forms

-- ---- a text is a narrow string

record AsNarrow (i : Item) : Type 0 where
  pub item : Item
  pub kind : kind_of item ≡ narrow
  pub valid : Valid item
  pub same : encode_item i ≡ encode_item item

item-narrow : (i : Item) → kind_of i ≡ text → Valid i → AsNarrow i
item-narrow (a_text ns) k l =
    record {
      item = a_narrow (encode_chars ns);
      kind = refl;
      valid = (chars-no_zero ns l.0, chars-some ns l.0 l.1);
      same = refl;
    }
item-narrow (a_number n) k l = absurd (let z : ◌≡◌ {A = ℕ} 0 1 = cc in omega arith)
item-narrow (a_truth b) k l = absurd (let z : ◌≡◌ {A = ℕ} 0 1 = cc in omega arith)
item-narrow (a_narrow t) k l = absurd (let z : ◌≡◌ {A = ℕ} 0 1 = cc in omega arith)
item-narrow (a_binary t) k l = absurd (let z : ◌≡◌ {A = ℕ} 0 1 = cc in omega arith)

record AllNarrow (is : List Item) : Type 0 where
  pub items : List Item
  pub valid : Valids narrow items
  pub many : count is ≡ count items
  pub same : encode_items is ≡ encode_items items

items-narrow : (is : List Item) → Valids text is → AllNarrow is
items-narrow [] v = record { items = []; valid = tt; many = refl; same = refl }
items-narrow (i ∷ is) v =
    let a = item-narrow i v.0 v.1 in
    let b = items-narrow is v.2 in
    record {
      items = a.item ∷ b.items;
      valid = (a.kind, a.valid, b.valid);
      many = ap suc b.many;
      same = ap₂ (λ (x y : List ℕ). x ++ y) a.same b.same;
    }

one-narrow : (v : List ℕ) → One text v → One narrow v
one-narrow v h =
    let a = item-narrow h.item h.kind h.valid in
    record { item = a.item; kind = a.kind; valid = a.valid; form = h.form ∙ a.same }

many-narrow : (v : List ℕ) → Many text v → Many narrow v
many-narrow v h =
    let b = items-narrow h.items h.valid in
    let n = b.many in
    record {
      items = b.items;
      valid = b.valid;
      some = rw (← n) h.some;
      few = rw (← n) h.few;
      form = h.form ∙ ap₂ (λ (c : ℕ) (y : List ℕ). encode_number c ++ y) n b.same;
    }

one-passed : (v : List ℕ) → IsValue (form_at (kind_number text)) v → IsValue (form_at (kind_number narrow)) v
unfolding form_at IsValue
one-passed v h = one-narrow v h

many-passed : (v : List ℕ) → IsValue (form_at (list_form + kind_number text)) v
    → IsValue (form_at (list_form + kind_number narrow)) v
unfolding form_at IsValue
many-passed v h = many-narrow v h

value-passed : (f : ℕ) (v : List ℕ) → IsValue (form_at f) v → IsValue (form_at (passed_form f)) v
unfolding passed_form
value-passed f v h =
    elim (ℕ_discrete f (kind_number text)) [
      | yes e ↦ rw (eq-eqb f (kind_number text) e) (one-passed v (rw e at h))
      | no e ↦
          elim (ℕ_discrete f (list_form + kind_number text)) [
            | yes q ↦
                rw (ne_eqb f (kind_number text) e, eq-eqb f (list_form + kind_number text) q) (many-passed v (rw q at h))
            | no q ↦ rw (ne_eqb f (kind_number text) e, ne_eqb f (list_form + kind_number text) q) h
          ]
    ]

-- ---- a sound row is sound under the forms it is passed by

entry-passed : (f : ℕ) (m : Bool) (e : Option (List ℕ)) → SoundEntry (record { form = form_at f; must = m }) e
    → SoundEntry (record { form = form_at (passed_form f); must = m }) e
entry-passed f m none h = h
entry-passed f m (some v) h = (value-passed f v h.0, h.1)

pub row-passed : (forms flags : List ℕ) (es : Row) → SoundRow (slots_from forms flags) es
    → SoundRow (slots_from (passed forms) flags) es
row-passed [] flags es h = h
row-passed (f ∷ forms) flags [] h = absurd h
row-passed (f ∷ forms) flags (e ∷ es) h = (entry-passed f _ e h.0, row-passed forms (drop 1 flags) es h.1)
