-- The values that can be exported, by the type of their column: what each says and what its field holds. Assumes nothing.
use Rattle.std.specs.Prelude.{ℕ, zero, suc, ◌+◌, ◌-◌, ◌^◌, ◌≤◌, ◌<◌, ◌≡◌, Bool, List, [], ◌∷◌, ◌++◌, eqb, length, take}
use Rattle.std.proofs.Common.{arith, sym, ap, ◌∙◌, append-nil, length-append, take_at, ne_eqb, eqb-true}
use Rattle.std.proofs.Math.Path.{refl}
use Rattle.std.proofs.Math.Bool.{true, false, cond}
use Rattle.std.proofs.Math.Option.{some}
use Rattle.octets.specs.Cases.{taken}
use Rattle.octets.specs.Octets.{octet_at}
use Rattle.whole.specs.Number.{Some}
use Rattle.whole.specs.Number.{number_of as whole_of, encode_number}
use Rattle.whole.specs.Laws.{number-back}
use Rattle.text.specs.Text.{encode_chars, chars-some}
use Rattle.value.specs.Types.{number, truth, narrow, text, form_in, number_of, form_at, form_of}
use Rattle.value.specs.Encode.{Item, a_number, a_truth, a_narrow, a_text, a_binary, kind_of, Valid, encode_item}
use Rattle.value.specs.Form.{IsValue}
use Rattle.entry.specs.Record.{Slot, unlike}
use Rattle.sheet.specs.Digits.{number_in, decimal, decimal-back, decimal-long, places-some}
use Rattle.sheet.specs.Field.{numbers, truths, narrows, texts, is_exported, whole_in, content_of}
use Rattle.sheet.specs.Reading.{value_from}

pub by-type : {X : Type 0} (code : ℕ) → is_exported code ≡ true → (code ≡ numbers → X) → (code ≡ truths → X)
    → (code ≡ narrows → X) → (code ≡ texts → X) → X
unfolding is_exported
by-type code h f g k l =
    taken (eqb code numbers) _ _ _ h (λ p q. f (eqb-true code numbers p))
    (λ p q. taken (eqb code truths) _ _ _ q (λ p q. g (eqb-true code truths p))
    (λ p q. taken (eqb code narrows) _ _ _ q (λ p q. k (eqb-true code narrows p))
    (λ p q. taken (eqb code texts) _ _ _ q (λ p q. l (eqb-true code texts p)) (λ p q. unlike q))))

unfoldable pub is_string : ℕ → Bool
is_string code = cond (eqb code numbers) false (cond (eqb code truths) false true)

pub narrow-string : is_string narrows ≡ true
unfolding is_string
narrow-string = refl

pub text-string : is_string texts ≡ true
unfolding is_string
text-string = refl

-- ---- a value of a type, by its octets

pub record ANumber (v : List ℕ) : Type 0 where
  pub says : ℕ
  pub small : says < 2 ^ 32
  pub form : v ≡ encode_number says

pub record ATruth (v : List ℕ) : Type 0 where
  pub says : ℕ
  pub small : says < 2
  pub form : v ≡ says ∷ []

pub record AString (v : List ℕ) : Type 0 where
  pub octets : List ℕ
  pub some : 1 ≤ length octets
  pub form : v ≡ octets ++ (0 ∷ [])

pub number-value : (v : List ℕ) → IsValue (form_of numbers) v → ANumber v
unfolding form_of number_of form_in form_at IsValue
number-value v h = go h.item h.kind h.valid h.form
  where
    go : (i : Item) → kind_of i ≡ number → Valid i → v ≡ encode_item i → ANumber v
    go (a_number n) k l f = record { says = n; small = l; form = f }
    go (a_truth b) k l f = absurd (let z : ◌≡◌ {A = ℕ} 0 1 = cc in omega arith)
    go (a_narrow t) k l f = absurd (let z : ◌≡◌ {A = ℕ} 0 1 = cc in omega arith)
    go (a_text t) k l f = absurd (let z : ◌≡◌ {A = ℕ} 0 1 = cc in omega arith)
    go (a_binary t) k l f = absurd (let z : ◌≡◌ {A = ℕ} 0 1 = cc in omega arith)

pub truth-value : (v : List ℕ) → IsValue (form_of truths) v → ATruth v
unfolding form_of number_of form_in form_at IsValue
truth-value v h = go h.item h.kind h.valid h.form
  where
    go : (i : Item) → kind_of i ≡ truth → Valid i → v ≡ encode_item i → ATruth v
    go (a_truth b) k l f = record { says = b; small = l; form = f }
    go (a_number n) k l f = absurd (let z : ◌≡◌ {A = ℕ} 0 1 = cc in omega arith)
    go (a_narrow t) k l f = absurd (let z : ◌≡◌ {A = ℕ} 0 1 = cc in omega arith)
    go (a_text t) k l f = absurd (let z : ◌≡◌ {A = ℕ} 0 1 = cc in omega arith)
    go (a_binary t) k l f = absurd (let z : ◌≡◌ {A = ℕ} 0 1 = cc in omega arith)

pub narrow-value : (v : List ℕ) → IsValue (form_of narrows) v → AString v
unfolding form_of number_of form_in form_at IsValue
narrow-value v h = go h.item h.kind h.valid h.form
  where
    go : (i : Item) → kind_of i ≡ narrow → Valid i → v ≡ encode_item i → AString v
    go (a_narrow t) k l f = record { octets = t; some = l.1; form = f }
    go (a_truth b) k l f = absurd (let z : ◌≡◌ {A = ℕ} 0 1 = cc in omega arith)
    go (a_number n) k l f = absurd (let z : ◌≡◌ {A = ℕ} 0 1 = cc in omega arith)
    go (a_text t) k l f = absurd (let z : ◌≡◌ {A = ℕ} 0 1 = cc in omega arith)
    go (a_binary t) k l f = absurd (let z : ◌≡◌ {A = ℕ} 0 1 = cc in omega arith)

pub text-value : (v : List ℕ) → IsValue (form_of texts) v → AString v
unfolding form_of number_of form_in form_at IsValue
text-value v h = go h.item h.kind h.valid h.form
  where
    go : (i : Item) → kind_of i ≡ text → Valid i → v ≡ encode_item i → AString v
    go (a_text t) k l f = record { octets = encode_chars t; some = chars-some t l.0 l.1; form = f }
    go (a_truth b) k l f = absurd (let z : ◌≡◌ {A = ℕ} 0 1 = cc in omega arith)
    go (a_number n) k l f = absurd (let z : ◌≡◌ {A = ℕ} 0 1 = cc in omega arith)
    go (a_narrow t) k l f = absurd (let z : ◌≡◌ {A = ℕ} 0 1 = cc in omega arith)
    go (a_binary t) k l f = absurd (let z : ◌≡◌ {A = ℕ} 0 1 = cc in omega arith)

-- ---- what its field holds

pub number-content : (v : List ℕ) (a : ANumber v) → content_of numbers (some v) ≡ decimal a.says
unfolding content_of
number-content v a =
    let b : whole_of v ≡ Some (a.says, length (encode_number a.says)) =
    ap whole_of (a.form ∙ sym (append-nil (encode_number a.says))) ∙ number-back a.says a.small [] in
    rw b

pub truth-content : (v : List ℕ) (a : ATruth v) → content_of truths (some v) ≡ (48 + a.says) ∷ []
unfolding content_of
truth-content v a =
    ap (λ (l : List ℕ). cond (eqb (octet_at l 0) 0) 48 49 ∷ []) a.form
    ∙ ap (λ (n : ℕ). n ∷ []) (go a.says a.small)
  where
    go : (n : ℕ) → n < 2 → cond (eqb n 0) 48 49 ≡ 48 + n
    go zero h = refl
    go (suc zero) h = refl
    go (suc (suc n)) h = absurd (omega arith)

pub string-content : (code : ℕ) (v : List ℕ) → is_string code ≡ true → (a : AString v)
    → content_of code (some v) ≡ a.octets
unfolding content_of is_string
string-content code v h a = go (eqb code numbers) (eqb code truths) h
  where
    last : take (length v - 1) v ≡ a.octets
    last =
        let l : length (a.octets ++ (0 ∷ [])) ≡ length a.octets + 1 = length-append a.octets (0 ∷ []) in
        rw a.form (take_at a.octets (0 ∷ []) (length (a.octets ++ (0 ∷ [])) - 1) (omega arith))

    go : (x y : Bool) → cond x false (cond y false true) ≡ true
        → cond x (decimal (whole_in v)) (cond y (cond (eqb (octet_at v 0) 0) 48 49 ∷ []) (take (length v - 1) v))
        ≡ a.octets
    go true y e = unlike e
    go false true e = unlike e
    go false false e = last

-- ---- the value comes back

module _ (code : ℕ) (t : List ℕ) (h : 1 ≤ length t) where
  number-from : code ≡ numbers → value_from code t ≡ some (encode_number (number_in t))
  unfolding value_from
  number-from e = rw (ne_eqb (length t) 0 (omega arith), e)

  truth-from : code ≡ truths → value_from code t ≡ some ((octet_at t 0 - 48) ∷ [])
  unfolding value_from
  truth-from e = rw (ne_eqb (length t) 0 (omega arith), e)

  string-from : is_string code ≡ true → value_from code t ≡ some (t ++ (0 ∷ []))
  unfolding value_from is_string
  string-from s = rw (ne_eqb (length t) 0 (omega arith)) (go (eqb code numbers) (eqb code truths) s)
    where
      go : (a b : Bool) → cond a false (cond b false true) ≡ true
          → some (cond a (encode_number (number_in t)) (cond b ((octet_at t 0 - 48) ∷ []) (t ++ (0 ∷ []))))
          ≡ some (t ++ (0 ∷ []))
      go true b q = unlike q
      go false true q = unlike q
      go false false q = refl

pub string-back : (code : ℕ) (v : List ℕ) → is_string code ≡ true → AString v
    → value_from code (content_of code (some v)) ≡ some v
string-back code v s a =
    rw (string-content code v s a) (string-from code a.octets a.some s ∙ ap some (sym a.form))

pub number-again : (v : List ℕ) → ANumber v → value_from numbers (content_of numbers (some v)) ≡ some v
number-again v a =
    let n : 1 ≤ length (decimal a.says) = rw (decimal-long a.says) (places-some a.says).0 in
    rw (number-content v a)
    (number-from numbers (decimal a.says) n refl
    ∙ ap (λ (k : ℕ). some (encode_number k)) (decimal-back a.says) ∙ ap some (sym a.form))

pub truth-again : (v : List ℕ) → ATruth v → value_from truths (content_of truths (some v)) ≡ some v
truth-again v a =
    let d : 48 + a.says - 48 ≡ a.says = omega arith in
    rw (truth-content v a)
    (truth-from truths ((48 + a.says) ∷ []) (omega arith) refl
    ∙ ap (λ (k : ℕ). some (k ∷ [])) d ∙ ap some (sym a.form))

-- what may stand in a chosen column: a value of its type, or none
abbrev pub free_slot : ℕ → Slot
free_slot code = record { form = form_of code; must = false }
