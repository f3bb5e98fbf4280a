-- The ways of the code over the header record, on plain values.
use Rattle.std.specs.Prelude.{Ok, Err, ℕ, zero, suc, ◌+◌, ◌-◌, ◌%◌, ◌^◌, ◌≤◌, ◌<◌, ◌≡◌, refl, length, take, drop, get_or, set, replicate}
use Rattle.std.proofs.Common.{add-zero, add-one, ◌∙◌, length-drop, drop_of_length-le, take-suc, take_all, length-take-le, Fits}
use native.Mathlib.Omega.{arith}
use Rattle.std.proofs.Math.Path.{sym, ap, ap₂}
use mathlib.Core.List.{List, [], ◌∷◌, ◌++◌}
use Rattle.std.proofs.Math.Seq.{drop-drop}
use Rattle.std.specs.Int.{w64}
use Rattle.std.specs.Result.{result_unwrap_or}
use borrow.Author.Tests.{eq-eqb, ne_eqb, lt-ltb, le-ltb}
use Rattle.octets.specs.Octets.{drop-next}
use Rattle.octets.specs.Word.{word_of}
use Rattle.answers.specs.Numbers.{breaks_form, most_octets, most_columns}
use Rattle.answers.specs.Padded.{padded, padded-long, padded-more}
use Rattle.answers.specs.declared.Refusal.{Refusal}
use Rattle.answers.specs.Verdict.{Answer, Verdict, answered}
use Rattle.answers.specs.Made.{answered-done, answered-refused}
use Rattle.answers.specs.Verdict.{clear, Refused}
use Rattle.answers.specs.Verdict.{refused, ◌then◌, then-clear}
use Rattle.answers.specs.Walk.{Walk}
use Rattle.answers.specs.Walk.{Ends, Broken}
use Rattle.presence.specs.Presence.{room}
use Rattle.whole.specs.Number.{Number}
use Rattle.whole.specs.Number.{Some, Broken as NoNumber}
use Rattle.whole.specs.Number as whole
use Rattle.whole.specs.Laws.{number-within}
use Rattle.value.specs.Types.{Kind, Form, one, many, number_of, kind_at, form_at}
use Rattle.value.specs.Value.{element_of, value_of}
use Rattle.value.specs.Within.{element-within}
use Rattle.entry.specs.Record.{record_at}
use Rattle.entry.specs.Slots.{slots_from, step_of}
use Rattle.entry.specs.Cases.{step-within}
use Rattle.entry.specs.Read.{width_of}
use Rattle.writing.specs.State.{room_at, room_in_lem}
use Rattle.importing.specs.Given.{elements_of, pieces_of, pieces_at}
use Rattle.importing.specs.Head.{offered_in, forms_for, column_given, column_long, next_given, head_from, head_given}

-- ---- the forms

forms-append : (xs ys : List ℕ) → forms_for (xs ++ ys) ≡ forms_for xs ++ forms_for ys
forms-append [] ys = refl
forms-append (x ∷ xs) ys = ap (λ (l : List ℕ). number_of (x % 65536) ∷ l) (forms-append xs ys)

pub forms-many : (ts : List ℕ) → length (forms_for ts) ≡ length ts
forms-many [] = refl
forms-many (t ∷ ts) = ap suc (forms-many ts)

pub forms-start : (ts : List ℕ) → replicate 128 0 ≡ padded (forms_for (take 0 ts))
forms-start ts = refl

module _ (ts : List ℕ) (few : length ts ≤ most_columns) (i : ℕ) (forms : List ℕ)
    (inv : forms ≡ padded (forms_for (take i ts))) where
  pub forms-room : i < length ts → i < length forms
  forms-room h =
      let l = length-take-le i ts (omega arith) in
      let m = forms-many (take i ts) in
      let n = ap length inv ∙ padded-long (forms_for (take i ts)) (omega arith) in
      omega arith

  pub forms-next : i < length ts → (f : ℕ) → f ≡ number_of (get_or ts i 0 % 65536)
      → set forms i f ≡ padded (forms_for (take (i + 1) ts))
  forms-next h f e =
      let l = length-take-le i ts (omega arith) in
      let m = forms-many (take i ts) in
      let t : take (i + 1) ts ≡ take i ts ++ (get_or ts i 0 ∷ []) =
      ap (λ (k : ℕ). take k ts) (add-one i) ∙ take-suc ts i 0 h in
      rw (inv, e)
      (padded-more (forms_for (take i ts)) i (number_of (get_or ts i 0 % 65536)) (omega arith) (omega arith)
      ∙ ap padded (sym (forms-append (take i ts) (get_or ts i 0 ∷ [])) ∙ ap forms_for (sym t)))

  pub forms-all : length ts ≤ i → forms ≡ padded (forms_for ts)
  forms-all h = inv ∙ ap (λ (l : List ℕ). padded (forms_for l)) (take_all i ts h)

pub ruleset forms_cases = (forms-start, forms-room, forms-next, forms-all)

-- ---- one record to its last octet

module _ (forms none new : List ℕ) (z : none ≡ []) (v : Verdict)
    (e : v ≡ record_at (slots_from forms none) 0 (drop 0 new)) where
  record_is : record_at (slots_from forms []) 0 new ≡ v
  record_is = ap (λ (l : List ℕ). record_at (slots_from forms l) 0 new) (sym z) ∙ sym e

  pub offered-bad : (r : Refusal) (x : Verdict) → v ≡ Refused r → x ≡ refused breaks_form 0
      → x ≡ offered_in (slots_from forms []) new
  unfolding offered_in
  offered-bad r x q y = rw (record_is, q) y

  module _ (q : v ≡ clear) (w : ℕ) (we : w ≡ word_of 4 (drop 0 new)) where
    pub offered-good : w ≡ length new → clear ≡ offered_in (slots_from forms []) new
    unfolding offered_in
    offered-good y = rw (record_is, q, ← we, eq-eqb w (length new) y)

    pub offered-other : (x : Verdict) → (w ≡ length new → ⊥) → x ≡ refused breaks_form 0
        → x ≡ offered_in (slots_from forms []) new
    unfolding offered_in
    offered-other x y p = rw (record_is, q, ← we, ne_eqb w (length new) y) p

pub ruleset offered_cases = (offered-bad, offered-good, offered-other)

-- ---- elements

one_form : (kind : ℕ) → kind < 5 → form_at kind ≡ one (kind_at kind)
unfolding form_at
one_form kind h = rw (lt-ltb kind 5 h)

many-form : (form : ℕ) → 5 ≤ form → form < 10 → form_at form ≡ many (kind_at (form - 5))
unfolding form_at
many-form form h k = rw (le-ltb form 5 h, lt-ltb form 10 k)

rest_all : (s : List ℕ) (i : ℕ) → i ≤ length s → take (length s - i) (drop i s) ≡ drop i s
rest_all s i h = let l = length-drop i s in take_all (length s - i) (drop i s) (omega arith)

elements-step : (k : Kind) (left : ℕ) (xs : List ℕ) (w : ℕ) → 0 < left → element_of k xs ≡ Ends w
    → elements_of k left xs ≡ w ∷ elements_of k (left - 1) (drop w xs)
unfolding elements_of
elements-step k zero xs w h e = absurd (omega arith)
elements-step k (suc m) xs w h e =
    let z : suc m - 1 ≡ m = omega arith in
    rw (e, z)

elements-stop : (k : Kind) (left : ℕ) (xs : List ℕ) (q : ℕ) → 0 < left → element_of k xs ≡ Broken q
    → elements_of k left xs ≡ []
unfolding elements_of
elements-stop k zero xs q h e = absurd (omega arith)
elements-stop k (suc m) xs q h e = rw e

module _ (kind : ℕ) (s : List ℕ) (n k i left : ℕ) (all : Verdict)
    (inv : pieces_at k n (elements_of (kind_at kind) left (drop i s)) ≡ all) where
  module _ (small : kind < 5) (h : i ≤ length s) (some : 0 < left) (r : Walk)
      (e : r ≡ value_of (form_at kind) (take (length s - i) (drop i s))) where
    walk_is : r ≡ element_of (kind_at kind) (drop i s)
    unfolding value_of
    walk_is = e ∙ ap₂ (λ (f : Form) (l : List ℕ). value_of f l) (one_form kind small) (rest_all s i h)

    pub elements-end : (q : ℕ) → r ≡ Broken q → clear ≡ all
    unfolding pieces_at
    elements-end q z =
        ap (pieces_at k n) (sym (elements-stop (kind_at kind) left (drop i s) q some (sym walk_is ∙ z))) ∙ inv

    module _ (w : ℕ) (z : r ≡ Ends w) (v : Verdict) (ve : v ≡ room_at k n w) where
      next-is : v then pieces_at (k + w) n (elements_of (kind_at kind) (left - 1) (drop (i + w) s)) ≡ all
      unfolding pieces_at
      next-is =
          let d = drop-drop w i s in
          rw (ve, ← d)
          (ap (pieces_at k n) (sym (elements-step (kind_at kind) left (drop i s) w some (sym walk_is ∙ z))) ∙ inv)

      pub elements-refused : (x : Refusal) → v ≡ Refused x → Refused x ≡ all
      elements-refused x y = rw y at next-is

      pub elements-next : v ≡ clear
          → pieces_at (k + w) n (elements_of (kind_at kind) (left - 1) (drop (i + w) s)) ≡ all
      elements-next y = rw y at next-is

      pub elements-fit : v ≡ clear → Fits w64 (k + w)
      elements-fit y = let l = (room_in_lem k n w (sym ve ∙ y)).limit in omega arith

      pub elements-within : i + w ≤ length s
      elements-within =
          let a = element-within (kind_at kind) (drop i s) w (sym walk_is ∙ z) in
          let b = length-drop i s in
          omega arith

      pub elements-in : length s < 2 ^ 64 → Fits w64 (i + w)
      elements-in l = let a = elements-within in omega arith

  pub elements-done : left ≤ 0 → clear ≡ all
  unfolding pieces_at elements_of
  elements-done h =
      let z : left ≡ 0 = omega arith in
      rw z at inv

pub ruleset element_cases = (elements-end, elements-refused, elements-next, elements-fit, elements-within, elements-done)

-- ---- a list, and a value

module _ (kind : ℕ) (v : List ℕ) (w n : ℕ) (r : Number) (e : r ≡ whole.number_of v) where
  pub list-none : r ≡ NoNumber → clear ≡ pieces_at w n (pieces_of (many (kind_at kind)) v)
  unfolding pieces_of pieces_at
  list-none z = rw (← e, z)

  module _ (count k : ℕ) (z : r ≡ Some (count, k)) (x : Verdict) (xe : x ≡ room_at w n k) where
    pub list-within : k ≤ length v
    list-within = number-within r v count k z e

    list-is : x then pieces_at (w + k) n (elements_of (kind_at kind) count (drop k v))
        ≡ pieces_at w n (pieces_of (many (kind_at kind)) v)
    unfolding pieces_of pieces_at
    list-is = rw (xe, ← e, z)

    pub list-refused : (y : Refusal) → x ≡ Refused y → Refused y ≡ pieces_at w n (pieces_of (many (kind_at kind)) v)
    list-refused y q = rw q at list-is

    pub list-fits : x ≡ clear → Fits w64 (w + k)
    list-fits q = let l = (room_in_lem w n k (sym xe ∙ q)).limit in omega arith

    pub list-next : x ≡ clear → (y : Verdict)
        → y ≡ pieces_at (w + k) n (elements_of (kind_at kind) count (take (length v - k) (drop k v)))
        → y ≡ pieces_at w n (pieces_of (many (kind_at kind)) v)
    list-next q y p =
        p ∙ ap (λ (l : List ℕ). pieces_at (w + k) n (elements_of (kind_at kind) count l)) (rest_all v k list-within)
        ∙ rw q at list-is

pub ruleset list_cases = (list-none, list-within, list-refused, list-fits, list-next)

module _ (form : ℕ) (v : List ℕ) (w n : ℕ) (x : Verdict) where
  pub value-one : form < 5 → x ≡ room_at w n (length v) → x ≡ pieces_at w n (pieces_of (form_at form) v)
  unfolding pieces_of pieces_at
  value-one h e = e ∙ sym (then-clear (room_at w n (length v))) ∙ rw (one_form form h)

  pub value-many : 5 ≤ form → form < 10 → x ≡ pieces_at w n (pieces_of (many (kind_at (form - 5))) v)
      → x ≡ pieces_at w n (pieces_of (form_at form) v)
  value-many h k e = e ∙ ap (λ (f : Form). pieces_at w n (pieces_of f v)) (sym (many-form form h k))

  pub column-given : 1 ≤ length v → x ≡ pieces_at w n (pieces_of (form_at form) v) → x ≡ column_given (form_at form) v w n
  unfolding column_given
  column-given h e = rw (ne_eqb (length v) 0 (omega arith)) e

pub value-unknown : (form : ℕ) (v : List ℕ) (w n : ℕ) → 5 ≤ form → 10 ≤ form
    → clear ≡ pieces_at w n (pieces_of (form_at form) v)
unfolding pieces_of pieces_at form_at
value-unknown form v w n h k = rw (le-ltb form 5 h, le-ltb form 10 k)

pub column-none : (form : ℕ) (v : List ℕ) (w n : ℕ) → length v < 1 → clear ≡ column_given (form_at form) v w n
unfolding column_given
column-none form v w n h = let z : length v ≡ 0 = omega arith in rw (eq-eqb (length v) 0 z)

pub ruleset value_given = (value-one, value-many, value-unknown, column-none, column-given)

-- ---- the values of a record: column j, whose value stands at i

width-within : (p : List ℕ) (j : ℕ) (f : Form) (s : List ℕ) → width_of (step_of p j f s) ≤ length s
width-within p j f s = go (step_of p j f s) refl
  where
    go : (r : Walk) → step_of p j f s ≡ r → width_of r ≤ length s
    go (Ends w) e = step-within p j f s w e
    go (Broken q) e = omega arith

module _ (p : List ℕ) (j : ℕ) (f : Form) (s : List ℕ) (r : Walk) (e : r ≡ step_of p j f s) where
  pub column-long : (k : ℕ) → k ≡ result_unwrap_or r 0 → k ≡ width_of (step_of p j f s)
  column-long k z = rw (← e, z) (same r)
    where
      same : (r : Walk) → result_unwrap_or r 0 ≡ width_of r
      same (Ends w) = refl
      same (Broken q) = refl

  pub column-within : (k : ℕ) → k ≡ result_unwrap_or r 0 → k ≤ length s
  column-within k z = rw (column-long k z) (width-within p j f s)

pub column-broken : (p : List ℕ) (j : ℕ) (f : Form) (s : List ℕ) (r : Walk) (q : ℕ) → r ≡ step_of p j f s
    → r ≡ Broken q → 0 ≡ width_of (step_of p j f s)
column-broken p j f s r q e z = rw (← e, z)

pub ruleset column_cases = (column-long, column-within, column-broken)

pub part-to : (s : List ℕ) (i k : ℕ) → i ≤ length s → k ≤ length (take (length s - i) (drop i s)) → i + k ≤ length s
part-to s i k h l = let a = ap length (rest_all s i h) in let b = length-drop i s in omega arith

pub part_in : (s : List ℕ) (i k : ℕ) → i ≤ length s → k ≤ length (take (length s - i) (drop i s)) → length s < 2 ^ 64
    → Fits w64 (i + k)
part_in s i k h l m = let a = part-to s i k h l in omega arith

module _ (p s : List ℕ) (j f i w n k : ℕ) (l : i ≤ length s)
    (e : k ≡ width_of (step_of p j (form_at f) (take (length s - i) (drop i s)))) where
  long-is : k ≡ column_long j p f (drop i s)
  long-is = e ∙ ap (λ (x : List ℕ). width_of (step_of p j (form_at f) x)) (rest_all s i l)

  both-ways : (v : Verdict) → v ≡ column_given (form_at f) (take (i + k - i) (drop i s)) (w + i) n
      → answered v (i + k) ≡ next_given p j f s i w n
  unfolding next_given
  both-ways v q =
      let a : i + k - i ≡ k = omega arith in
      rw (q, a, long-is)

  module _ (v : Verdict) (q : v ≡ column_given (form_at f) (take (i + k - i) (drop i s)) (w + i) n) where
    pub next-refused : (r : Refusal) → v ≡ Refused r → Err r ≡ next_given p j f s i w n
    next-refused r z = ap (λ (x : Verdict). answered x (i + k)) (sym z) ∙ both-ways v q

    pub next-given : v ≡ clear → Ok (i + k) ≡ next_given p j f s i w n
    next-given z = ap (λ (x : Verdict). answered x (i + k)) (sym z) ∙ both-ways v q

pub ruleset next_cases = (part-to, part_in, next-refused, next-given)

module _ (p forms s : List ℕ) (w n i j : ℕ) (all : Verdict)
    (inv : head_from (drop j forms) j p (w + i) n (drop i s) ≡ all) where
  module _ (h : j < length forms) (g : Answer ℕ) (e : g ≡ next_given p j (get_or forms j 0) s i w n) where
    abbrev k : ℕ
    k = column_long j p (get_or forms j 0) (drop i s)

    abbrev given : Verdict
    given = column_given (form_at (get_or forms j 0)) (take k (drop i s)) (w + i) n

    given-is : g ≡ answered given (i + k)
    unfolding next_given
    given-is = e

    value-is : given then head_from (drop (j + 1) forms) (j + 1) p (w + (i + k)) n (drop (i + k) s) ≡ all
    unfolding head_from
    value-is =
        let b = drop-drop k i s in
        let c : w + i + k ≡ w + (i + k) = omega arith in
        rw (← b, ← c)
        (ap (λ (m : ℕ). given then head_from (drop (j + 1) forms) m p (w + i + k) n (drop k (drop i s))) (add-one j)
        ∙ ap (λ (x : List ℕ). head_from x j p (w + i) n (drop i s)) (sym (drop-next forms j h)) ∙ inv)

    pub values-refused : (x : Refusal) → g ≡ Err x → Refused x ≡ all
    values-refused x y = rw (answered-refused given (i + k) x (sym given-is ∙ y)) at value-is

    pub values-next : (m : ℕ) → g ≡ Ok m → head_from (drop (j + 1) forms) (j + 1) p (w + m) n (drop m s) ≡ all
    values-next m y =
        let a = answered-done given (i + k) m (sym given-is ∙ y) in
        rw (← a.1) (rw a.0 at value-is)

    pub values-within : (m : ℕ) → g ≡ Ok m → i ≤ length s → m ≤ length s
    values-within m y l =
        let a = answered-done given (i + k) m (sym given-is ∙ y) in
        let b = width-within p j (form_at (get_or forms j 0)) (drop i s) in
        let c = length-drop i s in
        let d = a.1 in
        omega arith

  pub values-done : length forms ≤ j → clear ≡ all
  unfolding head_from
  values-done h = rw (drop_of_length-le forms {i = j} h) at inv

pub values-start : (p forms s : List ℕ) (w n : ℕ)
    → head_from (drop 0 forms) 0 p (w + 0) n (drop 0 s) ≡ head_from forms 0 p w n s
values-start p forms s w n = ap (λ (m : ℕ). head_from forms 0 p m n s) (add-zero w)

pub ruleset values_given = (values-refused, values-next, values-within, values-done)

pub ruleset values_begun = (values-start)

-- ---- the whole

module _ (forms xs : List ℕ) (w n k : ℕ) (z : k ≡ room (length forms)) (v : Verdict) (e : v ≡ room_at w n (4 + k)) where
  pub head-refused : (r : Refusal) → v ≡ Refused r → Refused r ≡ head_given forms w n xs
  unfolding head_given
  head-refused r q = rw (← z, ← e, q)

  pub head-fits : v ≡ clear → w + (4 + k) ≤ most_octets
  head-fits q = (room_in_lem w n (4 + k) (sym e ∙ q)).limit

  pub head_in_lem : v ≡ clear → Fits w64 (w + (4 + k))
  head_in_lem q = let a = head-fits q in omega arith

  pub head-values : v ≡ clear → 4 + room (length forms) ≤ length xs → (x : Verdict)
      → x
      ≡ head_from forms 0 (take (4 + k - 4) (drop 4 xs)) (w + (4 + k)) n
      (take (length xs - (4 + k)) (drop (4 + k) xs))
      → x ≡ head_given forms w n xs
  unfolding head_given
  head-values q h x p =
      let a : 4 + k - 4 ≡ k = omega arith in
      rw (← z, ← e, q)
      (p ∙ ap₂ (λ (m : ℕ) (l : List ℕ). head_from forms 0 (take m (drop 4 xs)) (w + (4 + k)) n l) a
      (rest_all xs (4 + k) (omega arith)))

pub ruleset head_cases = (head-refused, head-fits, head_in_lem, head-values)
