-- Where a record is refused with 11 (document 02, request 109): good values of the first columns stand in front, and
-- the value that is due behind them is at fault at that place. `record-fault` says so of the one definition of judging.
use Rattle.std.specs.Prelude.{ℕ, suc, ◌+◌, ◌/◌, ◌≡◌, refl, Bool, true, false, cond, List, [], ◌∷◌, ◌++◌, eqb, leb, length, take, drop}
use Rattle.std.proofs.Common.{arith, sym, ap, ◌∙◌, append_assoc, length-append, drop_at}
use Rattle.std.proofs.Math.Option.{Option, none, some}
use Rattle.std.proofs.lemmas.Bool.{eqb-false}
use Rattle.octets.specs.Octets.{Octets, octets-drop, octets-take, octets-left}
use Rattle.octets.specs.Word.{word_of}
use Rattle.answers.specs.Numbers.{cut_short, wrong_size, spare_bit, key_absent, broken_value, octets_left}
use Rattle.answers.specs.Verdict.{Verdict}
use Rattle.answers.specs.Verdict.{clear}
use Rattle.answers.specs.Verdict.{refused, ◌then◌, need, place_of, no-clear, unmet, other-number, from-refusal, apart}
use Rattle.answers.specs.Walk.{Walk}
use Rattle.answers.specs.Walk.{Ends, Broken}
use Rattle.presence.specs.Presence.{room, is_set, spare_clear}
use Rattle.value.specs.Value.{value_of}
use Rattle.value.specs.Form.{value-sound, Stands}
use Rattle.value.specs.Fault.{Fault, value-fault}
use Rattle.entry.specs.Present.{Row, there, Bits}
use Rattle.entry.specs.Record.{Slot, walked, values_of, SoundEntry, SoundRow, key-free}
use Rattle.entry.specs.Record.{keys_at, values_at, present_in, values_in, record_at}
use Rattle.entry.specs.Values.{entry_octets, entry_first}

-- ys, which stands at at, starts with the values of a row of the first columns; the next column has its bit (bit i of p
-- is the first column's), and what is left is at fault as a value of it
pub record BadValue (ss : List Slot) (i : ℕ) (p : List ℕ) (at : ℕ) (ys : List ℕ) (place : ℕ) : Type 0 where
  pub front : List Slot
  pub slot : Slot
  pub behind : List Slot
  pub columns : ss ≡ front ++ (slot ∷ behind)
  pub row : Row
  pub sound : SoundRow front row
  pub bits : Bits p i row
  pub due : is_set p (i + length row) ≡ true
  pub left : List ℕ
  pub reads : ys ≡ values_of row ++ left
  pub inside : ℕ
  pub fault : Fault slot.form left inside
  pub points : place ≡ at + length (values_of row) + inside

-- a column in front, absent or with a good value
with-entry : (e : Option (List ℕ)) (s : Slot) (ss : List Slot) (i : ℕ) (p : List ℕ) (at to : ℕ) (ys zs : List ℕ)
    (place : ℕ) → SoundEntry s e → is_set p i ≡ there e → ys ≡ entry_octets e ++ zs → to ≡ at + length (entry_octets e)
    → BadValue ss (suc i) p to zs place → BadValue (s ∷ ss) i p at ys place
with-entry e s ss i p at to ys zs place h b q l r =
    let values : values_of (e ∷ r.row) ≡ entry_octets e ++ values_of r.row = entry_first e r.row in
    record {
      front = s ∷ r.front;
      slot = r.slot;
      behind = r.behind;
      columns = ap (λ (x : List Slot). s ∷ x) r.columns;
      row = e ∷ r.row;
      sound = (h, r.sound);
      bits = (b, r.bits);
      due = ap (is_set p) (omega arith) ∙ r.due;
      left = r.left;
      reads = rw (values, append_assoc) (q ∙ ap (λ (x : List ℕ). entry_octets e ++ x) r.reads);
      inside = r.inside;
      fault = r.fault;
      points = rw values (simp length-append (omega (arith, r.points)));
    }

from-walked : {X : Type 0} (r : Walk) (at : ℕ) (f : ℕ → Verdict) (place : ℕ)
    → walked r at f ≡ refused broken_value place → ((w : ℕ) → r ≡ Ends w → f w ≡ refused broken_value place → X)
    → ((q : ℕ) → r ≡ Broken q → at + q ≡ place → X) → X
from-walked (Ends w) at f place e g h = g w refl e
from-walked (Broken q) at f place e g h = h q refl (ap place_of e)

values-fault : (ss : List Slot) (i : ℕ) (p : List ℕ) (at to : ℕ) (ys : List ℕ) (place : ℕ) → Octets ys
    → keys_at ss i p to ≡ clear → values_at ss i p at ys ≡ refused broken_value place → BadValue ss i p at ys place
unfolding keys_at values_at
values-fault [] i p at to ys place o k e =
    absurd (eqb-false octets_left broken_value refl (other-number (eqb (length ys) 0) octets_left at broken_value place e))
values-fault (s ∷ ss) i p at to ys place o k e =
    let c = apart (need (cond s.must (is_set p i) true) key_absent (to + i / 8)) _ k in
    go (is_set p i) refl (unmet _ key_absent (to + i / 8) c.0) e
    (λ w. values-fault ss (suc i) p (at + w) to (drop w ys) place (octets-drop w ys o) c.1)
    (values-fault ss (suc i) p at to ys place o c.1)
  where
    Faulty : ℕ → List ℕ → Type 0
    Faulty at ys = values_at ss (suc i) p at ys ≡ refused broken_value place → BadValue ss (suc i) p at ys place

    here : (q : ℕ) → is_set p i ≡ true → value_of s.form ys ≡ Broken q → at + q ≡ place
        → BadValue (s ∷ ss) i p at ys place
    here q b r z = record {
      front = [];
      slot = s;
      behind = ss;
      columns = refl;
      row = [];
      sound = tt;
      bits = tt;
      due = ap (is_set p) (omega arith) ∙ b;
      left = ys;
      reads = refl;
      inside = q;
      fault = value-fault s.form ys o q r;
      points = omega arith;
    }

    past : (w : ℕ) → is_set p i ≡ true → Stands s.form ys w → BadValue ss (suc i) p (at + w) (drop w ys) place
        → BadValue (s ∷ ss) i p at ys place
    past w b t r =
        let tail : drop w ys ≡ t.rest = ap (drop w) t.reads ∙ drop_at t.value t.rest w (sym t.wide) in
        with-entry (some t.value) s ss i p at (at + w) ys (drop w ys) place
        (t.good, octets-left t.value t.rest (rw t.reads at o))
        b
        (rw tail t.reads)
        (omega (arith, t.wide))
        r

    go : (b : Bool) → is_set p i ≡ b → cond s.must (is_set p i) true ≡ true
        → cond b (walked (value_of s.form ys) at (λ w. values_at ss (suc i) p (at + w) (drop w ys)))
        (values_at ss (suc i) p at ys) ≡ refused broken_value place
        → ((w : ℕ) → Faulty (at + w) (drop w ys)) → Faulty at ys → BadValue (s ∷ ss) i p at ys place
    go true b m e f g =
        from-walked (value_of s.form ys) at _ place e (λ w r z. past w b (value-sound s.form ys o w r) (f w z))
        (λ q r z. here q b r z)
    go false b m e f g =
        with-entry none s ss i p at at ys ys place (key-free s.must (is_set p i) b m) b refl (omega arith) (g e)

keys-number : (ss : List Slot) (i : ℕ) (p : List ℕ) (at m q : ℕ) → keys_at ss i p at ≡ refused m q → key_absent ≡ m
unfolding keys_at
keys-number [] i p at m q e = no-clear (sym e)
keys-number (s ∷ ss) i p at m q e =
    let held : Bool = cond s.must (is_set p i) true in
    from-refusal (need held key_absent (at + i / 8)) _ _ e (λ z. other-number held key_absent (at + i / 8) m q z)
    (λ c z. keys-number ss (suc i) p at m q z)

-- a need of another number was met
behind : (b : Bool) (n p : ℕ) (v : Verdict) (place : ℕ) → eqb n broken_value ≡ false
    → need b n p then v ≡ refused broken_value place → v ≡ refused broken_value place
behind b n p v place h e =
    from-refusal (need b n p) v _ e
    (λ z. absurd (eqb-false n broken_value h (other-number b n p broken_value place z)))
    (λ c z. z)

pub record-fault : (ss : List Slot) (at : ℕ) (xs : List ℕ) (place : ℕ) → Octets xs
    → record_at ss at xs ≡ refused broken_value place
    → BadValue ss 0 (present_in (length ss) xs) (at + 4 + room (length ss)) (values_in (length ss) xs) place
unfolding record_at
record-fault ss at xs place o e =
    let n : ℕ = length ss in
    let w : ℕ = word_of 4 xs in
    let p : List ℕ = present_in n xs in
    let inside = octets-drop (4 + room n) (take w xs) (octets-take w xs o) in
    let e₁ = behind (leb 4 (length xs)) cut_short at _ place refl e in
    let e₂ = behind (leb (4 + room n) w) wrong_size at _ place refl e₁ in
    let e₃ = behind (leb w (length xs)) wrong_size at _ place refl e₂ in
    let e₄ = behind (spare_clear p n) spare_bit (at + 3 + room n) _ place refl e₃ in
    from-refusal (keys_at ss 0 p (at + 4)) _ _ e₄
    (λ z. absurd (eqb-false key_absent broken_value refl (keys-number ss 0 p (at + 4) broken_value place z)))
    (λ k z. values-fault ss 0 p _ (at + 4) (values_in n xs) place inside k z)
