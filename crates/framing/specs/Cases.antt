-- The ways of the code that opens, closes and finishes, on plain values.
use Rattle.std.specs.Prelude.{ℕ, zero, suc, ◌+◌, ◌-◌, ◌*◌, ◌≤◌, ◌<◌, ◌≡◌, Bool, true, false, cond, not, List, eqb, ltb, length, take, drop, replicate}
use native.Mathlib.Omega.{arith}
use Rattle.std.proofs.Math.Nat.{sub-zero}
use Rattle.std.proofs.Common.{sym, ◌∙◌}
use borrow.Author.Tests.{lt-ltb, le-ltb, eq-eqb, ne_eqb, ltb-true, eqb-true, eqb-false, not-true, not-false}
use Rattle.octets.specs.Octets.{rest_of}
use Rattle.octets.specs.Splice.{stored}
use Rattle.octets.specs.Word.{le_of, word_of}
use Rattle.answers.specs.Numbers.{out_of_turn, breaks_rule, most_octets, most_columns, most_opened}
use Rattle.answers.specs.Verdict.{Verdict}
use Rattle.answers.specs.Verdict.{clear, Refused}
use Rattle.answers.specs.Verdict.{refused, need, apart, unmet, kept}
use Rattle.answers.specs.declared.Refusal.{Refusal}
use Rattle.presence.specs.Presence.{room, is_set}
use Rattle.entry.specs.Slots.{key_bit}
use Rattle.writing.specs.State.{settled, columns_of, idle_of, within_of, room_at, Sane, idle-in}
use Rattle.writing.specs.State.{Within, within_in, Roomy, room_in_lem}
use Rattle.writing.specs.declared.Writing.{Writing}
use Rattle.writing.specs.declared.Outcome.{Outcome}
use Rattle.framing.specs.Frame.{open_size, open_at, open_next, open_outcome, open_octets, keys_from, close_at}
use Rattle.framing.specs.Frame.{close_next, close_outcome, close_octets, finish_at, finish_next, finish_outcome}
use Rattle.framing.specs.Frame.{finish_octets}
use Rattle.book.specs.Sealed.{sealed_to, sealed_in, sealed-in}

-- ---- a refused call, of any of them

pub refused-settled : (v : Verdict) (r : Refusal) (st next : Writing) (o : Outcome) → v ≡ Refused r → o ≡ settled v st st → o ≡ settled v st next
refused-settled v r st next o e q = rw e (rw e at q)

pub refused-kept : (v : Verdict) (r : Refusal) (d new : List ℕ) → v ≡ Refused r → d ≡ kept v d new
refused-kept v r d new e = rw e

-- ---- open

pub record Opens (st : Writing) (n : ℕ) : Type 0 where
  pub sane : Sane st n
  pub more : st.opened < most_opened
  pub roomy : Roomy st.written n (open_size st)

pub open_in : (st : Writing) (n : ℕ) → open_at st n ≡ clear → Opens st n
unfolding open_at
open_in st n e =
    let c₁ = apart (need (idle_of st n) out_of_turn 0) _ e in
    let c₂ = apart (need (ltb st.opened most_opened) breaks_rule 0) _ c₁.1 in
    record {
      sane = idle-in st n (unmet _ out_of_turn 0 c₁.0);
      more = ltb-true st.opened most_opened (unmet _ breaks_rule 0 c₂.0);
      roomy =
          room_in_lem st.written n (open_size st) c₂.1;
    }

module _ (st : Writing) (n : ℕ) (b : Bool) (e : b ≡ idle_of st n) (v : Verdict) where
  pub open_turn : b ≡ false → v ≡ refused out_of_turn 0 → v ≡ open_at st n
  unfolding open_at
  open_turn z q = rw (← e, z) q

  module _ (z : b ≡ true) where
    pub open-many : most_opened ≤ st.opened → v ≡ refused breaks_rule 0 → v ≡ open_at st n
    unfolding open_at
    open-many h q = rw (← e, z, le-ltb st.opened most_opened h) q

    pub open-room : st.opened < most_opened → (k : ℕ) → k ≡ open_size st → v ≡ room_at st.written n k → v ≡ open_at st n
    unfolding open_at
    open-room h k q r = rw (← e, z, lt-ltb st.opened most_opened h, ← q) r

pub ruleset opens = (open_turn, open-many, open-room)

-- what a state between records keeps to
pub idle-keeps : (st : Writing) (n : ℕ) (b : Bool) → b ≡ idle_of st n → b ≡ true
    → (st.header ≤ most_columns) × (st.address ≤ most_columns) × (st.opened ≤ most_opened)
idle-keeps st n b e z = let s = idle-in st n (sym e ∙ z) in (s.heads, s.rows, s.records)

pub open-keeps : (st : Writing) (n : ℕ) (v : Verdict) → v ≡ open_at st n → v ≡ clear
    → (st.header ≤ most_columns) × (st.address ≤ most_columns) × (st.opened ≤ most_opened)
open-keeps st n v e z = let o = open_in st n (sym e ∙ z) in (o.sane.heads, o.sane.rows, o.sane.records)

module _ (st : Writing) (d : List ℕ) (v : Verdict) (e : v ≡ open_at st (length d)) where
  pub open-refused : (r : Refusal) (o : Outcome) → v ≡ Refused r → o ≡ settled v st st → o ≡ open_outcome st d
  unfolding open_outcome
  open-refused r o z q = rw (← e) (refused-settled v r st (open_next st (open_size st)) o z q)

  pub open-left : (r : Refusal) → v ≡ Refused r → d ≡ open_octets st d
  unfolding open_octets
  open-left r z = rw (← e) (refused-kept v r d (stored d st.written (replicate (open_size st) 0)) z)

  module _ (z : v ≡ clear) (k : ℕ) (q : k ≡ open_size st) where
    pub open-fits : (st.written + k ≤ most_octets) × (st.opened ≤ most_opened)
    open-fits = let o = open_in st (length d) (sym e ∙ z) in (rw q o.roomy.limit, o.sane.records)

    pub open_done : (next : Writing) (o : Outcome) → next ≡ open_next st k → o ≡ settled v st next → o ≡ open_outcome st d
    unfolding open_outcome
    open_done next o p r = rw (← e, ← q, ← p) r

    pub open-put : (x : List ℕ) → x ≡ stored d st.written (replicate (st.written + k - st.written) 0) → x ≡ open_octets st d
    unfolding open_octets
    open-put x p =
        let a : st.written + k - st.written ≡ k = omega arith in
        rw (← e, z, ← q) (rw a at p)

-- ---- close

keys_step : (d : List ℕ) (flags : ℕ) (p : List ℕ) (m i : ℕ) → 0 < m
    → keys_from d flags p m i ≡ cond (cond (key_bit (word_of 4 (drop (flags + 8 * i) d))) (is_set p i) true) (keys_from d flags p (m - 1) (i + 1)) false
unfolding keys_from
keys_step d flags p zero i h = absurd (omega arith)
keys_step d flags p (suc m) i h = let e : suc m - 1 ≡ m = omega arith in rw e

pub keys-start : (d : List ℕ) (flags : ℕ) (p : List ℕ) (n : ℕ) → keys_from d flags p (n - 0) 0 ≡ keys_from d flags p n 0
keys-start d flags p n = rw (sub-zero n)

module _ (d : List ℕ) (flags : ℕ) (p : List ℕ) (n i : ℕ) (x : Bool) (inv : keys_from d flags p (n - i) i ≡ x) where
  pub keys-end : n ≤ i → true ≡ x
  unfolding keys_from
  keys-end h =
      let z : n - i ≡ 0 = omega arith in
      rw z at inv

  module _ (h : i < n) (w : ℕ) (b : Bool) (we : w ≡ word_of 4 (drop (flags + 8 * i) d)) (be : b ≡ cond (key_bit w) (is_set p i) true) where
    pub keys-absent : not b ≡ true → false ≡ x
    keys-absent y = rw (keys_step d flags p (n - i) i (omega arith), ← we, ← be, not-true b y) at inv

    pub keys-there : not b ≡ false → keys_from d flags p (n - (i + 1)) (i + 1) ≡ x
    keys-there y =
        let e : n - i - 1 ≡ n - (i + 1) = omega arith in
        rw (keys_step d flags p (n - i) i (omega arith), ← we, ← be, not-false b y, e) at inv

pub ruleset keys = (keys-start, keys-end, keys-absent, keys-there)

pub record Closes (st : Writing) (d : List ℕ) : Type 0 where
  pub within : Within st (length d)
  pub whole : st.left ≡ 0

pub close-in : (st : Writing) (d : List ℕ) → close_at st d ≡ clear → Closes st d
unfolding close_at
close-in st d e =
    let c₁ = apart (need (within_of st (length d)) out_of_turn 0) _ e in
    let c₂ = apart (need (eqb st.left 0) out_of_turn 0) _ c₁.1 in
    record { within = within_in st (length d) (unmet _ out_of_turn 0 c₁.0); whole = eqb-true st.left 0 (unmet _ out_of_turn 0 c₂.0) }

module _ (st : Writing) (d : List ℕ) (b : Bool) (e : b ≡ within_of st (length d)) where
  pub close-turn : (v : Verdict) → b ≡ false → v ≡ refused out_of_turn 0 → v ≡ close_at st d
  unfolding close_at
  close-turn v z q = rw (← e, z) q

  module _ (z : b ≡ true) where
    pub close-keeps : (st.start + 4 ≤ length d) × (st.header ≤ most_columns) × (st.address ≤ most_columns)
    close-keeps =
        let w = within_in st (length d) (sym e ∙ z) in
        let f = w.framed in
        let i = w.sane.in_buffer in
        (omega arith, w.sane.heads, w.sane.rows)

    pub close-list : (v : Verdict) → (st.left ≡ 0 → ⊥) → v ≡ refused out_of_turn 0 → v ≡ close_at st d
    unfolding close_at
    close-list v h q = rw (← e, z, ne_eqb st.left 0 h) q

    module _ (h : st.left ≡ 0) where
      pub close-head : st.opened ≡ 1 → clear ≡ close_at st d
      unfolding close_at
      close-head k = rw (← e, z, eq-eqb st.left 0 h, eq-eqb st.opened 1 k)

      module _ (k : st.opened ≡ 1 → ⊥) (t : Bool) (te : t ≡ keys_from d (28 + 8 * st.header) (take (length d - (st.start + 4)) (drop (st.start + 4) d)) st.address 0) where
        keys-are : keys_from d (28 + 8 * st.header) (drop (st.start + 4) d) st.address 0 ≡ t
        keys-are = rw (rest_of d (st.start + 4)) at (sym te)

        pub close-whole : t ≡ true → clear ≡ close_at st d
        unfolding close_at
        close-whole y = rw (← e, z, eq-eqb st.left 0 h, ne_eqb st.opened 1 k, keys-are, y)

        pub close-gap : (v : Verdict) → t ≡ false → v ≡ refused breaks_rule 0 → v ≡ close_at st d
        unfolding close_at
        close-gap v y q = rw (← e, z, eq-eqb st.left 0 h, ne_eqb st.opened 1 k, keys-are, y) q

pub ruleset closes = (close-turn, close-list, close-head, close-whole, close-gap)

module _ (st : Writing) (d : List ℕ) (v : Verdict) (e : v ≡ close_at st d) where
  pub close-refused : (r : Refusal) (o : Outcome) → v ≡ Refused r → o ≡ settled v st st → o ≡ close_outcome st d
  unfolding close_outcome
  close-refused r o z q = rw (← e) (refused-settled v r st (close_next st) o z q)

  pub close-left : (r : Refusal) → v ≡ Refused r → d ≡ close_octets st d
  unfolding close_octets
  close-left r z = rw (← e) (refused-kept v r d (stored d st.start (le_of 4 (st.written - st.start))) z)

  module _ (z : v ≡ clear) where
    pub close-starts : st.start ≤ st.written
    close-starts = let c = close-in st d (sym e ∙ z) in let f = c.within.framed in omega arith

    pub close-done : (next : Writing) (o : Outcome) → next ≡ close_next st → o ≡ settled v st next → o ≡ close_outcome st d
    unfolding close_outcome
    close-done next o p r = rw (← e, ← p) r

    pub close-put : (x : List ℕ) → x ≡ stored d st.start (le_of 4 (st.written - st.start)) → x ≡ close_octets st d
    unfolding close_octets
    close-put x p = rw (← e, z) p

-- ---- finish

pub record Finishes (st : Writing) (n : ℕ) : Type 0 where
  pub sane : Sane st n
  pub records : 2 ≤ st.opened

pub finish-in : (st : Writing) (n : ℕ) → finish_at st n ≡ clear → Finishes st n
unfolding finish_at
finish-in st n e =
    let c₁ = apart (need (idle_of st n) out_of_turn 0) _ e in
    let c₂ = apart (need (not (eqb st.opened 0)) out_of_turn 0) _ c₁.1 in
    let o₀ : st.opened ≡ 0 → ⊥ = eqb-false st.opened 0 (not-true _ (unmet _ out_of_turn 0 c₂.0)) in
    let o₁ : st.opened ≡ 1 → ⊥ = eqb-false st.opened 1 (not-true _ (unmet _ breaks_rule 0 c₂.1)) in
    record { sane = idle-in st n (unmet _ out_of_turn 0 c₁.0); records = omega arith }

module _ (st : Writing) (n : ℕ) (b : Bool) (e : b ≡ idle_of st n) where
  pub finish-turn : (v : Verdict) → b ≡ false → v ≡ refused out_of_turn 0 → v ≡ finish_at st n
  unfolding finish_at
  finish-turn v z q = rw (← e, z) q

  module _ (z : b ≡ true) where
    pub finish-none : (v : Verdict) → st.opened ≡ 0 → v ≡ refused out_of_turn 0 → v ≡ finish_at st n
    unfolding finish_at
    finish-none v h q = rw (← e, z, eq-eqb st.opened 0 h) q

    module _ (h : st.opened ≡ 0 → ⊥) where
      pub finish-head : (v : Verdict) → st.opened ≡ 1 → v ≡ refused breaks_rule 0 → v ≡ finish_at st n
      unfolding finish_at
      finish-head v k q = rw (← e, z, ne_eqb st.opened 0 h, eq-eqb st.opened 1 k) q

      pub finish-good : (st.opened ≡ 1 → ⊥) → clear ≡ finish_at st n
      unfolding finish_at
      finish-good k = rw (← e, z, ne_eqb st.opened 0 h, ne_eqb st.opened 1 k)

pub ruleset finishes = (finish-turn, finish-none, finish-head, finish-good)

module _ (st : Writing) (d : List ℕ) (v : Verdict) (e : v ≡ finish_at st (length d)) where
  pub finish-refused : (r : Refusal) (o : Outcome) → v ≡ Refused r → o ≡ settled v st st → o ≡ finish_outcome st d
  unfolding finish_outcome
  finish-refused r o z q = rw (← e) (refused-settled v r st (finish_next st) o z q)

  pub finish-left : (r : Refusal) → v ≡ Refused r → d ≡ finish_octets st d
  unfolding finish_octets
  finish-left r z = rw (← e) (refused-kept v r d (sealed_to d st.written (st.opened - 1)) z)

  module _ (z : v ≡ clear) where
    pub finish-keeps : (12 ≤ st.written) × (st.written ≤ length d) × (1 ≤ st.opened)
    finish-keeps =
        let f = finish-in st (length d) (sym e ∙ z) in
        let b = f.sane.behind in
        let r = f.records in
        (omega arith, f.sane.in_buffer, omega arith)

    pub finish-done : (next : Writing) (o : Outcome) → next ≡ finish_next st → o ≡ settled v st next → o ≡ finish_outcome st d
    unfolding finish_outcome
    finish-done next o p r = rw (← e, ← p) r

    pub finish-put : (x : List ℕ) → x ≡ sealed_in d st.written (st.opened - 1) → x ≡ finish_octets st d
    unfolding finish_octets
    finish-put x p =
        let k = finish-keeps in
        rw (← e, z) (p ∙ sealed-in d st.written (st.opened - 1) k.0 k.1)

-- ---- open_size

pub size_is : (st : Writing) (k m : ℕ) → k ≡ columns_of st (st.opened + 1) → m ≡ room k → 4 + m ≡ open_size st
size_is st k m e q = rw (← e, q)

pub size_few : (st : Writing) (k m : ℕ) → k ≡ columns_of st (st.opened + 1) → m ≡ room k → st.header ≤ most_columns
    → st.address ≤ most_columns → 4 + m ≤ 20
size_few st k m e q h a = let l = few (eqb (st.opened + 1) 1) in omega arith
  where
    few : (t : Bool) → cond t st.header st.address ≤ most_columns
    few true = h
    few false = a
