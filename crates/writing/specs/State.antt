-- Whose turn it is (document 01, "Writing a book"; decisions 13 to 15): which states a call takes up within a buffer of n octets, and what a verdict on
-- a call makes of state and octets.
use Rattle.std.specs.Prelude.{Err, Ok, ℕ, ◌+◌, ◌-◌, ◌*◌, ◌≤◌, ◌<◌, ◌≡◌, refl, Bool, true, false, cond, ltb, leb, eqb}
use Rattle.std.proofs.Common.{arith, sym, ◌∙◌}
use borrow.Author.Tests.{lt-ltb, le-ltb, le-leb, lt-leb, eq-eqb, ne_eqb, ltb-false, leb-true, eqb-true, eqb-false}
use Rattle.answers.specs.Numbers.{breaks_rule, no_room, most_octets, most_columns, most_opened}
use Rattle.answers.specs.Verdict.{Verdict}
use Rattle.answers.specs.Verdict.{clear, Refused}
use Rattle.answers.specs.Verdict.{refused, ◌then◌, need, apart, unmet}
use Rattle.answers.specs.declared.Refusal.{Refusal}
use Rattle.presence.specs.Presence.{room}
use Rattle.writing.specs.declared.Writing.{Writing}
use Rattle.writing.specs.declared.Outcome.{Outcome}
use Rattle.octets.specs.Cases.{passed}

-- ---- what a verdict makes of a call

abbrev pub done_with : Writing → Outcome
done_with st = record { answer = Ok st.written; state = st }

-- a refused call leaves the state
abbrev pub refused_with : Refusal → Writing → Outcome
refused_with r st = record { answer = Err r; state = st }

abbrev pub settled : Verdict → Writing → Writing → Outcome
settled (Ok _) before behind = done_with behind
settled (Refused r) before behind = refused_with r before

-- ---- the states

-- the stages of a writing
abbrev pub in_progress : ℕ
in_progress = 0

abbrev pub finished_stage : ℕ
finished_stage = 1

-- where the tables end
abbrev pub tables_end : Writing → ℕ
tables_end st = 24 + 8 * (st.header + st.address)

-- the columns of the record that is opened as number k, the header record being number 1
abbrev pub columns_of : Writing → ℕ → ℕ
columns_of st k = cond (eqb k 1) st.header st.address

-- calls can leave it in a buffer of n octets, as far as its tables and its lengths go
unfoldable pub sane_of : Writing → ℕ → Bool
sane_of st n =
    cond (eqb st.stage in_progress)
    (cond (ltb n st.written) false
    (cond (ltb most_octets st.written) false
    (cond (ltb most_columns st.header) false
    (cond (ltb most_columns st.address) false
    (cond (ltb st.written (tables_end st)) false
    (cond (ltb most_opened st.opened) false true)))))) false

-- no record is open
unfoldable pub idle_of : Writing → ℕ → Bool
idle_of st n = cond (eqb st.start 0) (sane_of st n) false

-- a record of k columns is open, and stands behind the tables with its size and presence octets
unfoldable pub framed_of : Writing → ℕ → Bool
framed_of st k =
    cond (eqb st.start 0) false
    (cond (eqb st.opened 0) false
    (cond (ltb st.start (tables_end st)) false
    (cond (ltb st.written st.start) false
    (cond (ltb (st.written - st.start) (4 + room k)) false
    (cond (ltb k st.next) false true)))))

unfoldable pub within_of : Writing → ℕ → Bool
within_of st n = cond (sane_of st n) (framed_of st (columns_of st st.opened)) false

-- k more octets behind the written ones: the limit, then the buffer of n octets
unfoldable pub room_at : ℕ → ℕ → ℕ → Verdict
room_at w n k =
    need (leb (w + k) most_octets) breaks_rule 0
    then need (leb (w + k) n) no_room 0

-- ---- what a state that is taken up keeps to

pub both_true : (t x : Bool) → cond t x false ≡ true → (t ≡ true) × (x ≡ true)
both_true true x e = (refl, e)
both_true false x e = absurd (let q : ◌≡◌ {A = ℕ} 0 1 = cc in omega arith)

pub record Roomy (w n k : ℕ) : Type 0 where
  pub limit : w + k ≤ most_octets
  pub buffer : w + k ≤ n

pub room_in_lem : (w n k : ℕ) → room_at w n k ≡ clear → Roomy w n k
unfolding room_at
room_in_lem w n k e =
    let c = apart (need (leb (w + k) most_octets) breaks_rule 0) _ e in
    record { limit = leb-true (w + k) most_octets (unmet _ breaks_rule 0 c.0); buffer = leb-true (w + k) n (unmet _ no_room 0 c.1) }

pub record Sane (st : Writing) (n : ℕ) : Type 0 where
  pub live : st.stage ≡ in_progress
  pub in_buffer : st.written ≤ n
  pub in-limit : st.written ≤ most_octets
  pub heads : st.header ≤ most_columns
  pub rows : st.address ≤ most_columns
  pub behind : 24 + 8 * (st.header + st.address) ≤ st.written
  pub records : st.opened ≤ most_opened

pub sane-in : (st : Writing) (n : ℕ) → sane_of st n ≡ true → Sane st n
unfolding sane_of
sane-in st n e =
    let p₁ = both_true (eqb st.stage in_progress) _ e in
    let p₂ = passed _ _ p₁.1 in
    let p₃ = passed _ _ p₂.1 in
    let p₄ = passed _ _ p₃.1 in
    let p₅ = passed _ _ p₄.1 in
    let p₆ = passed _ _ p₅.1 in
    let p₇ = passed _ true p₆.1 in
    record {
      live = eqb-true st.stage in_progress p₁.0;
      in_buffer = ltb-false _ _ p₂.0;
      in-limit = ltb-false _ _ p₃.0;
      heads = ltb-false _ _ p₄.0;
      rows = ltb-false _ _ p₅.0;
      behind = ltb-false _ _ p₆.0;
      records = ltb-false _ _ p₇.0;
    }

pub idle-in : (st : Writing) (n : ℕ) → idle_of st n ≡ true → Sane st n
unfolding idle_of
idle-in st n e = sane-in st n (both_true (eqb st.start 0) _ e).1

pub record Within (st : Writing) (n : ℕ) : Type 0 where
  pub sane : Sane st n
  pub columns : columns_of st st.opened ≤ most_columns
  pub started : tables_end st ≤ st.start
  pub framed : st.start + 4 + room (columns_of st st.opened) ≤ st.written
  pub reached : st.next ≤ columns_of st st.opened
  pub some : 1 ≤ st.opened

columns-small : (t : Bool) (h a : ℕ) → h ≤ most_columns → a ≤ most_columns → cond t h a ≤ most_columns
columns-small true h a p q = p
columns-small false h a p q = q

pub columns-in : (st : Writing) (n k : ℕ) → Sane st n → columns_of st k ≤ most_columns
columns-in st n k s = columns-small (eqb k 1) _ _ s.heads s.rows

pub within_in : (st : Writing) (n : ℕ) → within_of st n ≡ true → Within st n
unfolding within_of framed_of
within_in st n e =
    let s = both_true (sane_of st n) _ e in
    let p₁ = passed (eqb st.start 0) _ s.1 in
    let p₂ = passed _ _ p₁.1 in
    let p₃ = passed _ _ p₂.1 in
    let p₄ = passed _ _ p₃.1 in
    let p₅ = passed _ _ p₄.1 in
    let p₆ = passed _ true p₅.1 in
    let o : st.opened ≡ 0 → ⊥ = eqb-false _ _ p₂.0 in
    let b₄ : st.start ≤ st.written = ltb-false _ _ p₄.0 in
    let b₅ : 4 + room (columns_of st st.opened) ≤ st.written - st.start = ltb-false _ _ p₅.0 in
    record {
      sane = sane-in st n s.0;
      columns = columns-in st n st.opened (sane-in st n s.0);
      started = ltb-false _ _ p₃.0;
      framed = omega arith;
      reached = ltb-false _ _ p₆.0;
      some = omega arith;
    }

-- ---- the ways of the code

pub settle-done : (v : Verdict) (before behind : Writing) → v ≡ clear → done_with behind ≡ settled v before behind
settle-done v before behind e = rw e

pub settle-refused : (v : Verdict) (r : Refusal) (before behind : Writing) → v ≡ Refused r → refused_with r before ≡ settled v before behind
settle-refused v r before behind e = rw e

pub idle-none : (st : Writing) (n : ℕ) → st.start ≡ 0 → (b : Bool) → b ≡ sane_of st n → b ≡ idle_of st n
unfolding idle_of
idle-none st n e b q = rw (eq-eqb st.start 0 e) q

pub idle-open : (st : Writing) (n : ℕ) → (st.start ≡ 0 → ⊥) → false ≡ idle_of st n
unfolding idle_of
idle-open st n e = rw (ne_eqb st.start 0 e)

module _ (st : Writing) (n : ℕ) (s : Bool) (e : s ≡ sane_of st n) where
  pub within-no : s ≡ false → false ≡ within_of st n
  unfolding within_of
  within-no z = rw (← e, z)

  pub within_by : s ≡ true → (k : ℕ) (b : Bool) → k ≡ columns_of st st.opened → b ≡ framed_of st k → b ≡ within_of st n
  unfolding within_of
  within_by z k b q r = rw (← e, z, ← q) r

  pub within-asks : s ≡ true → (k : ℕ) → k ≡ columns_of st st.opened
      → (st.header ≤ most_columns) × (st.address ≤ most_columns) × (k ≤ most_columns)
  within-asks z k q =
      let a = sane-in st n (sym e ∙ z) in
      (a.heads, a.rows, rw q (columns-in st n st.opened a))

pub ruleset withins = (within-no, within_by)

module _ (w n k : ℕ) {v : Verdict} where
  pub room-past : most_octets < w → v ≡ refused breaks_rule 0 → v ≡ room_at w n k
  unfolding room_at
  room-past h e = rw (e, lt-leb (w + k) most_octets (omega arith))

  module _ (h : w ≤ most_octets) where
    pub room-over : most_octets - w < k → v ≡ refused breaks_rule 0 → v ≡ room_at w n k
    unfolding room_at
    room-over i e = rw (e, lt-leb (w + k) most_octets (omega arith))

    module _ (i : k ≤ most_octets - w) where
      pub room-short : n < w → v ≡ refused no_room 0 → v ≡ room_at w n k
      unfolding room_at
      room-short j e = rw (e, le-leb (w + k) most_octets (omega arith), lt-leb (w + k) n (omega arith))

      pub room-less : w ≤ n → n - w < k → v ≡ refused no_room 0 → v ≡ room_at w n k
      unfolding room_at
      room-less j l e = rw (e, le-leb (w + k) most_octets (omega arith), lt-leb (w + k) n (omega arith))

pub room-there : (w n k : ℕ) → w ≤ most_octets → k ≤ most_octets - w → w ≤ n → k ≤ n - w → clear ≡ room_at w n k
unfolding room_at
room-there w n k h i j l = rw (le-leb (w + k) most_octets (omega arith), le-leb (w + k) n (omega arith))

pub ruleset rooms = (room-past, room-over, room-short, room-less, room-there)

module _ (st : Writing) (k m : ℕ) (e : m ≡ room k) (a : st.start ≡ 0 → ⊥) (b : st.opened ≡ 0 → ⊥) (c : 24 + 8 * (st.header + st.address) ≤ st.start) (d : st.start ≤ st.written) where
  pub framed-short : st.written - st.start < 4 + m → false ≡ framed_of st k
  unfolding framed_of
  framed-short h = rw (← e, ne_eqb st.start 0 a, ne_eqb st.opened 0 b, le-ltb st.start (tables_end st) c, le-ltb st.written st.start d, lt-ltb (st.written - st.start) (4 + m) h)

  module _ (h : 4 + m ≤ st.written - st.start) where
    pub framed-passed : k < st.next → false ≡ framed_of st k
    unfolding framed_of
    framed-passed i =
        rw (← e, ne_eqb st.start 0 a, ne_eqb st.opened 0 b, le-ltb st.start (tables_end st) c, le-ltb st.written st.start d, le-ltb (st.written - st.start) (4 + m) h, lt-ltb k st.next i)

    pub framed-good : st.next ≤ k → true ≡ framed_of st k
    unfolding framed_of
    framed-good i =
        rw (← e, ne_eqb st.start 0 a, ne_eqb st.opened 0 b, le-ltb st.start (tables_end st) c, le-ltb st.written st.start d, le-ltb (st.written - st.start) (4 + m) h, le-ltb k st.next i)

pub ruleset frames = (framed-short, framed-passed, framed-good)

pub within-few : (st : Writing) (n : ℕ) (b : Bool) → b ≡ within_of st n → b ≡ true
    → (st.header ≤ most_columns) × (st.address ≤ most_columns)
within-few st n b e z = let w = within_in st n (sym e ∙ z) in (w.sane.heads, w.sane.rows)
