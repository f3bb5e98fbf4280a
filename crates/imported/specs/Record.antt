-- A record by the writer's calls, in one buffer: opened, its values given, and closed. The first refusal is what the
-- table alone says, and where there is none the record is written.
use Prim.Native.Nat.{ℕ, ◌+◌, ◌*◌}
use Rattle.std.proofs.Common.{arith, ap, ◌∙◌}
use Rattle.std.specs.Prelude.{◌≡◌, Bool, true, false, cond, eqb, ltb, drop}
use Rattle.std.proofs.Math.Path.{refl, sym}
use mathlib.Core.List.{List, [], ◌∷◌, ◌++◌}
use Rattle.std.proofs.Math.ListN.{length}
use borrow.Author.Tests.{eq-eqb}
use Rattle.answers.specs.Numbers.{breaks_rule, most_opened}
use Rattle.answers.specs.Verdict.{Verdict}
use Rattle.answers.specs.Verdict.{clear}
use Rattle.answers.specs.Verdict.{◌then◌, need, unmet, then-assoc}
use Rattle.presence.specs.Presence.{room}
use Rattle.table.specs.Table.{Column}
use Rattle.table.specs.Columns.{tags_of}
use Rattle.entry.specs.Present.{Row}
use Rattle.entry.specs.Record.{Slot, SoundRow, freed, freed-long, row-long, unlike}
use Rattle.writing.specs.State.{room_at}
use Rattle.writing.specs.declared.Writing.{Writing}
use Rattle.framing.specs.Frame.{open_size, keys_from, open_at, open_outcome, close_at, close_outcome}
use Rattle.drafting.specs.Open.{blank_row}
use Rattle.drafting.specs.Start.{open_columns}
use Rattle.drafting.specs.Draft.{Part, open_slots, Between, Inside}
use Rattle.drafting.specs.Turns.{front_long, between-idle, inside-taken, columns-open}
use Rattle.drafting.specs.Gives.{fine-whole}
use Rattle.drafting.specs.Keeps.{slots-open, opening, open-keeps, close-sound, close-keeps}
use Rattle.drafting.specs.Run.{Call, Open, Close}
use Rattle.drafting.specs.Written.{Stand, after}
use Rattle.drafting.specs.Again.{record_calls, row_calls}
use Rattle.drafting.proofs.WrittenAgain.{close-clear}
use Rattle.importing.specs.Given.{row_pieces, pieces_at, keys_in, record_given}
use Rattle.importing.specs.Fitting.{keys-sound, keys-held}
use Rattle.imported.specs.Calls.{Answers, answers_one, answers-first, answers-append}
use Rattle.imported.specs.Row.{Has, row-brings}

-- the records that are closed, in the one buffer
abbrev pub Closed : List ℕ → List Column → List Column → List Row → Stand → Type 0
Closed d₀ hs cs rows s = Between s.state s.octets d₀ hs cs rows

module _ (d₀ : List ℕ) (hs cs : List Column) (rows : List Row) where
  abbrev k : ℕ
  k = length rows + 1

  abbrev ss : List Slot
  ss = open_slots hs cs k

  abbrev ts : List ℕ
  ts = tags_of (open_columns hs cs k)

  abbrev front : ℕ
  front = 4 + room (length ss)

  -- ---- the close

  module _ (st : Writing) (d : List ℕ) (p : Part) (i : Inside st d d₀ hs cs rows p) (z : p.due ≡ 0) where
    abbrev keyed : Bool
    keyed = cond (eqb st.opened 1) true (keys_from d (28 + 8 * st.header) (drop (st.start + 4) d) st.address 0)

    close-asks : close_at st d ≡ need keyed breaks_rule 0
    unfolding close_at
    close-asks = rw (inside-taken st d d₀ hs cs rows p i, eq-eqb st.left 0 (i.left ∙ z))

    keys-are : (b c : Bool) → close_at st d ≡ need b breaks_rule 0 → keys_in ss p.row ≡ c → b ≡ c
    keys-are true true e q = refl
    keys-are true false e q = sym (keys-held ss p.row (close-sound st d d₀ hs cs rows p i e)) ∙ q
    keys-are false true e q =
        let h = keys-sound ss p.row (fine-whole ss p st.form i.fine z) q in
        unlike (unmet false breaks_rule 0 (sym e ∙ close-clear 0 (omega arith) hs cs rows st d d₀ p i z h))
    keys-are false false e q = refl

    close-verdict : close_at st d ≡ need (keys_in ss p.row) breaks_rule 0
    close-verdict =
        close-asks ∙ ap (λ (b : Bool). need b breaks_rule 0) (keys-are keyed (keys_in ss p.row) close-asks refl)

  close-answers : (t : Stand) (es : Row) → Has d₀ hs cs rows es t
      → Answers (Close ∷ []) (need (keys_in ss es) breaks_rule 0) (Closed d₀ hs cs (rows ++ (es ∷ []))) t
  unfolding close_outcome
  close-answers t es y =
      let p : Part = record { row = es; next = y.next; due = 0 } in
      let v = close-verdict t.state t.octets p y.inside refl in
      answers_one Close (need (keys_in ss es) breaks_rule 0) (Closed d₀ hs cs (rows ++ (es ∷ []))) t v
      (λ q. let e : close_at t.state t.octets ≡ clear = v ∙ q in
      rw e (close-keeps t.state t.octets d₀ hs cs rows p y.inside e))

  -- ---- the open

  module _ (s : Stand) (i : Between s.state s.octets d₀ hs cs rows) where
    open-front : open_size s.state ≡ front
    open-front =
        let o : s.state.opened + 1 ≡ k = ap (λ (x : ℕ). x + 1) i.opened in
        ap (λ (x : ℕ). 4 + room x)
        (columns-open s.state hs cs (s.state.opened + 1) i.begun
        ∙ ap (λ (x : ℕ). length (open_columns hs cs x)) o ∙ sym (slots-open hs cs k))

    open-verdict : open_at s.state (length s.octets)
        ≡ (need (ltb (length rows) most_opened) breaks_rule 0 then room_at s.state.written (length d₀) front)
    unfolding open_at
    open-verdict =
        rw (
          between-idle s.state s.octets d₀ hs cs rows i,
          open-front,
          front_long i.front,
        )
        (ap (λ (m : ℕ). need (ltb m most_opened) breaks_rule 0 then room_at s.state.written (length d₀) front)
        i.opened)

    module _ (e : open_at s.state (length s.octets) ≡ clear) where
      open-inside : Inside (after Open s).state (after Open s).octets d₀ hs cs rows (opening hs cs rows)
      unfolding open_outcome
      open-inside = rw e (open-keeps s.state s.octets d₀ hs cs rows i e)

      open-written : (after Open s).state.written ≡ s.state.written + front
      unfolding open_outcome
      open-written = rw e (ap (λ (n : ℕ). s.state.written + n) open-front)

    -- ---- the whole record

    pub record-answers : (es : Row) (h : SoundRow (freed ss) es)
        → Answers (record_calls (freed ss) ts es h) (record_given ss s.state.written (length d₀) (length rows) es)
        (Closed d₀ hs cs (rows ++ (es ∷ []))) s
    unfolding record_given
    record-answers es h =
        let w : ℕ = s.state.written in
        let n : ℕ = length d₀ in
        let calls : List Call = row_calls (freed ss) ts 0 es h in
        let opens : Verdict = need (ltb (length rows) most_opened) breaks_rule 0 then room_at w n front in
        let gives : Verdict = pieces_at (w + front) n (row_pieces ss es) in
        let closes : Verdict = need (keys_in ss es) breaks_rule 0 in
        let P : Stand → Type 0 = Closed d₀ hs cs (rows ++ (es ∷ [])) in
        let wide : length (open_columns hs cs k) ≡ length es =
        sym (row-long (freed ss) es h ∙ freed-long ss ∙ slots-open hs cs k) in
        rw (then-assoc (need (ltb (length rows) most_opened) breaks_rule 0) (room_at w n front) (gives then closes))
        (answers-first Open (calls ++ (Close ∷ [])) opens (gives then closes) P s open-verdict
        (λ q. let e : open_at s.state (length s.octets) ≡ clear = open-verdict ∙ q in
        let t : Stand = after Open s in
        let a : Answers calls (pieces_at t.state.written n (row_pieces ss es)) (Has d₀ hs cs rows es) t =
        row-brings d₀ hs cs rows es h t (opening hs cs rows) (open-inside e) (ap blank_row wide) refl refl in
        answers-append calls (Close ∷ []) gives closes (Has d₀ hs cs rows es) P t (rw (open-written e) at a)
        (λ u y. close-answers u es y)))
