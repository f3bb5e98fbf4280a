-- Where it is no call's turn, whatever was drafted: after the finish, and in a buffer that is shorter than what is
-- written, every call but begin is out of turn (document 01: "any call after the finish, a state's written length over
-- the buffer").
use Rattle.std.specs.Prelude.{ℕ, ◌<◌, ◌≡◌, false, List, length}
use Rattle.std.proofs.Common.{arith}
use Rattle.answers.specs.Numbers.{out_of_turn}
use Rattle.answers.specs.Verdict.{clear}
use Rattle.answers.specs.Verdict.{refused}
use Rattle.writing.specs.State.{sane_of, in_progress}
use Rattle.writing.specs.Column.{column_for}
use Rattle.writing.specs.Untaken.{ended-untaken, short-untaken, untaken-idle, untaken-within}
use Rattle.writing.specs.declared.Writing.{Writing}
use Rattle.framing.specs.Frame.{open_at, close_at, finish_at, finish_outcome}
use Rattle.giving.specs.Give.{give_at, element_at}
use Rattle.drafting.specs.Run.{Call, Open, Close, Give, Add, verdict_of}

-- a call and a finish that are both out of turn
abbrev pub NoTurn : Call → Writing → List ℕ → Type 0
NoTurn c st d = (verdict_of c st d ≡ refused out_of_turn 0) × (finish_at st (length d) ≡ refused out_of_turn 0)

module _ (st : Writing) (d : List ℕ) (e : sane_of st (length d) ≡ false) where
  no_finish : finish_at st (length d) ≡ refused out_of_turn 0
  unfolding finish_at
  no_finish = rw (untaken-idle st (length d) e)

  no_call : (c : Call) → verdict_of c st d ≡ refused out_of_turn 0
  unfolding open_at close_at give_at element_at column_for
  no_call Open = rw (untaken-idle st (length d) e)
  no_call Close = rw (untaken-within st (length d) e)
  no_call (Give t v) = rw (untaken-within st (length d) e)
  no_call (Add v) = rw (untaken-within st (length d) e)

-- a state that isn't in progress: `no_writing`, and every state after a finish
pub ended-no-turn : (st : Writing) → (st.stage ≡ in_progress → ⊥) → (c : Call) (d : List ℕ) → NoTurn c st d
ended-no-turn st h c d = let e = ended-untaken st (length d) h in (no_call st d e c, no_finish st d e)

-- an accepted finish ends the writing: after it any call, in any buffer, is out of turn
pub finished-no-turn : (st : Writing) (d : List ℕ) → finish_at st (length d) ≡ clear → (c : Call) (e : List ℕ)
    → NoTurn c (finish_outcome st d).state e
unfolding finish_outcome
finished-no-turn st d q c e = rw q (ended-no-turn _ (λ z. omega arith) c e)

-- a buffer that is shorter than what is written
pub shortened-no-turn : (st : Writing) (d : List ℕ) → length d < st.written → (c : Call) → NoTurn c st d
shortened-no-turn st d h c = let e = short-untaken st (length d) h in (no_call st d e c, no_finish st d e)
