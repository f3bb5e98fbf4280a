-- Whatever calls follow an accepted begin, the writing stands for the draft that the accepted calls spelled, and an
-- accepted finish leaves the octets of its book. Out of turn is answered exactly where it is not the call's turn.
use Rattle.std.specs.Prelude.{ℕ, ◌≡◌, false, List, [], ◌∷◌, length}
use Rattle.answers.specs.Numbers.{out_of_turn}
use Rattle.answers.specs.Verdict.{clear}
use Rattle.answers.specs.Verdict.{refused}
use Rattle.framing.specs.Frame.{finish_at, finish_octets}
use Rattle.begin.specs.Begin.{begin_at}
use Rattle.begin.specs.Taken.{Tags}
use Rattle.drafting.specs.Draft.{Draft, Stands}
use Rattle.drafting.specs.Lent.{AsLeft}
use Rattle.drafting.specs.Finish.{begin-keeps, Finished}
use Rattle.drafting.specs.Run.{Call, verdict_of}
use Rattle.drafting.specs.Run.{told, turn}
use Rattle.drafting.specs.Written.{out-of-turn, Stand, LentCall, HandedOn, AllFit, lent, after, run, last_lent, heard, spelled, one_kept, begun, drafted, book_of, finished}
use Rattle.drafting.proofs.Anew.{stands-anew}

-- the writing stands for the draft that the accepted calls spelled; what stands behind it is as the last buffer was
-- lent
pub all-kept : (ls : List LentCall) (s : Stand) (d₀ : List ℕ) (dr : Draft) → AllFit ls → HandedOn ls s
    → Stands s.state s.octets d₀ dr
    → Stands (run ls s).state (run ls s).octets (last_lent ls d₀) (spelled ls s dr)
all-kept [] s d₀ dr f h i = i
all-kept (l ∷ ls) s d₀ dr f h i =
    let s' : Stand = lent l.buffer s in
    let j = stands-anew s.state s.octets d₀ l.buffer h.0 dr dr.part i in
    all-kept ls (after l.call s') l.buffer
    (heard (verdict_of l.call s.state l.buffer) dr (told dr dr.part l.call)) f.1 h.1
    (one_kept l.call s' l.buffer dr f.0 j)

-- so 15 is answered exactly where it is not the call's turn, whatever came before and in whatever buffer
pub turn-kept : (ls : List LentCall) (s : Stand) (d₀ : List ℕ) (dr : Draft) → AllFit ls → HandedOn ls s
    → Stands s.state s.octets d₀ dr
    → (c : Call) (d : List ℕ) → AsLeft (run ls s).state (run ls s).octets d
    → let end : Draft = spelled ls s dr in
    (verdict_of c (run ls s).state d ≡ refused out_of_turn 0 → turn end end.part c ≡ false)
    × (turn end end.part c ≡ false → verdict_of c (run ls s).state d ≡ refused out_of_turn 0)
turn-kept ls s d₀ dr f h i c d a =
    let end : Draft = spelled ls s dr in
    out-of-turn c (run ls s).state d d end (stands-anew (run ls s).state (run ls s).octets (last_lent ls d₀) d a end
    end.part (all-kept ls s d₀ dr f h i))

-- From an accepted begin to an accepted finish, whatever calls come between: where each call, and the finish with its
-- buffer d, was handed the state and the written octets as the last one left them, d gets the book that the accepted
-- calls spelled, and behind it stays as it was lent.
pub written-book : (ht hf ts fs d₀ : List ℕ) (ls : List LentCall) (d : List ℕ) → Tags ht → Tags ts → AllFit ls
    → begin_at ht hf ts fs (length d₀) ≡ clear → HandedOn ls (begun ht hf ts fs d₀)
    → let s : Stand = run ls (begun ht hf ts fs d₀) in AsLeft s.state s.octets d
    → finish_at s.state (length d) ≡ clear
    → Finished s.state (finish_octets s.state d) d
    (book_of (spelled ls (begun ht hf ts fs d₀) (drafted ht hf ts fs)))
written-book ht hf ts fs d₀ ls d th ta f e h l q =
    let s : Stand = run ls (begun ht hf ts fs d₀) in
    let dr : Draft = spelled ls (begun ht hf ts fs d₀) (drafted ht hf ts fs) in
    let i = all-kept ls (begun ht hf ts fs d₀) d₀ (drafted ht hf ts fs) f h (begin-keeps ht hf ts fs d₀ th ta e) in
    finished s.state d d dr dr.part (stands-anew s.state s.octets (last_lent ls d₀) d l dr dr.part i) q
