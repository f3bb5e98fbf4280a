-- Calls one after another in one buffer: the first refusal among them, and what they leave.
use Rattle.std.specs.Prelude.{ℕ, ◌≡◌, refl, List, [], ◌∷◌, ◌++◌, length}
use Rattle.std.proofs.Common.{ap, ◌∙◌}
use Rattle.answers.specs.Verdict.{Verdict}
use Rattle.answers.specs.Verdict.{clear}
use Rattle.answers.specs.Verdict.{◌then◌, apart, then-assoc, joins, then-clear}
use Rattle.framing.specs.Frame.{finish_at, finish_octets}
use Rattle.drafting.specs.Run.{Call, verdict_of}
use Rattle.drafting.specs.Written.{Stand, after, run, in_one}

abbrev pub calls_verdict : List Call → Stand → Verdict
calls_verdict [] s = clear
calls_verdict (c ∷ cs) s = verdict_of c s.state s.octets then calls_verdict cs (after c s)

abbrev pub calls_leave : List Call → Stand → Stand
calls_leave [] s = s
calls_leave (c ∷ cs) s = calls_leave cs (after c s)

-- so each is lent the buffer as the last one left it
pub leave-run : (cs : List Call) (s : Stand) → calls_leave cs s ≡ run (in_one cs s) s
leave-run [] s = refl
leave-run (c ∷ cs) s = leave-run cs (after c s)

calls-append : (cs ds : List Call) (s : Stand)
    → calls_verdict (cs ++ ds) s ≡ (calls_verdict cs s then calls_verdict ds (calls_leave cs s))
calls-append [] ds s = refl
calls-append (c ∷ cs) ds s =
    ap (λ (v : Verdict). verdict_of c s.state s.octets then v) (calls-append cs ds (after c s))
    ∙ then-assoc (verdict_of c s.state s.octets) (calls_verdict cs (after c s))
    (calls_verdict ds (calls_leave cs (after c s)))

leave-append : (cs ds : List Call) (s : Stand) → calls_leave (cs ++ ds) s ≡ calls_leave ds (calls_leave cs s)
leave-append [] ds s = refl
leave-append (c ∷ cs) ds s = leave-append cs ds (after c s)

-- ---- and the finish behind them

abbrev pub written_verdict : List Call → Stand → Verdict
written_verdict cs s =
    let t : Stand = calls_leave cs s in
    calls_verdict cs s then finish_at t.state (length t.octets)

abbrev pub written_octets : List Call → Stand → List ℕ
written_octets cs s = let t : Stand = calls_leave cs s in finish_octets t.state t.octets

-- ---- what calls answer

-- from s on v is the first refusal; where there is none, what is left is P
pub record Answers (cs : List Call) (v : Verdict) (P : Stand → Type 0) (s : Stand) : Type 0 where
  pub verdict : calls_verdict cs s ≡ v
  pub leaves : v ≡ clear → P (calls_leave cs s)

pub answers_one : (c : Call) (v : Verdict) (P : Stand → Type 0) (s : Stand) → verdict_of c s.state s.octets ≡ v
    → (v ≡ clear → P (after c s)) → Answers (c ∷ []) v P s
answers_one c v P s e f =
    record { verdict = then-clear (verdict_of c s.state s.octets) ∙ e; leaves = f }

pub answers-first : (c : Call) (cs : List Call) (v w : Verdict) (P : Stand → Type 0) (s : Stand)
    → verdict_of c s.state s.octets ≡ v → (v ≡ clear → Answers cs w P (after c s))
    → Answers (c ∷ cs) (v then w) P s
answers-first c cs v w P s e f =
    record {
      verdict = ap (λ (u : Verdict). u then calls_verdict cs (after c s)) e
          ∙ joins v (calls_verdict cs (after c s)) w (λ q. (f q).verdict);
      leaves = λ q. let a = apart v w q in (f a.0).leaves a.1;
    }

pub answers-append : (cs ds : List Call) (v w : Verdict) (P Q : Stand → Type 0) (s : Stand) → Answers cs v P s
    → ((t : Stand) → P t → Answers ds w Q t) → Answers (cs ++ ds) (v then w) Q s
answers-append cs ds v w P Q s a f =
    let t : Stand = calls_leave cs s in
    record {
      verdict = calls-append cs ds s ∙ ap (λ (u : Verdict). u then calls_verdict ds t) a.verdict
          ∙ joins v (calls_verdict ds t) w (λ q. (f t (a.leaves q)).verdict);
      leaves = λ q. let b = apart v w q in rw (leave-append cs ds s) ((f t (a.leaves b.0)).leaves b.1);
    }
