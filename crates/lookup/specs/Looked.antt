-- What a lookup answers: where the value's encoding starts and ends in the book, or nothing where there is no value; or
-- the refusal. Where a record starts is answered alike, by one place.
use Rattle.std.specs.Prelude.{ℕ, ◌≡◌, Option, Some, None, Ok, Err}
use Rattle.std.proofs.Common.{ap}
use Rattle.answers.specs.Verdict.{Answer}

abbrev pub Span : Type 0
Span = Option (ℕ × ℕ)

abbrev pub Looked : Type 0
Looked = Answer Span

abbrev pub Placed : Type 0
Placed = Answer ℕ

abbrev start_or : ℕ → Looked → ℕ
start_or d (Ok (Some (s, e))) = s
start_or d (Ok None) = d
start_or d (Err r) = d

abbrev end_or : ℕ → Looked → ℕ
end_or d (Ok (Some (s, e))) = e
end_or d (Ok None) = d
end_or d (Err r) = d

-- a value stands at one place
pub same-look : {a b s e : ℕ} → ◌≡◌ {A = Looked} (Ok (Some (a, b))) (Ok (Some (s, e))) → (a ≡ s) × (b ≡ e)
same-look {a} {b} q = (ap (start_or a) q, ap (end_or b) q)
