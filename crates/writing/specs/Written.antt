-- The octets written, or the refusal.
use Rattle.std.specs.Prelude.{ℕ}
use Rattle.answers.specs.Verdict.{Answer}

abbrev pub Written : Type 0
Written = Answer ℕ
