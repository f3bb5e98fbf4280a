-- Where the answer of `wt_why` isn't 0, every number behind the refusal's place is 0.
use Rattle.std.specs.Prelude.{Ok, Err, ◌≡◌, refl, drop, replicate}
use Rattle.reason.specs.Reply.{Reply}
use Rattle.face_reason.specs.Reasons.{reason_number, reason_numbers}

pub refused_why : (r : Reply) → (reason_number r ≡ 0 → ⊥) → drop 1 (reason_numbers r) ≡ replicate 3 0
refused_why (Ok x) z = absurd (z refl)
refused_why (Err s) z = refl
