-- A writing in progress as ten numbers: the refusal's place, then the nine fields of its state in their order.
use Rattle.std.specs.Prelude.{Ok, Err, ℕ, cond, List, [], ◌∷◌, ltb, get_or, set}
use Rattle.writing.specs.declared.Writing.{Writing}
use Rattle.writing.specs.declared.Outcome.{Outcome}
use Rattle.writing.specs.Written.{Written}

-- form and stage are octets: where either is more no call but begin takes the state up
unfoldable pub form_from : ℕ → ℕ
form_from form = cond (ltb 255 form) 0 form

unfoldable pub stage_from : ℕ → ℕ → ℕ
stage_from form stage = cond (ltb 255 form) 2 (cond (ltb 255 stage) 2 stage)

unfoldable pub state_of : List ℕ → Writing
state_of xs = record {
  written = get_or xs 1 0;
  header = get_or xs 2 0;
  address = get_or xs 3 0;
  opened = get_or xs 4 0;
  start = get_or xs 5 0;
  next = get_or xs 6 0;
  left = get_or xs 7 0;
  form = form_from (get_or xs 8 0);
  stage = stage_from (get_or xs 8 0) (get_or xs 9 0);
}

-- no place, then the nine fields
abbrev pub fields_of : Writing → List ℕ
fields_of s =
    0 ∷ s.written ∷ s.header ∷ s.address ∷ s.opened ∷ s.start ∷ s.next ∷ s.left ∷ s.form ∷ s.stage ∷ []

-- ---- a call on the numbers xs, whose outcome is o

abbrev pub written_number : Written → ℕ
written_number (Ok n) = 0
written_number (Err r) = r.number

unfoldable pub outcome_number : Outcome → ℕ
outcome_number o = written_number o.answer

-- a refusal changes the place alone
abbrev pub left_by : Written → List ℕ → Writing → List ℕ
left_by (Ok n) xs st = fields_of st
left_by (Err r) xs st = set xs 0 r.place

unfoldable pub state_left : List ℕ → Outcome → List ℕ
state_left xs o = left_by o.answer xs o.state
