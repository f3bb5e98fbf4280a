-- A refused call changes nothing: where the answer isn't 0, the length is 0 and every octet that was lent stays.
use Rattle.std.specs.Prelude.{ℕ, ◌≡◌, List, [], drop, replicate}
use Rattle.exporting.specs.Export.{sheet_at, export_at, length_answer, export_answer, export_octets}
use Rattle.importing.specs.From.{from_at, from_answer, from_octets}
use Rattle.face_reading.specs.Lent.{made_number, made_numbers}
use Rattle.face_reading.specs.Refused.{Stays, stays}

pub refused-sheet : (xs tags d : List ℕ) → Stays (export_answer xs tags d) d (export_octets xs tags d)
unfolding export_answer export_octets
refused-sheet xs tags d = stays (export_at xs tags d) _ d _

-- the call that only measures is lent no text
pub refused-length : (xs tags : List ℕ) → (made_number (length_answer xs tags) ≡ 0 → ⊥)
    → drop 1 (made_numbers (length_answer xs tags)) ≡ replicate 1 0
unfolding length_answer
refused-length xs tags z = (stays (sheet_at xs tags) _ [] [] z).0

pub refused-book : (text flags ht hf hrec d : List ℕ)
    → Stays (from_answer text flags ht hf hrec d) d (from_octets text flags ht hf hrec d)
unfolding from_answer from_octets
refused-book text flags ht hf hrec d = stays (from_at text flags ht hf hrec _) _ d _
