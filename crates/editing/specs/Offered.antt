-- What is offered for a book: octets that are one value of a form, or one record, to their last octet.
use Rattle.std.specs.Prelude.{ℕ, ◌≡◌, List, [], ◌++◌, length, drop}
use Rattle.std.proofs.Common.{arith, sym, ap, ◌∙◌, append-nil, length-append}
use Rattle.std.proofs.Math.Seq.{drop-length}
use Rattle.octets.specs.Octets.{Octets, no-octets}
use Rattle.octets.specs.Word.{word_of}
use Rattle.answers.specs.Verdict.{clear}
use Rattle.answers.specs.Walk.{Ends}
use Rattle.value.specs.Types.{Form}
use Rattle.value.specs.Value.{value_of}
use Rattle.value.specs.Form.{IsValue, value-sound}
use Rattle.entry.specs.Present.{Row, presence_of, presence-bits}
use Rattle.entry.specs.Record.{Slot, row_octets, SoundRow, record_at, keys_at, freed, freed-long, keyed-row, present_in, present-is, row-long, record-sound}

pub offered-value : (f : Form) (v : List ℕ) → Octets v → value_of f v ≡ Ends (length v) → IsValue f v
offered-value f v o e =
    let t = value-sound f v o (length v) e in
    let l = length-append t.value t.rest in
    let w = t.wide in
    let m = ap length t.reads in
    let z : t.rest ≡ [] = no-octets t.rest (omega arith) in
    rw (sym (t.reads ∙ ap (λ (l : List ℕ). t.value ++ l) z ∙ append-nil t.value)) at t.good

-- xs is one record
pub record Offered (ss : List Slot) (xs : List ℕ) : Type 0 where
  pub row : Row
  pub sound : SoundRow ss row
  pub reads : xs ≡ row_octets row

pub offered-record : (ss : List Slot) (xs : List ℕ) → Octets xs → record_at ss 0 xs ≡ clear → word_of 4 xs ≡ length xs → Offered ss xs
offered-record ss xs o e w =
    let r = record-sound ss 0 xs o e in
    record {
      row = r.row;
      sound = r.sound;
      reads = r.reads ∙ ap (λ (l : List ℕ). row_octets r.row ++ l) (ap (λ (n : ℕ). drop n xs) w ∙ drop-length xs) ∙ append-nil (row_octets r.row);
    }

-- a record by its values, and apart from that by its keys
pub offered-keyed : (ss : List Slot) (xs : List ℕ) → Octets xs → record_at (freed ss) 0 xs ≡ clear → word_of 4 xs ≡ length xs → keys_at ss 0 (present_in (length ss) xs) 4 ≡ clear → Offered ss xs
offered-keyed ss xs o e w k =
    let f = offered-record (freed ss) xs o e w in
    let es : Row = f.row in
    let n : length es ≡ length ss = row-long (freed ss) es f.sound ∙ freed-long ss in
    let p : present_in (length ss) xs ≡ presence_of es = ap (present_in (length ss)) (f.reads ∙ sym (append-nil (row_octets es))) ∙ present-is es [] (length ss) n in
    record { row = es; sound = keyed-row ss es 0 (presence_of es) 4 f.sound (presence-bits es) (rw p at k); reads = f.reads }
