-- The judgement's parts, in the published order: the header, the tables, the header record, the address records up to
-- the
-- book's end, the serial. A reader may stop behind the tables, or behind the header record; the judgement is those
-- parts,
-- then what follows (`judge-tables`, `judge-front`).
use Rattle.std.specs.Prelude.{Ok, ℕ, ◌+◌, ◌≡◌, refl, List, eqb, drop}
use Rattle.octets.specs.Word.{word_of}
use Rattle.serial.specs.Serial.{serial_of}
use Rattle.answers.specs.Numbers.{wrong_serial}
use Rattle.answers.specs.Verdict.{Verdict}
use Rattle.answers.specs.Verdict.{Refused}
use Rattle.answers.specs.Verdict.{◌then◌, need, then-assoc}
use Rattle.book.specs.Rows.{due_at, records_from}
use Rattle.book.specs.Book.{head_slots, row_slots, heads_in, cols_in, records_in, records_place, tables_at, all_at}
use Rattle.book.specs.Book.{body_at}
use Rattle.book.specs.Book.{count_in, header_at, judge}

-- where the address records start, and what stands there
abbrev pub first_place : List ℕ → ℕ
first_place xs = records_place (drop 12 xs) + word_of 4 (records_in (drop 12 xs))

unfoldable pub first_in : List ℕ → List ℕ
first_in xs = drop (word_of 4 (records_in (drop 12 xs))) (records_in (drop 12 xs))

-- ---- the parts

-- the header record, where it is due
abbrev pub head_at : List ℕ → Verdict
head_at xs = due_at (head_slots (heads_in (drop 12 xs))) (records_place (drop 12 xs)) (records_in (drop 12 xs))

abbrev pub records_at : List ℕ → Verdict
records_at xs = records_from (count_in xs) (row_slots (cols_in (drop 12 xs))) (first_place xs) (first_in xs)

abbrev pub serial_at : List ℕ → Verdict
serial_at xs = need (eqb (word_of 4 (drop 4 xs)) (serial_of (drop 12 xs))) wrong_serial 4

-- ---- as far as a reader goes

abbrev pub through_tables : List ℕ → Verdict
through_tables xs = header_at xs then tables_at (drop 12 xs)

unfoldable pub front_at : List ℕ → Verdict
front_at xs = header_at xs then tables_at (drop 12 xs) then head_at xs

abbrev pub behind_front : List ℕ → Verdict
behind_front xs = records_at xs then serial_at xs

-- ---- the whole book's refusals are these, in this order

pub judge-parts : (xs : List ℕ)
    → judge xs ≡ (header_at xs then tables_at (drop 12 xs) then head_at xs then records_at xs then serial_at xs)
unfolding judge body_at all_at first_in
judge-parts xs = go (header_at xs) (tables_at (drop 12 xs)) (head_at xs) (records_at xs) (serial_at xs)
  where
    go : (a b c d e : Verdict) → (a then ((b then (c then d)) then e)) ≡ (a then (b then (c then (d then e))))
    go (Refused r) b c d e = refl
    go (Ok _) (Refused r) c d e = refl
    go (Ok _) (Ok _) (Refused r) d e = refl
    go (Ok _) (Ok _) (Ok _) d e = refl

pub judge-tables : (xs : List ℕ) → judge xs ≡ (through_tables xs then head_at xs then behind_front xs)
judge-tables xs = rw (judge-parts xs) (then-assoc (header_at xs) (tables_at (drop 12 xs)) (head_at xs then behind_front xs))

pub judge-front : (xs : List ℕ) → judge xs ≡ (front_at xs then behind_front xs)
unfolding front_at
judge-front xs = rw (judge-parts xs) (go (header_at xs) (tables_at (drop 12 xs)) (head_at xs) (behind_front xs))
  where
    go : (a b c d : Verdict) → (a then (b then (c then d))) ≡ ((a then (b then c)) then d)
    go (Refused r) b c d = refl
    go (Ok _) (Refused r) c d = refl
    go (Ok _) (Ok _) c d = refl
