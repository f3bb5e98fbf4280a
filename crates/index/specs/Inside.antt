-- For any pair of octets a stretch that is handed back lies in the book, and so does an entry.
use Rattle.std.specs.Prelude.{Some, Ok, ℕ, ◌<◌, ◌≡◌, refl, List, length, drop}
use Rattle.std.proofs.Common.{arith, ltb-true}
use Rattle.octets.specs.Octets.{Lies}
use Rattle.answers.specs.Numbers.{wrong_index}
use Rattle.answers.specs.Verdict.{Verdict}
use Rattle.answers.specs.Verdict.{clear, Refused}
use Rattle.answers.specs.Verdict.{◌then◌, apart, unmet}
use Rattle.table.specs.Columns.{tags_of}
use Rattle.entry.specs.Record.{Slot, record_at}
use Rattle.book.specs.Book.{row_slots, cols_in}
use Rattle.lookup.specs.Look.{seek_in, column_in, look_by}
use Rattle.lookup.specs.Placed.{place_by}
use Rattle.lookup.specs.Within.{column-lies, record-lies}
use Rattle.lookup.specs.Looked.{Looked}
use Rattle.index.specs.Index.{start_of, pair_at, entry_in, entry_of, record_look, indexed_of}

found-by : (v : Verdict) (l : Looked) (s e : ℕ) → look_by v l ≡ Ok (Some (s, e)) → l ≡ Ok (Some (s, e))
found-by (Ok _) l s e q = q
found-by (Refused r) l s e q = let z : ◌≡◌ {A = ℕ} 0 1 = cc in absurd (omega arith)

found-lies : (ss : List Slot) (xs : List ℕ) (at c s e : ℕ) → record_look ss xs at c ≡ Ok (Some (s, e))
    → Lies s e (length xs)
unfolding record_look
found-lies ss xs at c s e q =
    record-lies ss c at xs s e
    (found-by (entry_in xs at then record_at ss at (drop at xs)) (seek_in ss c at (drop at xs)) s e q)

pub indexed-inside : (xs ix : List ℕ) (k t s e : ℕ) → indexed_of xs ix k t ≡ Ok (Some (s, e)) → Lies s e (length xs)
unfolding indexed_of
indexed-inside xs ix k t s e q =
    column-lies (column_in t (tags_of (cols_in (drop 12 xs)))) _ s e (length xs) (found-by (pair_at xs ix k) _ s e q)
    (λ c z y. found-lies (row_slots (cols_in (drop 12 xs))) xs (start_of ix k) c s e y)

placed_by : (v : Verdict) (at p : ℕ) → place_by v (Ok at) ≡ Ok p → (v ≡ clear) × (at ≡ p)
placed_by (Ok _) at p q = (refl, cc)
placed_by (Refused r) at p q = let z : ◌≡◌ {A = ℕ} 0 1 = cc in absurd (omega arith)

pub entry-inside : (xs ix : List ℕ) (k p : ℕ) → entry_of xs ix k ≡ Ok p → p < length xs
unfolding entry_of
entry-inside xs ix k p q =
    let c = placed_by (pair_at xs ix k then entry_in xs (start_of ix k)) (start_of ix k) p q in
    let l = ltb-true (start_of ix k) (length xs) (unmet _ wrong_index 0 (apart (pair_at xs ix k) _ c.0).1) in
    let z = c.1 in
    omega arith
