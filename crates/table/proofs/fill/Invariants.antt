use Rattle.std.proofs.Common.{length, drop, ◌+◌, ◌*◌, ◌-◌, ◌≤◌, ◌≡◌}
use Rattle.answers.specs.Padded.{padded}
use Rattle.table.specs.Columns.{tags_of, bits_of, forms_of, plain_at, read_to}
use Rattle.table.specs.Table.{columns_of}
use Rattle.table.proofs.fill.Given as goal

abbrev pub invariant-loop-i : goal.invariant-loop-i
invariant-loop-i l = (l.i ≤ l.n) × (l.at + 8 * l.i ≤ length l.book) × (l.columns.count ≡ l.i) × (l.columns.tags ≡ padded (tags_of (columns_of l.i (drop l.at l.book)))) × (l.columns.flags ≡ padded (bits_of (columns_of l.i (drop l.at l.book)))) × (l.columns.forms ≡ padded (forms_of (columns_of l.i (drop l.at l.book)))) × (plain_at (l.n - l.i) (l.at + 8 * l.i) (drop (l.at + 8 * l.i) l.book) ≡ plain_at l.n l.at (drop l.at l.book)) × (l.i + read_to (l.n - l.i) (l.at + 8 * l.i) (drop (l.at + 8 * l.i) l.book) ≡ read_to l.n l.at (drop l.at l.book))
