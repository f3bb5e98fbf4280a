-- A book laid down afresh: its front as begin writes it, the header record, the address records behind, then count and
-- serial. Parts that are laid down one behind the other and sealed are the book's octets (`book-laid`).
use Prim.Native.Nat.{ℕ, ◌+◌, ◌≤◌}
use native.Mathlib.Omega.{arith}
use Rattle.std.specs.Prelude.{◌≡◌, leb}
use Rattle.std.proofs.Math.Path.{ap, ap₂}
use Rattle.std.proofs.Common.{◌∙◌, le-leb}
use mathlib.Core.List.{List, ◌++◌, append_assoc}
use Rattle.std.proofs.Math.ListN.{length, length-append}
use Rattle.octets.specs.Splice.{stored, length-stored, stored-join}
use Rattle.answers.specs.Numbers.{no_room}
use Rattle.answers.specs.Verdict.{Verdict}
use Rattle.answers.specs.Verdict.{clear}
use Rattle.answers.specs.Verdict.{◌then◌, need, kept}
use Rattle.table.specs.Table.{Column, SoundTable}
use Rattle.table.specs.Columns.{tags_of, bits_of, tags-long, bits-long}
use Rattle.entry.specs.Record.{row_octets}
use Rattle.book.specs.Rows.{rows_octets}
use Rattle.book.specs.Book.{Book, sealed-length, tables_octets, body_octets, book_octets}
use Rattle.book.specs.Unused.{plainly}
use Rattle.book.specs.Sealed.{open_header, open-length, sealed_to, sealed_in, sealed-in, seal-front}
use Rattle.begin.specs.Begin.{start_size, begin_at, columns_from, start_octets}
use Rattle.begin.specs.Taken.{start-long, from_bits, begin-taken}

-- the front of a book: the header, its serial and its count open, the tables, and the header record hd
unfoldable pub front_of : List Column → List Column → List ℕ → List ℕ
front_of hs cs hd = start_octets hs cs ++ hd

-- begin's own refusals, then room for the header record, in a buffer of n octets
unfoldable pub lay_at : List ℕ → List ℕ → List ℕ → List ℕ → List ℕ → ℕ → Verdict
lay_at ht hf ts fs hd n =
    begin_at ht hf ts fs n then need (leb (start_size (length ht) (length ts) + length hd) n) no_room 0

unfoldable pub lay_octets : List ℕ → List ℕ → List ℕ → List ℕ → List ℕ → List ℕ → List ℕ
lay_octets ht hf ts fs hd d =
    kept (lay_at ht hf ts fs hd (length d)) d (stored d 0 (front_of (columns_from ht hf) (columns_from ts fs) hd))

-- ---- tables are laid down

pub front_long : (hs cs : List Column) (hd : List ℕ)
    → length (front_of hs cs hd) ≡ start_size (length hs) (length cs) + length hd
unfolding front_of
front_long hs cs hd = let n = start-long hs cs in length-append (start_octets hs cs) hd ∙ omega arith

-- what begin takes is laid down where there is room
pub lay-stored : (ht hf ts fs hd d : List ℕ) → begin_at ht hf ts fs (length d) ≡ clear
    → start_size (length ht) (length ts) + length hd ≤ length d
    → lay_octets ht hf ts fs hd d ≡ stored d 0 (front_of (columns_from ht hf) (columns_from ts fs) hd)
unfolding lay_octets lay_at
lay-stored ht hf ts fs hd d e l = rw (e, le-leb (start_size (length ht) (length ts) + length hd) (length d) l)

-- and begin takes sound tables, whatever flags are handed over with them
pub front-laid : (hs cs : List Column) (hf fs hd : List ℕ) → SoundTable hs → SoundTable cs → length hf ≡ length hs
    → length fs ≡ length cs → (d : List ℕ) → start_size (length hs) (length cs) + length hd ≤ length d
    → lay_octets (tags_of hs) hf (tags_of cs) fs hd d
    ≡ stored d 0 (front_of (columns_from (tags_of hs) hf) (columns_from (tags_of cs) fs) hd)
front-laid hs cs hf fs hd h k p q d l =
    let t : length (tags_of hs) ≡ length hs = tags-long hs in
    let u : length (tags_of cs) ≡ length cs = tags-long cs in
    let taken = begin-taken hs cs hf fs h k p q (length d) (omega arith) in
    lay-stored (tags_of hs) hf (tags_of cs) fs hd d taken (omega arith)

-- columns as they are read, with their two bits: the unused ones become zero
pub plain-laid : (hs cs : List Column) (hd : List ℕ) → SoundTable hs → SoundTable cs → (d : List ℕ)
    → start_size (length hs) (length cs) + length hd ≤ length d
    → lay_octets (tags_of hs) (bits_of hs) (tags_of cs) (bits_of cs) hd d ≡ stored d 0 (front_of (plainly hs) (plainly cs) hd)
plain-laid hs cs hd h k d l =
    front-laid hs cs (bits_of hs) (bits_of cs) hd h k (bits-long hs) (bits-long cs) d l ∙ rw (from_bits hs, from_bits cs)

-- ---- parts become the book

-- the front with the address records behind it is what the book has behind its header, and an open header
parts_are : (b : Book) → front_of b.heads b.cols (row_octets b.head) ++ rows_octets b.rows
    ≡ open_header (body_octets b)
unfolding front_of start_octets body_octets
parts_are b =
    ap open_header (append_assoc (tables_octets b.heads b.cols) (row_octets b.head) (rows_octets b.rows))

module _ (b : Book) (at : ℕ) (ae : at ≡ length (front_of b.heads b.cols (row_octets b.head))) where
  pub parts-long : length (book_octets b) ≡ at + length (rows_octets b.rows)
  unfolding book_octets
  parts-long =
      let rs : List ℕ = rows_octets b.rows in
      let l = length-append (front_of b.heads b.cols (row_octets b.head)) rs in
      let m : length (open_header (body_octets b)) ≡ 12 + length (body_octets b) = open-length (body_octets b) in
      let n = sealed-length (length b.rows) (body_octets b) in
      let e = ap length (parts_are b) in
      omega arith

  -- the front, the address records and the seal, each over what the last left
  pub book-laid : (d o p x : List ℕ) (end n : ℕ) → end ≡ at + length (rows_octets b.rows) → n ≡ length b.rows
      → end ≤ length d → o ≡ stored d 0 (front_of b.heads b.cols (row_octets b.head))
      → p ≡ stored o at (rows_octets b.rows) → x ≡ sealed_in p end n → x ≡ stored d 0 (book_octets b)
  unfolding book_octets
  book-laid d o p x end n ee ne h oe pe xe =
      let f : List ℕ = front_of b.heads b.cols (row_octets b.head) in
      let rs : List ℕ = rows_octets b.rows in
      let ys : List ℕ = body_octets b in
      let l = length-append f rs in
      let m = open-length ys in
      let g = ap length (parts_are b) in
      let v : p ≡ stored d 0 (open_header ys) =
      pe ∙ ap (λ (z : List ℕ). stored z at rs) oe ∙ stored-join d f rs 0 at (omega arith) (omega arith)
      ∙ ap (stored d 0) (parts_are b) in
      let w : length p ≡ length d = ap length v ∙ length-stored d 0 (open_header ys) in
      xe ∙ sealed-in p end n (omega arith) (omega arith) ∙ ap₂ (λ (z : List ℕ) (k : ℕ). sealed_to z end k) v ne
      ∙ seal-front ys d end (length b.rows) (omega arith) h
