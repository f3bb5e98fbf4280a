-- Demand 3, a record inserted or deleted changes no other: both tables and the header record stand as before, the records before it keep their numbers,
-- those behind it have the next number or the one before; each has its octets, and a lookup in it hands back what it did.
use Rattle.std.specs.Prelude.{ℕ, ◌+◌, ◌-◌, ◌≤◌, ◌<◌, ◌≡◌, List, [], ◌∷◌, length, take}
use Rattle.std.proofs.Common.{add-zero, add-one, arith, sym, ap, ◌∙◌}
use Rattle.entry.specs.Present.{Row}
use Rattle.entry.specs.Record.{row_octets}
use Rattle.book.specs.Book.{Book, count_in}
use Rattle.lookup.specs.declared.Which.{Which}
use Rattle.lookup.specs.declared.Which.TheVariants.{Header, Number}
use Rattle.editing.specs.Edit.{edit}
use Rattle.lookup.specs.Named.{There, columns_for, row_for}
use Rattle.editing.specs.Elsewhere.{edit-heads, edit-cols, edit-head, edit-many, row_before, there-before, row_new, there-new, row-behind, there-behind}
use Rattle.correcting.specs.Correct.{insert_octets, delete_octets}
use Rattle.corrected.specs.Named.{count_of}
use Rattle.corrected.specs.Call.{Corrects}
use Rattle.corrected.specs.Insert.{InsertDone}
use Rattle.corrected.specs.Delete.{DeleteDone}
use Rattle.corrected.specs.Alike.{record_octets, record_is, meta_octets, Alike, meta-alike, alike}

-- ---- the a records from k on replaced by others

module _ (d : List ℕ) (len : ℕ) (o : List ℕ) (m : ℕ) (b : Book) (k a : ℕ) (news : List Row) (x : Corrects d len o m b (edit k a news b)) (within : k + a ≤ length b.rows) where
  abbrev c : Book
  c = edit k a news b

  abbrev old : List ℕ
  old = take len d

  abbrev new : List ℕ
  new = take m o

  meta-kept : meta_octets new ≡ meta_octets old
  meta-kept = meta-alike new old c b x.comes x.reads x.again x.sound (edit-heads k a news b) (edit-cols k a news b)

  count_kept : count_in new + a ≡ count_in old + length news
  count_kept =
      let n = count_of new c x.comes x.again in
      let l = count_of old b x.reads x.sound in
      let e = edit-many k a news b within in
      omega arith

  kept : (w v : Which) → There c w → There b v → columns_for c w ≡ columns_for b v → row_for c w ≡ row_for b v → Alike new w old v
  kept = alike new old c b x.comes x.reads x.again x.sound

  header-kept : Alike new Header old Header
  header-kept = kept Header Header tt tt (edit-heads k a news b) (edit-head k a news b)

  before-kept : (j : ℕ) → j < k → Alike new (Number j) old (Number j)
  before-kept j h = kept (Number j) (Number j) (there-before k a news b within j h) (omega arith) (edit-cols k a news b) (row_before k a news b within j h)

  behind-kept : (i j : ℕ) → k + a ≤ j → i + a ≡ j + length news → j < count_in old → Alike new (Number i) old (Number j)
  behind-kept i j h e l =
      let n : count_in old ≡ length b.rows = count_of old b x.reads x.sound in
      let p : k + a + (j - (k + a)) ≡ j = omega arith in
      let q : k + (length news + (j - (k + a))) ≡ i = omega arith in
      kept (Number i) (Number j) (rw q at (there-behind k a news b within (j - (k + a)) (omega arith))) (omega arith) (edit-cols k a news b)
      (rw (p, q) at (row-behind k a news b within (j - (k + a))))

  new-there : (j : ℕ) → j < length news → record_octets new (Number (k + j)) ≡ row_octets (row_for c (Number (k + j)))
  new-there j h = ap (λ (z : List ℕ). record_octets z (Number (k + j))) x.comes ∙ record_is c x.again (Number (k + j)) (there-new k a news b within j h)

-- ---- insert

module _ (d : List ℕ) (len k : ℕ) (offered : List ℕ) (m : ℕ) (x : InsertDone d len k offered m) where
  abbrev inserted : List ℕ
  inserted = insert_octets d len k offered

  behind-last : k + 0 ≤ length x.may.on.book.rows
  behind-last = rw add-zero x.may.within

  -- both tables are the old ones, octet for octet, unused flag bits too
  pub insert-meta : meta_octets (take m inserted) ≡ meta_octets (take len d)
  insert-meta = meta-kept d len inserted m x.may.on.book k 0 (x.may.row ∷ []) x.corrects behind-last

  -- one record more
  pub insert-count : count_in (take m inserted) ≡ count_in (take len d) + 1
  insert-count = let n = count_kept d len inserted m x.may.on.book k 0 (x.may.row ∷ []) x.corrects behind-last in omega arith

  -- the header record is as before
  pub insert-header : Alike (take m inserted) Header (take len d) Header
  insert-header = header-kept d len inserted m x.may.on.book k 0 (x.may.row ∷ []) x.corrects behind-last

  -- a record before the new one keeps its number
  pub insert-before : (j : ℕ) → j < k → Alike (take m inserted) (Number j) (take len d) (Number j)
  insert-before = before-kept d len inserted m x.may.on.book k 0 (x.may.row ∷ []) x.corrects behind-last

  -- a record behind it has the next number
  pub insert-behind : (j : ℕ) → k ≤ j → j < count_in (take len d) → Alike (take m inserted) (Number (j + 1)) (take len d) (Number j)
  insert-behind j h l = behind-kept d len inserted m x.may.on.book k 0 (x.may.row ∷ []) x.corrects behind-last (j + 1) j (omega arith) (omega arith) l

  -- record k is the one that was offered
  pub insert-there : record_octets (take m inserted) (Number k) ≡ offered
  insert-there =
      let z : k + 0 ≡ k = add-zero k in
      rw z at (new-there d len inserted m x.may.on.book k 0 (x.may.row ∷ []) x.corrects behind-last 0 (omega arith))
      ∙ ap row_octets (rw z at (row_new k 0 (x.may.row ∷ []) x.may.on.book behind-last 0 (omega arith))) ∙ sym x.may.offered

-- ---- delete

module _ (d : List ℕ) (len k m : ℕ) (x : DeleteDone d len k m) where
  abbrev deleted : List ℕ
  deleted = delete_octets d len k

  one-there : k + 1 ≤ length x.may.on.book.rows
  one-there = rw add-one x.may.within

  -- both tables are the old ones, octet for octet, unused flag bits too
  pub delete-meta : meta_octets (take m deleted) ≡ meta_octets (take len d)
  delete-meta = meta-kept d len deleted m x.may.on.book k 1 [] x.corrects one-there

  -- one record fewer
  pub delete-count : count_in (take m deleted) + 1 ≡ count_in (take len d)
  delete-count = let n = count_kept d len deleted m x.may.on.book k 1 [] x.corrects one-there in omega arith

  -- the header record is as before
  pub delete-header : Alike (take m deleted) Header (take len d) Header
  delete-header = header-kept d len deleted m x.may.on.book k 1 [] x.corrects one-there

  -- a record before the one taken out keeps its number
  pub delete-before : (j : ℕ) → j < k → Alike (take m deleted) (Number j) (take len d) (Number j)
  delete-before = before-kept d len deleted m x.may.on.book k 1 [] x.corrects one-there

  -- a record behind it has the number before
  pub delete-behind : (j : ℕ) → k < j → j < count_in (take len d) → Alike (take m deleted) (Number (j - 1)) (take len d) (Number j)
  delete-behind j h l = behind-kept d len deleted m x.may.on.book k 1 [] x.corrects one-there (j - 1) j (omega arith) (omega arith) l
