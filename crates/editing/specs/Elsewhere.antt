-- What a correction leaves: both tables, every other record in the old order, every other column's entry of the named record.
use Rattle.std.specs.Prelude.{ℕ, ◌+◌, ◌≤◌, ◌<◌, ◌≡◌, length, get_or, take, set}
use Rattle.std.proofs.Common.{arith, ap, ◌∙◌, length-set, length-take-le, get_or-set_same, get_or-set_other}
use Rattle.std.proofs.Math.Path.{refl}
use Rattle.std.proofs.Math.Option.{Option}
use mathlib.Core.List.{List, [], ◌∷◌, ◌++◌}
use Rattle.std.proofs.Math.ListN.{drop, get_or-append}
use Rattle.std.proofs.Math.Seq.{get_or-take, get_or-drop, get_or-append-add}
use Rattle.entry.specs.Present.{Row}
use Rattle.book.specs.Book.{Book}
use Rattle.lookup.specs.Places.{row_at}
use Rattle.lookup.specs.declared.Which.{Which}
use Rattle.lookup.specs.declared.Which.TheVariants.{Header, Number}
use Rattle.editing.specs.Edit.{edit, edited-length, set-row}
use Rattle.editing.specs.Set.{headed}
use Rattle.editing.specs.Done.{set_to}
use Rattle.lookup.specs.Named.{There, columns_for, row_for}

-- ---- records replaced, put in or taken out

module _ (k m : ℕ) (news : List Row) (b : Book) where
  pub edit-columns : (w : Which) → columns_for (edit k m news b) w ≡ columns_for b w
  unfolding edit
  edit-columns Header = refl
  edit-columns (Number j) = refl

  pub edit-heads : (edit k m news b).heads ≡ b.heads
  unfolding edit
  edit-heads = refl

  pub edit-cols : (edit k m news b).cols ≡ b.cols
  unfolding edit
  edit-cols = refl

  pub edit-head : (edit k m news b).head ≡ b.head
  unfolding edit
  edit-head = refl

  pub edit-many : k + m ≤ length b.rows → length (edit k m news b).rows + m ≡ length b.rows + length news
  unfolding edit
  edit-many h = edited-length k m news b.rows h

  module _ (h : k + m ≤ length b.rows) where
    front : length (take k b.rows) ≡ k
    front = length-take-le k b.rows (omega arith)

    -- the records before k keep their numbers
    pub row_before : (j : ℕ) → j < k → row_at (edit k m news b) j ≡ row_at b j
    unfolding edit
    row_before j l = get_or-append (take k b.rows) (news ++ drop (k + m) b.rows) [] j (rw front l) ∙ get_or-take k b.rows j [] l

    pub there-before : (j : ℕ) → j < k → There (edit k m news b) (Number j)
    there-before j l = let n = edit-many h in omega arith

    -- those put in stand from k on
    pub row_new : (j : ℕ) → j < length news → row_at (edit k m news b) (k + j) ≡ get_or news j []
    unfolding edit
    row_new j l = rw front at (get_or-append-add (take k b.rows) (news ++ drop (k + m) b.rows) j []) ∙ get_or-append news (drop (k + m) b.rows) [] j l

    pub there-new : (j : ℕ) → j < length news → There (edit k m news b) (Number (k + j))
    there-new j l = let n = edit-many h in omega arith

    -- the records behind follow them
    pub row-behind : (j : ℕ) → row_at (edit k m news b) (k + (length news + j)) ≡ row_at b (k + m + j)
    unfolding edit
    row-behind j =
        rw front at (get_or-append-add (take k b.rows) (news ++ drop (k + m) b.rows) (length news + j) [])
        ∙ get_or-append-add news (drop (k + m) b.rows) j [] ∙ get_or-drop (k + m) b.rows j []

    pub there-behind : (j : ℕ) → k + m + j < length b.rows → There (edit k m news b) (Number (k + (length news + j)))
    there-behind j l = let n = edit-many h in omega arith

-- ---- a value set or cleared

pub set-columns : (which : Which) (c : ℕ) (e : Option (List ℕ)) (b : Book) (w : Which) → columns_for (set_to which c e b) w ≡ columns_for b w
unfolding edit headed
set-columns Header c e b Header = refl
set-columns Header c e b (Number j) = refl
set-columns (Number k) c e b w = edit-columns k 1 (set (row_at b k) c e ∷ []) b w

pub set-heads : (which : Which) (c : ℕ) (e : Option (List ℕ)) (b : Book) → (set_to which c e b).heads ≡ b.heads
unfolding edit headed
set-heads Header c e b = refl
set-heads (Number k) c e b = refl

pub set-cols : (which : Which) (c : ℕ) (e : Option (List ℕ)) (b : Book) → (set_to which c e b).cols ≡ b.cols
unfolding edit headed
set-cols Header c e b = refl
set-cols (Number k) c e b = refl

rows-set : (k : ℕ) (r : Row) (b : Book) → k < length b.rows → (edit k 1 (r ∷ []) b).rows ≡ set b.rows k r
unfolding edit
rows-set k r b h = set-row k r b.rows h

pub set-many : (which : Which) (c : ℕ) (e : Option (List ℕ)) (b : Book) → There b which → length (set_to which c e b).rows ≡ length b.rows
unfolding headed
set-many Header c e b h = refl
set-many (Number k) c e b h = ap length (rows-set k (set (row_at b k) c e) b h) ∙ length-set b.rows k (set (row_at b k) c e)

pub set_there : (which : Which) (c : ℕ) (e : Option (List ℕ)) (b : Book) → There b which → (w : Which) → There b w → There (set_to which c e b) w
unfolding headed
set_there Header c e b h Header l = tt
set_there Header c e b h (Number j) l = l
set_there (Number k) c e b h Header l = tt
set_there (Number k) c e b h (Number j) l = rw (set-many (Number k) c e b h) l

-- the named record has the entry, and every other column's as before
pub row_named : (which : Which) (c : ℕ) (e : Option (List ℕ)) (b : Book) → There b which → row_for (set_to which c e b) which ≡ set (row_for b which) c e
unfolding headed
row_named Header c e b h = refl
row_named (Number k) c e b h =
    let r : Row = set (row_at b k) c e in
    rw (rows-set k r b h) (get_or-set_same b.rows k r [] h)

-- every other record is as before
pub row_other : (which : Which) (c : ℕ) (e : Option (List ℕ)) (b : Book) → There b which → (w : Which) → (w ≡ which → ⊥) → row_for (set_to which c e b) w ≡ row_for b w
unfolding headed edit
row_other Header c e b h Header n = absurd (n refl)
row_other Header c e b h (Number j) n = refl
row_other (Number k) c e b h Header n = refl
row_other (Number k) c e b h (Number j) n =
    let r : Row = set (row_at b k) c e in
    ap (λ (l : List Row). get_or l j []) (rows-set k r b h) ∙ get_or-set_other b.rows k j r [] (λ z. n (ap Number z))
