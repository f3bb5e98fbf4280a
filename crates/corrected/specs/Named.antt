-- What a call names and offers, read from the octets of a sound book: its records, its columns by whole tag, what their values may be.
use Rattle.std.specs.Prelude.{ℕ, ◌≡◌, refl, true, false, List, [], length, get_or, drop}
use Rattle.std.proofs.Common.{arith, sym, ap, ◌∙◌, append-nil, eqb-true, eq-eqb}
use Rattle.std.proofs.Math.Option.{Option, none, some}
use Rattle.octets.specs.Octets.{Octets}
use Rattle.answers.specs.Walk.{Walk}
use Rattle.answers.specs.Walk.{Ends, Broken}
use Rattle.answers.specs.Walk.{ends_at}
use Rattle.value.specs.Value.{value_of}
use Rattle.value.specs.Form.{value-back}
use Rattle.table.specs.Columns.{tags_of}
use Rattle.table.specs.Found.{Found}
use Rattle.table.specs.Found.{At, Nothing}
use Rattle.table.specs.Found.{is_found, column_of}
use Rattle.entry.specs.Record.{Slot, SoundEntry, no_slot}
use Rattle.book.specs.Book.{Book, Sound, book_octets, heads_in, cols_in, count_in}
use Rattle.book.specs.Whole.{heads-in, cols-in, body-in, count-in}
use Rattle.lookup.specs.Look.{column_in}
use Rattle.lookup.specs.declared.Which.{Which}
use Rattle.lookup.specs.declared.Which.TheVariants.{Header, Number}
use Rattle.editing.specs.Put.{slots_for}
use Rattle.editing.specs.Offered.{offered-value}
use Rattle.editing.specs.Done.{slots-in}
use Rattle.lookup.specs.Named.{columns_for, slots_under}
use Rattle.correcting.specs.Correct.{fits, losing, column_for, slot_for}

-- ---- the book's own

module _ (xs : List ℕ) (b : Book) (r : xs ≡ book_octets b) (s : Sound b) where
  pub count_of : count_in xs ≡ length b.rows
  count_of = ap count_in r ∙ count-in b s

  pub column-for : (which : Which) (t : ℕ) → column_for xs which t ≡ column_in t (tags_of (columns_for b which))
  column-for Header t = ap (λ (z : List ℕ). column_in t (tags_of (heads_in (drop 12 z)))) r ∙ rw (body-in b s, heads-in b s)
  column-for (Number k) t = ap (λ (z : List ℕ). column_in t (tags_of (cols_in (drop 12 z)))) r ∙ rw (body-in b s, cols-in b s)

  pub cols-of : cols_in (drop 12 xs) ≡ b.cols
  cols-of = ap (λ (z : List ℕ). cols_in (drop 12 z)) r ∙ ap cols_in (body-in b s) ∙ cols-in b s

  pub slot-for : (which : Which) (c : ℕ) → slot_for xs which c ≡ get_or (slots_under b which) c no_slot
  slot-for which c = ap (λ (z : List ℕ). get_or (slots_for z which) c no_slot) r ∙ ap (λ (l : List Slot). get_or l c no_slot) (slots-in b s which)

pub found-is : (f : Found) → is_found f ≡ true → f ≡ At (column_of f)
found-is (At c) h = refl
found-is Nothing h = let z : ◌≡◌ {A = ℕ} 0 1 = cc in absurd (omega arith)

-- ---- the value offered

-- what is offered is octets
abbrev pub Offers : Option (List ℕ) → Type 0
Offers none = Unit {0}
Offers (some v) = Octets v

-- it fits a column and takes no key away exactly when the column may hold it
pub entry-sound : (e : Option (List ℕ)) (s : Slot) → Offers e → fits e s ≡ true → losing e s ≡ false → SoundEntry s e
entry-sound none s o f l = l
entry-sound (some v) s o f l = (offered-value s.form v o (go (value_of s.form v) refl f), o)
  where
    go : (w : Walk) → value_of s.form v ≡ w → ends_at w (length v) ≡ true → value_of s.form v ≡ Ends (length v)
    go (Ends w) p h = p ∙ ap Ends (eqb-true w (length v) h)
    go (Broken q) p h = let z : ◌≡◌ {A = ℕ} 0 1 = cc in absurd (omega arith)

pub entry-fits : (e : Option (List ℕ)) (s : Slot) → SoundEntry s e → fits e s ≡ true
entry-fits none s h = refl
entry-fits (some v) s h =
    let w : value_of s.form v ≡ Ends (length v) = ap (value_of s.form) (sym (append-nil v)) ∙ value-back s.form v h.0 [] in
    ap (λ (z : Walk). ends_at z (length v)) w ∙ eq-eqb (length v) (length v) refl

pub entry-keeps : (e : Option (List ℕ)) (s : Slot) → SoundEntry s e → losing e s ≡ false
entry-keeps none s h = h
entry-keeps (some v) s h = refl
