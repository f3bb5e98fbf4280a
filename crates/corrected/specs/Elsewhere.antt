-- Demand 3, a value set or cleared changes nothing elsewhere: both tables stand as before, every other record has its octets, and a lookup in it hands back
-- what it did; in the named record every other column's value is the old one. Under the tag itself stands what was offered.
use Rattle.std.specs.Prelude.{ℕ, ◌≡◌, refl, true, List, get_or, take, set}
use Rattle.std.proofs.Common.{arith, sym, ap, ap₂, ◌∙◌, get_or-set_same, get_or-set_other}
use Rattle.std.proofs.Math.Option.{Option, none}
use Rattle.table.specs.Table.{Column}
use Rattle.table.specs.Columns.{tags_of}
use Rattle.table.specs.Found.{Found}
use Rattle.table.specs.Found.{At, Nothing}
use Rattle.entry.specs.Present.{Row}
use Rattle.entry.specs.Record.{row-long}
use Rattle.book.specs.Book.{Book, count_in}
use Rattle.lookup.specs.Look.{column_in, stretch_of}
use Rattle.lookup.specs.Laws.{column-in, column-tag}
use Rattle.lookup.specs.declared.Which.{Which}
use Rattle.editing.specs.Elsewhere.{set-columns, set-heads, set-cols, set-many, set_there, row_named, row_other}
use Rattle.editing.specs.Done.{set_to}
use Rattle.lookup.specs.Named.{There, columns_for, slots_under, slots-reach, row_for, row-sound, has_record, named_in}
use Rattle.correcting.specs.Correct.{set_octets}
use Rattle.corrected.specs.Named.{count_of}
use Rattle.corrected.specs.Set.{SetDone}
use Rattle.corrected.specs.Handed.{handed_of, octets_of, stretch-handed, entry_on, handed_in, row_handed, handed-is}
use Rattle.corrected.specs.Alike.{meta_octets, Alike, meta-alike, handed-alike, alike}

-- a column of another tag is another column
other-handed : (cs : List Column) (es : Row) (e : Option (List ℕ)) (t u c : ℕ) → column_in t (tags_of cs) ≡ At c → (u ≡ t → ⊥) → row_handed cs (set es c e) u ≡ row_handed cs es u
other-handed cs es e t u c q n = go (column_in u (tags_of cs)) refl
  where
    go : (f : Found) → column_in u (tags_of cs) ≡ f → handed_in f (set es c e) ≡ handed_in f es
    go Nothing z = refl
    go (At a) z =
        let y : a ≡ c → ⊥ = λ w. n (sym (column-tag u (tags_of cs) a z) ∙ ap (λ (i : ℕ). get_or (tags_of cs) i 0) w ∙ column-tag t (tags_of cs) c q) in
        ap entry_on (get_or-set_other es c a e none y)

module _ (d : List ℕ) (len : ℕ) (which : Which) (t : ℕ) (e : Option (List ℕ)) (m : ℕ) (x : SetDone d len which t e m) where
  abbrev b : Book
  b = x.may.on.book

  abbrev c : Book
  c = set_to which x.may.column e x.may.on.book

  abbrev old : List ℕ
  old = take len d

  abbrev new : List ℕ
  new = take m (set_octets d len which t e)

  -- both tables are the old ones, octet for octet, unused flag bits too
  pub set-meta : meta_octets new ≡ meta_octets old
  set-meta = meta-alike new old c b x.corrects.comes x.corrects.reads x.corrects.again x.corrects.sound (set-heads which x.may.column e b) (set-cols which x.may.column e b)

  -- as many records
  pub set-count : count_in new ≡ count_in old
  set-count = count_of new c x.corrects.comes x.corrects.again ∙ set-many which x.may.column e b x.may.named ∙ sym (count_of old b x.corrects.reads x.corrects.sound)

  -- every other record is as before, and so is every lookup in it
  pub set-elsewhere : (w : Which) → has_record old w ≡ true → (w ≡ which → ⊥) → Alike new w old w
  set-elsewhere w h n =
      let l : There b w = named_in old b (count_of old b x.corrects.reads x.corrects.sound) w h in
      alike new old c b x.corrects.comes x.corrects.reads x.corrects.again x.corrects.sound w w (set_there which x.may.column e b x.may.named w l) l
      (set-columns which x.may.column e b w) (row_other which x.may.column e b x.may.named w n)

  named_again : There c which
  named_again = set_there which x.may.column e b x.may.named which x.may.named

  -- in the named record a lookup with any other tag hands back what it did
  pub set-other-tag : (u : ℕ) → (u ≡ t → ⊥) → handed_of new which u ≡ handed_of old which u
  set-other-tag u n =
      handed-alike new old c b x.corrects.comes x.corrects.reads x.corrects.again x.corrects.sound which which u named_again x.may.named
      (ap₂ (λ (cs : List Column) (es : Row). row_handed cs es u) (set-columns which x.may.column e b which) (row_named which x.may.column e b x.may.named)
      ∙ other-handed (columns_for b which) (row_for b which) e t u x.may.column x.may.found n)

  -- so its stretch is the same octets
  pub set-other-stretch : (u : ℕ) → (u ≡ t → ⊥) → stretch_of new which u ≡ stretch_of old which u
  set-other-stretch u n = stretch-handed new which u ∙ ap octets_of (set-other-tag u n) ∙ sym (stretch-handed old which u)

  -- under the tag itself stands what was offered
  pub set_value : handed_of new which t ≡ entry_on e
  set_value =
      let l = row-long (slots_under b which) (row_for b which) (row-sound b x.corrects.sound which x.may.named) ∙ slots-reach b which in
      let h = column-in t (columns_for b which) x.may.column x.may.found in
      ap (λ (z : List ℕ). handed_of z which t) x.corrects.comes ∙ handed-is c x.corrects.again which t named_again
      ∙ ap₂ (λ (cs : List Column) (es : Row). row_handed cs es t) (set-columns which x.may.column e b which) (row_named which x.may.column e b x.may.named)
      ∙ ap (λ (f : Found). handed_in f (set (row_for b which) x.may.column e)) x.may.found
      ∙ ap entry_on (get_or-set_same (row_for b which) x.may.column e none (omega arith))
