-- A field that was written is read back, whichever of its spellings stands there; so are a line and the lines of a
-- sheet. Assumes nothing.
use Prim.Native.Nat.{ℕ}
use Rattle.std.proofs.Common.{arith, sym, ap₂, ◌∙◌, eqb-true, ne_eqb}
use Rattle.std.proofs.Math.Decide.{ℕ_discrete}
use Rattle.std.specs.Prelude.{◌≡◌, Bool, not, cond, eqb}
use Rattle.std.proofs.Math.Path.{refl, ap}
use Rattle.std.proofs.Math.Bool.{true, false}
use mathlib.Core.List.{List, [], ◌∷◌, ◌++◌, append_assoc, append-nil}
use Rattle.std.proofs.Math.Seq.{append_snoc}
use Rattle.octets.specs.Cases.{taken}
use Rattle.entry.specs.Present.{Row}
use Rattle.entry.specs.Record.{unlike}
use Rattle.sheet.specs.Field.{quote, lf, is_mark, marked, doubled, quoted, spelt, content_of}
use Rattle.sheet.specs.Field.{fields_of, end_of, line_of, codes_of, tag_fields, lines_of, sheet_of}
use Rattle.sheet.specs.Marks.{mark-quote, mark-lf, no-mark, digits-plain, doubled-quote, doubled-other}
use Rattle.sheet.specs.Reading.{unquoted, content_in, lines_from, lines_in}

-- ---- a field

-- t is what the field f holds: f is t, where nothing in it is a mark, or t in quotes
pub data Spells (t : List ℕ) : List ℕ → Type 0 where
  plainly : {f : List ℕ} → f ≡ t → marked t ≡ false → Spells t f
  in_quotes : {f : List ℕ} → f ≡ quoted t → Spells t f

pub spelt-spells : (t : List ℕ) → Spells t (spelt t)
unfolding spelt
spelt-spells t = go (marked t) refl
  where
    go : (b : Bool) → marked t ≡ b → Spells t (cond b (quoted t) t)
    go true e = in_quotes refl
    go false e = plainly refl e

unquoted-back : (t : List ℕ) → unquoted false (doubled t ++ (quote ∷ [])) ≡ t
unfolding unquoted doubled
unquoted-back [] = refl
unquoted-back (x ∷ t) = go (eqb x quote) refl (unquoted-back t)
  where
    go : (b : Bool) → eqb x quote ≡ b → unquoted false (doubled t ++ (quote ∷ [])) ≡ t
        → unquoted false ((cond b (quote ∷ quote ∷ []) (x ∷ []) ++ doubled t) ++ (quote ∷ [])) ≡ x ∷ t
    go true e ih = ap₂ (λ (y : ℕ) (l : List ℕ). y ∷ l) (sym (eqb-true x quote e)) ih
    go false e ih = rw (e, ih)

pub content-back : (t f : List ℕ) → Spells t f → content_in f ≡ t
unfolding content_in quoted marked is_mark
content-back t f (in_quotes e) = rw e (unquoted-back t)
content-back [] f (plainly e m) = rw e
content-back (x ∷ t) f (plainly e m) = rw e (go (eqb x quote) refl)
  where
    go : (b : Bool) → eqb x quote ≡ b → cond b (unquoted false t) (x ∷ t) ≡ x ∷ t
    go true p = let y = rw (eqb-true x quote p) at m in unlike (sym y)
    go false p = refl

-- ---- where it stands in a text

module _ (line : List (List ℕ)) where
  -- octets that are no marks go into the field
  plain-on : (x : ℕ) (f xs : List ℕ) → is_mark x ≡ false
      → lines_from false f line (x ∷ xs) ≡ lines_from false (f ++ (x ∷ [])) line xs
  unfolding lines_from
  plain-on x f xs p = rw (no-mark x quote p mark-quote, no-mark x lf p mark-lf, p)

  plain-read : (t f rest : List ℕ) → marked t ≡ false
      → lines_from false f line (t ++ rest) ≡ lines_from false (f ++ t) line rest
  unfolding marked
  plain-read [] f rest m = ap (λ (g : List ℕ). lines_from false g line rest) (sym (append-nil f))
  plain-read (x ∷ t) f rest m =
      taken (is_mark x) _ _ _ m (λ p q. unlike (sym q))
      (λ p q. plain-on x f (t ++ rest) p ∙ plain-read t (f ++ (x ∷ [])) rest q
      ∙ ap (λ (g : List ℕ). lines_from false g line rest) (append_snoc f x t))

  -- between quotes all octets do
  inner-on : (x : ℕ) (f xs : List ℕ) → (x ≡ quote → ⊥)
      → lines_from true f line (x ∷ xs) ≡ lines_from true (f ++ (x ∷ [])) line xs
  unfolding lines_from
  inner-on x f xs p = rw (ne_eqb x quote p)

  quote-on : (q : Bool) (f xs : List ℕ)
      → lines_from q f line (quote ∷ xs) ≡ lines_from (not q) (f ++ (quote ∷ [])) line xs
  unfolding lines_from
  quote-on q f xs = refl

  more : (q : Bool) (f g rest : List ℕ) → f ≡ g → lines_from q f line rest ≡ lines_from q g line rest
  more q f g rest e = ap (λ (h : List ℕ). lines_from q h line rest) e

  doubled-read : (t f rest : List ℕ)
      → lines_from true f line (doubled t ++ (quote ∷ rest))
      ≡ lines_from false (f ++ (doubled t ++ (quote ∷ []))) line rest
  unfolding doubled
  doubled-read [] f rest = quote-on true f rest
  doubled-read (x ∷ t) f rest =
      elim (ℕ_discrete x quote) [
        | yes e ↦
            let g : List ℕ = f ++ (quote ∷ []) in
            rw (doubled-quote x t e)
            (quote-on true f (quote ∷ (doubled t ++ (quote ∷ rest))) ∙ quote-on false g (doubled t ++ (quote ∷ rest))
            ∙ doubled-read t (g ++ (quote ∷ [])) rest
            ∙ more false _ _ rest
            (append_snoc g quote (doubled t ++ (quote ∷ []))
            ∙ append_snoc f quote (quote ∷ (doubled t ++ (quote ∷ [])))))
        | no e ↦
            rw (doubled-other x t e)
            (inner-on x f (doubled t ++ (quote ∷ rest)) e ∙ doubled-read t (f ++ (x ∷ [])) rest
            ∙ more false _ _ rest (append_snoc f x (doubled t ++ (quote ∷ []))))
      ]

  -- an end of a field: a comma or a CR
  end_read : {A : Type 0} (gs : List A) (f xs : List ℕ)
      → lines_from false f line (end_of gs ∷ xs) ≡ lines_from false [] (line ++ (content_in f ∷ [])) xs
  unfolding lines_from is_mark
  end_read [] f xs = refl
  end_read (g ∷ gs) f xs = refl

  pub field-read : {A : Type 0} (gs : List A) (t f rest : List ℕ) → Spells t f
      → lines_from false [] line (f ++ (end_of gs ∷ rest)) ≡ lines_from false [] (line ++ (t ∷ [])) rest
  unfolding quoted
  field-read gs t f rest s = go s ∙ end_read gs f rest
      ∙ ap (λ (u : List ℕ). lines_from false [] (line ++ (u ∷ [])) rest) (content-back t f s)
    where
      go : Spells t f → lines_from false [] line (f ++ (end_of gs ∷ rest)) ≡ lines_from false f line (end_of gs ∷ rest)
      go (plainly e m) = rw e (plain-read t [] (end_of gs ∷ rest) m)
      go (in_quotes e) =
          rw (e, append_snoc (doubled t) quote (end_of gs ∷ rest))
          (quote-on false [] (doubled t ++ (quote ∷ (end_of gs ∷ rest)))
          ∙ doubled-read t (quote ∷ []) (end_of gs ∷ rest))

-- ---- lines

-- what the fields of a line hold, and their spellings
abbrev pub AllSpelt : List (List ℕ) → List (List ℕ) → Type 0
AllSpelt [] [] = Unit {0}
AllSpelt [] (f ∷ fs) = ⊥
AllSpelt (t ∷ ts) [] = ⊥
AllSpelt (t ∷ ts) (f ∷ fs) = Spells t f × AllSpelt ts fs

pub line_read : (ts fs : List (List ℕ)) (line : List (List ℕ)) (rest : List ℕ) → AllSpelt ts fs
    → lines_from false [] line (line_of fs ++ rest) ≡ (line ++ ts) ∷ lines_from false [] [] rest
unfolding line_of lines_from
line_read [] [] line rest s = ap (λ (l : List (List ℕ)). l ∷ lines_from false [] [] rest) (sym (append-nil line))
line_read [] (f ∷ fs) line rest s = absurd s
line_read (t ∷ ts) [] line rest s = absurd s
line_read (t ∷ ts) (f ∷ fs) line rest s =
    ap (lines_from false [] line) (append_assoc f (end_of fs ∷ line_of fs) rest)
    ∙ field-read line fs t f (line_of fs ++ rest) s.0
    ∙ line_read ts fs (line ++ (t ∷ [])) rest s.1
    ∙ ap (λ (l : List (List ℕ)). l ∷ lines_from false [] [] rest) (append_snoc line t ts)

-- ---- a sheet

-- what the fields of a row hold, and of rows
abbrev pub contents_of : List ℕ → Row → List (List ℕ)
contents_of [] es = []
contents_of (c ∷ cs) [] = []
contents_of (c ∷ cs) (e ∷ es) = content_of c e ∷ contents_of cs es

abbrev pub held_by : List ℕ → List Row → List (List (List ℕ))
held_by codes [] = []
held_by codes (es ∷ rows) = contents_of codes es ∷ held_by codes rows

fields-spelt : (cs : List ℕ) (es : Row) → AllSpelt (contents_of cs es) (fields_of cs es)
fields-spelt [] es = tt
fields-spelt (c ∷ cs) [] = tt
fields-spelt (c ∷ cs) (e ∷ es) = (spelt-spells (content_of c e), fields-spelt cs es)

tags-spelt : (tags : List ℕ) → AllSpelt (tag_fields tags) (tag_fields tags)
tags-spelt [] = tt
tags-spelt (t ∷ tags) = (plainly refl (digits-plain 16 8 t (omega arith) (omega arith)), tags-spelt tags)

rows-read : (cs : List ℕ) (rows : List Row) → lines_from false [] [] (lines_of cs rows) ≡ held_by cs rows
unfolding lines_of lines_from
rows-read cs [] = refl
rows-read cs (es ∷ rows) =
    line_read (contents_of cs es) (fields_of cs es) [] (lines_of cs rows) (fields-spelt cs es)
    ∙ ap (λ (l : List (List (List ℕ))). contents_of cs es ∷ l) (rows-read cs rows)

-- the lines of a sheet, whatever its rows
pub sheet-read : (tags : List ℕ) (rows : List Row)
    → lines_in (sheet_of tags rows) ≡ tag_fields tags ∷ held_by (codes_of tags) rows
unfolding sheet_of lines_in
sheet-read tags rows =
    line_read (tag_fields tags) (tag_fields tags) [] (lines_of (codes_of tags) rows) (tags-spelt tags)
    ∙ ap (λ (l : List (List (List ℕ))). tag_fields tags ∷ l) (rows-read (codes_of tags) rows)
