-- The fields that the code goes over are those of a sheet: of a text that the scan takes, each line's row is the one
-- that the sheet holds, and the writer's calls for it are those of the table.
use Rattle.std.specs.Prelude.{ℕ, suc, ◌+◌, ◌-◌, ◌%◌, ◌≤◌, ◌≡◌, refl, Bool, true, false, not, cond, List, [], ◌∷◌, ◌++◌, eqb, ltb, length, take, drop}
use Rattle.std.proofs.Common.{zero-add, mod-eq_of_lt, arith, sym, ap, ap₂, ◌∙◌, inl, inr, append_assoc, length-append, take_at, drop_at, ne_eqb, ltb-true}
use Rattle.std.proofs.Math.Decide.{ℕ_discrete}
use Rattle.std.proofs.Math.Option.{Option, none, some}
use Rattle.std.proofs.Math.Seq.{append_snoc, drop-append_seam}
use Rattle.octets.specs.Cases.{taken}
use Rattle.answers.specs.Walk.{Ends, Broken}
use Rattle.whole.specs.Number.{encode_number}
use Rattle.entry.specs.Present.{Row}
use Rattle.entry.specs.Record.{unlike}
use Rattle.sheet.specs.Digits.{number_in}
use Rattle.sheet.specs.Field.{numbers, truths, codes_of, quote, is_mark, marked, doubled, quoted, end_of, tag_fields}
use Rattle.sheet.specs.Marks.{mark-quote, no-mark, doubled-quote, doubled-other}
use Rattle.sheet.specs.Reading.{content_in, lines_in, value_from, values_from, rows_from, rows_in}
use Rattle.sheet.specs.Back.{Spells, plainly, in_quotes, content-back, line_read}
use Rattle.scanning.specs.Scan.{fits, held, scan_in}
use Rattle.scanning.specs.Sheets.{IsLine, IsText, GoodLine, GoodText, lines_are}
use Rattle.scanning.specs.Exact.{text-taken, text-sound}
use Rattle.scanning.specs.First.{tags_to, head_in}
use Rattle.scanning.specs.FirstSound.{first-sound}
use Rattle.scanning.specs.Place.{place_is}
use Rattle.scanning.specs.Unfit.{refused-for}
use Rattle.importing.specs.Fields.{ends_by, inside_by, field_long, field_in, field_behind, laid_from, laid_row, line_long}

-- ---- how long a field is

on-quote : (q : Bool) (xs : List ℕ) → field_long q (quote ∷ xs) ≡ suc (field_long (not q) xs)
unfolding field_long ends_by inside_by
on-quote q xs = refl

on-plain : (x : ℕ) (xs : List ℕ) → is_mark x ≡ false → field_long false (x ∷ xs) ≡ suc (field_long false xs)
unfolding field_long ends_by inside_by
on-plain x xs p = rw (no-mark x quote p mark-quote, p)

on-inner : (x : ℕ) (xs : List ℕ) → (x ≡ quote → ⊥) → field_long true (x ∷ xs) ≡ suc (field_long true xs)
unfolding field_long ends_by inside_by
on-inner x xs p = rw (ne_eqb x quote p)

at-end : {A : Type 0} (gs : List A) (xs : List ℕ) → field_long false (end_of gs ∷ xs) ≡ 0
unfolding field_long ends_by is_mark
at-end [] xs = refl
at-end (g ∷ gs) xs = refl

plain-long : (t rest : List ℕ) → marked t ≡ false → field_long false (t ++ rest) ≡ length t + field_long false rest
unfolding marked
plain-long [] rest m = sym (zero-add (field_long false rest))
plain-long (x ∷ t) rest m =
    taken (is_mark x) _ _ _ m (λ p q. unlike (sym q))
    (λ p q. let ih = plain-long t rest q in let s = on-plain x (t ++ rest) p in omega arith)

doubled-long : (t rest : List ℕ)
    → field_long true (doubled t ++ (quote ∷ rest)) ≡ length (doubled t) + 1 + field_long false rest
unfolding doubled
doubled-long [] rest = on-quote true rest ∙ omega arith
doubled-long (x ∷ t) rest =
    let ih = doubled-long t rest in
    elim (ℕ_discrete x quote) [
      | yes e ↦
          let tail : List ℕ = doubled t ++ (quote ∷ rest) in
          let a = on-quote true (quote ∷ tail) in
          let b = on-quote false tail in
          rw (doubled-quote x t e) (omega arith)
      | no e ↦ let a = on-inner x (doubled t ++ (quote ∷ rest)) e in rw (doubled-other x t e) (omega arith)
    ]

field-long : {A : Type 0} (gs : List A) (t f rest : List ℕ) → Spells t f
    → field_long false (f ++ (end_of gs ∷ rest)) ≡ length f
unfolding quoted
field-long gs t f rest (plainly e m) =
    let a = plain-long t (end_of gs ∷ rest) m in
    let b = at-end gs rest in
    rw e (omega arith)
field-long gs t f rest (in_quotes e) =
    let a = on-quote false (doubled t ++ (quote ∷ (end_of gs ∷ rest))) in
    let b = doubled-long t (end_of gs ∷ rest) in
    let c = at-end gs rest in
    let l = length-append (doubled t) (quote ∷ []) in
    rw (e, append_snoc (doubled t) quote (end_of gs ∷ rest)) (omega arith)

-- ---- what is laid down is the value that the field says

pub laid-value : (code : ℕ) (t : List ℕ) → fits code t ≡ true → laid_from code t ≡ value_from code t
unfolding laid_from value_from fits
laid-value code [] h = refl
laid-value code (x ∷ t) h = go (eqb code numbers) _ h
  where
    go : (b y : Bool) → cond b (ltb (number_in (x ∷ t)) 4294967296) y ≡ true
        → cond (eqb (length (x ∷ t)) 0) none
        (some (cond b (encode_number (number_in (x ∷ t) % 4294967296))
        (cond (eqb code truths) ((x - 48) ∷ []) ((x ∷ t) ++ (0 ∷ [])))))
        ≡ cond (eqb (length (x ∷ t)) 0) none
        (some (cond b (encode_number (number_in (x ∷ t)))
        (cond (eqb code truths) ((x - 48) ∷ []) ((x ∷ t) ++ (0 ∷ [])))))
    go true y z = rw (mod-eq_of_lt (ltb-true (number_in (x ∷ t)) 4294967296 z))
    go false y z = refl

-- ---- a line

pub record LineLaid (cs : List ℕ) (ts : List (List ℕ)) (line rest : List ℕ) : Type 0 where
  pub row : laid_row cs (line ++ rest) ≡ values_from cs ts
  pub long : line_long cs (line ++ rest) ≡ length line

module _ (c : ℕ) (cs : List ℕ) (t f r : List ℕ) (s : Spells t f) where
  abbrev xs : List ℕ
  xs = f ++ (end_of cs ∷ r)

  long-is : field_long false xs ≡ length f
  long-is = field-long cs t f r s

  field_is_lem : field_in xs ≡ f
  field_is_lem = ap (λ (n : ℕ). take n xs) long-is ∙ take_at f (end_of cs ∷ r) (length f) refl

  behind-is : field_behind xs ≡ r
  behind-is =
      let l = length-append f (end_of cs ∷ []) in
      ap (λ (n : ℕ). drop (n + 1) xs) long-is
      ∙ ap (drop (length f + 1)) (sym (append_snoc f (end_of cs) r))
      ∙ drop_at (f ++ (end_of cs ∷ [])) r (length f + 1) (omega arith)

line-laid : (cs : List ℕ) (ts : List (List ℕ)) (line rest : List ℕ) → IsLine cs ts line → GoodLine fits cs ts
    → LineLaid cs ts line rest
line-laid [] [] line rest l g = record { row = refl; long = sym (ap length l) }
line-laid [] (t ∷ ts) line rest l g = absurd l
line-laid (c ∷ cs) [] line rest l g = absurd l
line-laid (c ∷ cs) (t ∷ ts) line rest l g =
    let f : List ℕ = l.field in
    let r : List ℕ = l.rest ++ rest in
    let q : line ++ rest ≡ f ++ (end_of cs ∷ r) =
    ap (λ (y : List ℕ). y ++ rest) l.reads ∙ append_assoc f (end_of cs ∷ l.rest) rest in
    let ih = line-laid cs ts l.rest rest l.goes g.1 in
    let a : laid_from c (content_in (field_in (f ++ (end_of cs ∷ r)))) ≡ value_from c t =
    ap (λ (y : List ℕ). laid_from c (content_in y)) (field_is_lem c cs t f r l.spelt)
    ∙ ap (laid_from c) (content-back t f l.spelt) ∙ laid-value c t g.0 in
    let b = behind-is c cs t f r l.spelt in
    let n = long-is c cs t f r l.spelt in
    let m : length line ≡ length f + 1 + length l.rest =
    ap length l.reads ∙ length-append f (end_of cs ∷ l.rest) ∙ omega arith in
    let k : line_long cs (field_behind (f ++ (end_of cs ∷ r))) ≡ length l.rest = ap (line_long cs) b ∙ ih.long in
    record {
      row = ap (laid_row (c ∷ cs)) q
          ∙ ap₂ (λ (e : Option (List ℕ)) (es : Row). e ∷ es) a (ap (laid_row cs) b ∙ ih.row);
      long = ap (line_long (c ∷ cs)) q ∙ omega arith;
    }

-- ---- the lines

-- the scan takes all of a text
abbrev pub Taken : List ℕ → List ℕ → Type 0
Taken codes xs = scan_in (held fits) codes xs ≡ Ends (length xs)

-- the rows of its lines
unfoldable pub rows_of : List ℕ → List ℕ → List Row
rows_of codes xs = rows_from codes (lines_in xs)

pub record NextLine (codes xs : List ℕ) : Type 0 where
  pub some : 1 ≤ line_long codes xs
  pub within : line_long codes xs ≤ length xs
  pub rows : rows_of codes xs ≡ laid_row codes xs ∷ rows_of codes (drop (line_long codes xs) xs)
  pub taken : Taken codes (drop (line_long codes xs) xs)

line-some : (cs xs : List ℕ) → 1 ≤ line_long cs xs
line-some [] xs = omega arith
line-some (c ∷ cs) xs = omega arith

text-next : (codes xs : List ℕ) (rows : List (List (List ℕ))) → IsText codes rows xs → GoodText fits codes rows
    → 1 ≤ length xs → NextLine codes xs
unfolding rows_of
text-next codes xs [] t g h = absurd (let z = ap length t in omega arith)
text-next codes xs (ts ∷ rows) t g h =
    let p : xs ≡ t.line ++ t.rest = t.reads in
    let l = line-laid codes ts t.line t.rest t.fields g.0 in
    let n : line_long codes xs ≡ length t.line = ap (line_long codes) p ∙ l.long in
    let d : drop (line_long codes xs) xs ≡ t.rest =
    ap₂ (λ (k : ℕ) (y : List ℕ). drop k y) n p ∙ drop-append_seam t.line t.rest in
    let m = ap length p ∙ length-append t.line t.rest in
    let a : lines_in xs ≡ ts ∷ rows = lines_are codes (ts ∷ rows) xs t in
    let b : lines_in t.rest ≡ rows = lines_are codes rows t.rest t.goes in
    record {
      some = line-some codes xs;
      within = omega arith;
      rows = ap (rows_from codes) a
          ∙ ap₂ (λ (e : Row) (es : List Row). e ∷ es) (sym (ap (laid_row codes) p ∙ l.row))
          (ap (rows_from codes) (sym (ap lines_in d ∙ b)));
      taken = rw d (text-taken fits codes rows t.rest t.goes g.1);
    }

pub next-line : (codes xs : List ℕ) → Taken codes xs → 1 ≤ length xs → NextLine codes xs
next-line codes xs t h =
    let s = text-sound fits codes xs (length xs) t in
    text-next codes xs s.rows s.text s.goods h

pub no_lines : (codes : List ℕ) → rows_of codes [] ≡ []
unfolding rows_of
no_lines codes = ap (rows_from codes) (lines_are codes [] [] refl)

-- a fault stands in the text, or at its end
pub scan-within : (codes xs : List ℕ) (p : ℕ) → scan_in (held fits) codes xs ≡ Broken p → p ≤ length xs
scan-within codes xs p e =
    elim (refused-for fits codes xs p e) [
      | inl q ↦ (place_is codes xs p q).within
      | inr u ↦
          let l = ap length u.reads ∙ length-append u.before (u.end ∷ u.rest) in
          let z = u.place in
          omega arith
    ]

-- the rows of a sheet are those of the lines behind the first
pub rows_behind : (text tags : List ℕ) (w : ℕ) → head_in text ≡ tags_to tags w
    → rows_in tags text ≡ rows_from (codes_of tags) (lines_in (drop w text))
unfolding rows_in lines_in
rows_behind text tags w e =
    let f = first-sound text tags w e in
    let q : text ≡ f.line ++ f.rest = f.reads in
    let d : drop w text ≡ f.rest =
    ap₂ (λ (n : ℕ) (xs : List ℕ). drop n xs) f.width q ∙ drop-append_seam f.line f.rest in
    let l : lines_in text ≡ tag_fields tags ∷ lines_in f.rest =
    ap lines_in (q ∙ ap (λ (xs : List ℕ). xs ++ f.rest) f.first.reads)
    ∙ line_read (tag_fields tags) f.first.fields [] f.rest f.first.spelt in
    ap (λ (ls : List (List (List ℕ))). rows_from (codes_of tags) (drop 1 ls)) l
    ∙ ap (λ (xs : List ℕ). rows_from (codes_of tags) (lines_in xs)) (sym d)
