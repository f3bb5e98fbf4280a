-- Which texts are taken (request 106): exactly those whose lines hold fields spelt in a permitted way that hold what is
-- good; and what they hold is known by the text. Assumes nothing.
use Prim.Native.Nat.{ℕ, zero, suc, ◌+◌, ◌≤◌, ◌<◌}
use Rattle.std.proofs.Common.{add-zero, zero-add, arith, sym, ◌∙◌, ne_eqb, eqb-true}
use Rattle.std.specs.Prelude.{◌≡◌, Bool, true, false, eqb, take, drop, get_or}
use Rattle.std.proofs.Math.Path.{refl, ap}
use mathlib.Core.List.{List, [], ◌∷◌, ◌++◌, append_assoc}
use Rattle.std.proofs.Math.ListN.{length, length-append}
use Rattle.std.proofs.Math.Seq.{take-append_seam}
use Rattle.octets.specs.Cases.{taken}
use Rattle.answers.specs.Walk.{Walk}
use Rattle.answers.specs.Walk.{Ends as WalkEnds, Broken as WalkBroken}
use Rattle.answers.specs.Walk.{no_end}
use Rattle.entry.specs.Record.{unlike}
use Rattle.sheet.specs.Field.{lf, end_of}
use Rattle.sheet.specs.Back.{Spells, content-back}
use Rattle.scanning.specs.declared.Fill.TheVariants.{Nothing}
use Rattle.scanning.specs.declared.Stage.TheVariants.{Outside}
use Rattle.scanning.specs.Steps.{holds, field_from}
use Rattle.scanning.specs.Scan.{held, end_at, at_start, scan_from, scan_in}
use Rattle.scanning.specs.Sheets.{IsLine, IsText, GoodLine, GoodText, lines_are}
use Rattle.scanning.specs.FieldBack.{end_is, field_back}
use Rattle.scanning.specs.FieldSound.{field-sound}
use Rattle.scanning.specs.Runs.{runs, fails, stops, due-is, code_at, none_left, drop_past}

module _ (good : ℕ → List ℕ → Bool) (codes : List ℕ) where
  -- j fields of a line are done
  abbrev from : ℕ → ℕ → List ℕ → Walk
  from j i xs = scan_from (held good) codes j (Outside Nothing) [] i xs

  -- ---- what is spelt so is taken

  all_read : (i : ℕ) → from 0 i [] ≡ WalkEnds (i + 0)
  unfolding scan_from
  all_read i = ap WalkEnds (sym (add-zero i))

  field-taken : (j c : ℕ) (cs : List ℕ) (i : ℕ) (t f rest : List ℕ) → drop j codes ≡ c ∷ cs → Spells t f
      → holds c Nothing t ≡ true → good c t ≡ true
      → from j i (f ++ (end_of cs ∷ rest)) ≡ from (j + 1) (i + length f + 1) rest
  field-taken j c cs i t f rest e s h g =
      let k = code_at codes j c cs e in
      let xs : List ℕ = f ++ (end_of cs ∷ rest) in
      let b : field_from (get_or codes j 0) (end_at codes j) (Outside Nothing) i xs ≡ WalkEnds (i + length f) =
      rw (k.0, k.1) (field_back c (end_of cs) (end_is cs) i t f rest s h) in
      let r = runs (held good) codes xs j (Outside Nothing) [] i (i + length f) k.2 b in
      let w : r.wide ≡ length f = omega (arith, r.ends) in
      let m : take (length f) xs ≡ f = take-append_seam f (end_of cs ∷ rest) in
      let d : drop (suc (length f)) xs ≡ rest = drop_past f (end_of cs) rest in
      r.scans ∙ rw (w, m, k.0, content-back t f s, g, d)

  line_taken : (ts : List (List ℕ)) (cs : List ℕ) (j i : ℕ) (line rest : List ℕ) → drop j codes ≡ cs
      → IsLine cs ts line → GoodLine good cs ts → from j i (line ++ rest) ≡ from 0 (i + length line) rest
  line_taken [] [] j i line rest e l g =
      rw l (due-is (held good) codes j (Outside Nothing) [] i lf (none_left codes j e) rest)
  line_taken (t ∷ ts) [] j i line rest e l g = absurd l
  line_taken [] (c ∷ cs) j i line rest e l g = absurd l
  line_taken (t ∷ ts) (c ∷ cs) j i line rest e l g =
      let a : line ++ rest ≡ l.field ++ (end_of cs ∷ (l.rest ++ rest)) =
      ap (λ (y : List ℕ). y ++ rest) l.reads ∙ append_assoc l.field (end_of cs ∷ l.rest) rest in
      let n = ap length l.reads ∙ length-append l.field (end_of cs ∷ l.rest) in
      let m : i + length l.field + 1 + length l.rest ≡ i + length line = omega arith in
      ap (from j i) a
      ∙ field-taken j c cs i t l.field (l.rest ++ rest) e l.spelt l.held g.0
      ∙ line_taken ts cs (j + 1) (i + length l.field + 1) l.rest rest (code_at codes j c cs e).1 l.goes g.1
      ∙ ap (λ (k : ℕ). from 0 k rest) m

  text-read : (rows : List (List (List ℕ))) (i : ℕ) (xs : List ℕ) → IsText codes rows xs → GoodText good codes rows
      → from 0 i xs ≡ WalkEnds (i + length xs)
  text-read [] i xs t g = rw t (all_read i)
  text-read (ts ∷ rows) i xs t g =
      let n = ap length t.reads ∙ length-append t.line t.rest in
      ap (from 0 i) t.reads
      ∙ line_taken ts codes 0 i t.line t.rest refl t.fields g.0
      ∙ text-read rows (i + length t.line) t.rest t.goes g.1
      ∙ ap WalkEnds (omega arith)

  -- ---- what is taken is spelt so

  record LineFound (cs : List ℕ) (i : ℕ) (xs : List ℕ) (w : ℕ) : Type 0 where
    holds : List (List ℕ)
    line : List ℕ
    fields : IsLine cs holds line
    goods : GoodLine good cs holds
    rest : List ℕ
    reads : xs ≡ line ++ rest
    onward : from 0 (i + length line) rest ≡ WalkEnds w

  behind-start : (j : ℕ) → at_start (j + 1) [] ≡ true → ⊥
  behind-start j z = unlike (rw (ne_eqb (j + 1) 0 (omega arith)) at z)

  -- a field, and the line behind it
  with-field : (j c : ℕ) (cs : List ℕ) (i : ℕ) (xs : List ℕ) (w : ℕ) → drop j codes ≡ c ∷ cs → (v : ℕ)
      → field_from (get_or codes j 0) (end_at codes j) (Outside Nothing) i xs ≡ WalkEnds v → from j i xs ≡ WalkEnds w
      → ((k : ℕ) (ys : List ℕ) → from (j + 1) k ys ≡ WalkEnds w → LineFound cs k ys w) → LineFound (c ∷ cs) i xs w
  with-field j c cs i xs w e v z q ih =
      let k = code_at codes j c cs e in
      let r = runs (held good) codes xs j (Outside Nothing) [] i v k.2 z in
      let s = field-sound c (end_of cs) xs i v (rw (k.0, k.1) at z) in
      let n : r.wide ≡ length s.field = omega (arith, r.ends, s.ends) in
      let a : take (length s.field) xs ≡ s.field =
      ap (take (length s.field)) s.reads ∙ take-append_seam s.field (end_of cs ∷ s.rest) in
      let d : drop (suc (length s.field)) xs ≡ s.rest =
      ap (drop (suc (length s.field))) s.reads ∙ drop_past s.field (end_of cs) s.rest in
      taken (good c s.content) _ _ _
      (rw (n, a, k.0, content-back s.content s.field s.spelt, d) at (sym r.scans ∙ q))
      (λ g y. let t = ih (i + length s.field + 1) s.rest y in
      let l : List ℕ = s.field ++ (end_of cs ∷ t.line) in
      let u : xs ≡ l ++ t.rest =
      s.reads ∙ ap (λ (y : List ℕ). s.field ++ (end_of cs ∷ y)) t.reads
      ∙ sym (append_assoc s.field (end_of cs ∷ t.line) t.rest) in
      let b : i + length s.field + 1 + length t.line ≡ i + length l =
      rw (length-append s.field (end_of cs ∷ t.line)) (omega arith) in
      record {
        holds = s.content ∷ t.holds;
        line = l;
        fields =
            record {
              field = s.field;
              spelt = s.spelt;
              held = s.held;
              rest = t.line;
              goes = t.fields;
              reads = refl;
            };
        goods = (g, t.goods);
        rest = t.rest;
        reads = u;
        onward = ap (λ (x : ℕ). from 0 x t.rest) (sym b) ∙ t.onward;
      })
      (λ g y. no_end y)

  last_found : (j i : ℕ) (xs : List ℕ) (w : ℕ) → length codes ≤ j → (at_start j [] ≡ true → 0 < length xs)
      → from j i xs ≡ WalkEnds w → LineFound [] i xs w
  last_found j i [] w h n q = go (at_start j []) refl
    where
      go : (b : Bool) → at_start j [] ≡ b → LineFound [] i [] w
      go true z = absurd (let l = n z in omega arith)
      go false z = no_end (sym (stops (held good) codes j (Outside Nothing) [] i z) ∙ q)
  last_found j i (x ∷ xs) w h n q =
      taken (eqb x lf) _ _ _ (sym (due-is (held good) codes j (Outside Nothing) [] i x h xs) ∙ q)
      (λ a b. record {
        holds = [];
        line = lf ∷ [];
        fields = refl;
        goods = tt;
        rest = xs;
        reads = ap (λ (y : ℕ). y ∷ xs) (eqb-true x lf a);
        onward = b;
      })
      (λ a b. no_end b)

  line-found : (cs : List ℕ) (j i : ℕ) (xs : List ℕ) (w : ℕ) → drop j codes ≡ cs
      → (at_start j [] ≡ true → 0 < length xs) → from j i xs ≡ WalkEnds w → LineFound cs i xs w
  line-found [] j i xs w e n q = last_found j i xs w (none_left codes j e) n q
  line-found (c ∷ cs) j i xs w e n q =
      go (field_from (get_or codes j 0) (end_at codes j) (Outside Nothing) i xs) refl
      (λ k ys z. line-found cs (j + 1) k ys w (code_at codes j c cs e).1 (λ y. absurd (behind-start j y)) z)
    where
      go : (r : Walk) → field_from (get_or codes j 0) (end_at codes j) (Outside Nothing) i xs ≡ r
          → ((k : ℕ) (ys : List ℕ) → from (j + 1) k ys ≡ WalkEnds w → LineFound cs k ys w)
          → LineFound (c ∷ cs) i xs w
      go (WalkBroken p) z ih =
          no_end (sym (fails (held good) codes xs j (Outside Nothing) [] i p (code_at codes j c cs e).2 n z) ∙ q)
      go (WalkEnds v) z ih = with-field j c cs i xs w e v z q ih

  -- what the text holds, which is good, and that it was taken to its end
  pub record TextIs (i : ℕ) (xs : List ℕ) (w : ℕ) : Type 0 where
    pub rows : List (List (List ℕ))
    pub text : IsText codes rows xs
    pub goods : GoodText good codes rows
    pub ends : w ≡ i + length xs

  line-some : (cs : List ℕ) (ts : List (List ℕ)) (line : List ℕ) → IsLine cs ts line → 1 ≤ length line
  line-some [] [] line l = rw l (omega arith)
  line-some [] (t ∷ ts) line l = absurd l
  line-some (c ∷ cs) [] line l = absurd l
  line-some (c ∷ cs) (t ∷ ts) line l = rw l.reads (rw (length-append l.field (end_of cs ∷ l.rest)) (omega arith))

  -- by the length of the text
  Founds : ℕ → Type 0
  Founds n = (i : ℕ) (xs : List ℕ) (w : ℕ) → length xs ≤ n → from 0 i xs ≡ WalkEnds w → TextIs i xs w

  none_found : (i w : ℕ) → from 0 i [] ≡ WalkEnds w → TextIs i [] w
  none_found i w q =
      let a : WalkEnds (i + 0) ≡ WalkEnds w = sym (all_read i) ∙ q in
      let b : i + 0 ≡ w = cc in
      record { rows = []; text = refl; goods = tt; ends = sym b }

  more-found : (n : ℕ) → Founds n → Founds (suc n)
  unfolding Founds
  more-found n ih i [] w h q = none_found i w q
  more-found n ih i (x ∷ xs) w h q =
      let l = line-found codes 0 i (x ∷ xs) w refl (λ z. omega arith) q in
      let a = line-some codes l.holds l.line l.fields in
      let b : suc (length xs) ≡ length l.line + length l.rest =
      ap length l.reads ∙ length-append l.line l.rest in
      let r = ih (i + length l.line) l.rest w (omega arith) l.onward in
      record {
        rows = l.holds ∷ r.rows;
        text = record { line = l.line; fields = l.fields; rest = l.rest; goes = r.text; reads = l.reads };
        goods = (l.goods, r.goods);
        ends = r.ends ∙ omega arith;
      }

  first_found : Founds 0
  unfolding Founds
  first_found i [] w h q = none_found i w q
  first_found i (x ∷ xs) w h q = absurd (omega arith)

  founds : (n : ℕ) → Founds n
  founds zero = first_found
  founds (suc n) = more-found n (founds n)

  -- a text is taken exactly where it is lines whose fields are spelt in a permitted way and hold what is good; and it
  -- is taken to its end
  pub text-taken : (rows : List (List (List ℕ))) (xs : List ℕ) → IsText codes rows xs → GoodText good codes rows
      → scan_in (held good) codes xs ≡ WalkEnds (length xs)
  text-taken rows xs t g = text-read rows 0 xs t g ∙ ap WalkEnds (zero-add (length xs))

  pub text-sound : (xs : List ℕ) (w : ℕ) → scan_in (held good) codes xs ≡ WalkEnds w → TextIs 0 xs w
  unfolding Founds
  text-sound xs w q = founds (length xs) 0 xs w (omega arith) q

-- what it holds is known by the text
pub text-one : (codes : List ℕ) (rows news : List (List (List ℕ))) (xs : List ℕ) → IsText codes rows xs
    → IsText codes news xs → rows ≡ news
text-one codes rows news xs a b = sym (lines_are codes rows xs a) ∙ lines_are codes news xs b
