-- The ways of the code over all lines, on plain values: line by line what the writer's calls answer is what they answer
-- to the sheet's rows, and what is laid down is their octets.
use Rattle.std.specs.Prelude.{Ok, Err, ℕ, suc, ◌+◌, ◌-◌, ◌^◌, ◌≤◌, ◌<◌, ◌≡◌, Bool, true, not, cond, ltb, drop, get_or}
use Rattle.std.proofs.Common.{add-zero, ◌∙◌, length-drop, drop_of_length-le, drop-drop, Fits}
use native.Mathlib.Omega.{arith}
use Rattle.std.proofs.Math.Path.{refl, sym, ap, ap₂}
use Rattle.std.proofs.Math.Bool.{false}
use Rattle.std.proofs.Math.Option.{Option, none, some}
use mathlib.Core.List.{List, [], ◌∷◌, ◌++◌}
use Rattle.std.proofs.Math.Dec.{eqb}
use Rattle.std.proofs.Math.ListN.{length, length-append}
use Rattle.std.specs.Int.{w64}
use borrow.Author.Tests.{eq-eqb, ne_eqb, le-leb, ltb-true}
use Rattle.octets.specs.Splice.{splice, splice-nil}
use Rattle.octets.specs.Stores.{laid, laid-long}
use Rattle.answers.specs.Numbers.{breaks_rule, most_octets, most_opened}
use Rattle.answers.specs.declared.Refusal.{Refusal}
use Rattle.answers.specs.Verdict.{Answer, Verdict, refusal, same-value, no-value}
use Rattle.answers.specs.Verdict.{clear, Refused}
use Rattle.answers.specs.Verdict.{refused, ◌then◌, need, apart, unmet}
use Rattle.presence.specs.Presence.{room}
use Rattle.value.specs.Types.{number_of, form_in, form_at, form_of}
use Rattle.entry.specs.Present.{Row}
use Rattle.entry.specs.Record.{Slot, values_of, row_octets}
use Rattle.entry.specs.Values.{entry_octets}
use Rattle.entry.specs.Slots.{key_bit}
use Rattle.book.specs.Rows.{rows_octets}
use Rattle.writing.specs.State.{room_at, room_in_lem}
use Rattle.sheet.specs.Field.{numbers, truths, narrows, texts, is_exported}
use Rattle.sheet.specs.Reading.{content_in}
use Rattle.sheet.specs.Values.{by-type}
use Rattle.sheet.specs.One.{Exported}
use Rattle.importing.specs.Fields.{field_long, field_in, field_behind, laid_from, laid_row, line_long}
use Rattle.importing.specs.Given.{pieces_of, row_pieces, pieces_at, keys_in, record_given, rows_given}
use Rattle.importing.specs.Lines.{onward, key_held, line_from, record_from, line_put}
use Rattle.importing.specs.LineCases.{laid-some, row-parts}
use Rattle.importing.specs.Tied.{Taken, rows_of, NextLine, next-line, no_lines}
use Rattle.importing.specs.declared.lines.Line.{Line}
use Rattle.importing.specs.declared.lines.Put.{Put}
use Rattle.importing.specs.declared.lines.Records.{Records}

-- what a record of a sheet's columns may hold, by the codes of their types and their flags
abbrev pub slots_by : List ℕ → List ℕ → List Slot
slots_by [] flags = []
slots_by (c ∷ cs) flags = record { form = form_of c; must = key_bit (get_or flags 0 0) } ∷ slots_by cs (drop 1 flags)

pub slots-by-long : (cs flags : List ℕ) → length (slots_by cs flags) ≡ length cs
slots-by-long [] flags = refl
slots-by-long (c ∷ cs) flags = ap suc (slots-by-long cs (drop 1 flags))

-- the rows behind the header record, and the finish
unfoldable pub lines_given : List ℕ → List ℕ → ℕ → ℕ → List Row → Verdict
lines_given codes flags w n rows =
    rows_given (slots_by codes flags) w n 1 rows then need (not (eqb (length rows) 0)) breaks_rule 0

unfoldable pub records_put : ℕ → List Row → Records
records_put w rows = record { written = w + length (rows_octets rows); count = length rows }

-- ---- a line

same-refusal : {r x : Refusal} → ◌≡◌ {A = Answer Line} (Err r) (Err x) → r ≡ x
same-refusal e = cc

-- how the code answers a verdict
abbrev pub line_by : Verdict → ℕ → ℕ → Answer Line
line_by (Ok _) w e = Ok (record { written = w; end = e })
line_by (Refused r) w e = Err r

-- a value of a type that can be exported is given by one call
pieces-one : (code : ℕ) (v : List ℕ) → is_exported code ≡ true → pieces_of (form_of code) v ≡ length v ∷ []
unfolding pieces_of form_of number_of form_in form_at
pieces-one code v h =
    by-type code h (λ p. rw p (of_number v)) (λ p. rw p (of-truth v)) (λ p. rw p (of_narrow v)) (λ p. rw p (of-text v))
  where
    of_number : (v : List ℕ) → pieces_of (form_of numbers) v ≡ length v ∷ []
    of_number v = refl

    of-truth : (v : List ℕ) → pieces_of (form_of truths) v ≡ length v ∷ []
    of-truth v = refl

    of_narrow : (v : List ℕ) → pieces_of (form_of narrows) v ≡ length v ∷ []
    of_narrow v = refl

    of-text : (v : List ℕ) → pieces_of (form_of texts) v ≡ length v ∷ []
    of-text v = refl

roomy : (w n : ℕ) → w ≤ most_octets → w ≤ n → room_at w n 0 ≡ clear
unfolding room_at
roomy w n h k = rw (add-zero w, le-leb w most_octets h, le-leb w n k)

-- a key without a value is missed where the line is closed
missed : (held must keys : Bool)
    → cond held (cond must false keys) false ≡ cond (cond must false held) keys false
missed true true keys = refl
missed true false keys = refl
missed false true keys = refl
missed false false keys = refl

line-close : (held : Bool) (w n at : ℕ)
    → ◌≡◌ {A = Answer Line} (cond held (Ok (record { written = w; end = at + 1 })) (Err (refusal breaks_rule 0)))
    (line_by (need (cond held true false) breaks_rule 0) (w + 0) (at + 1))
line-close true w n at = ap (λ (m : ℕ). Ok (record { written = m; end = at + 1 })) (sym (add-zero w))
line-close false w n at = refl

abbrev Lines : List ℕ → List ℕ → Type 0
Lines codes flags = (held : Bool) (w n at : ℕ) (xs : List ℕ) → Exported codes → w ≤ most_octets → w ≤ n
    → line_from codes flags held w n at xs
    ≡ line_by (pieces_at w n (row_pieces (slots_by codes flags) (laid_row codes xs))
    then need (cond held (keys_in (slots_by codes flags) (laid_row codes xs)) false) breaks_rule 0)
    (w + length (values_of (laid_row codes xs))) (at + line_long codes xs)

module _ (c : ℕ) (cs flags : List ℕ) (ih : Lines cs (drop 1 flags)) (held : Bool) (w n at : ℕ) (xs : List ℕ)
    (h : Exported (c ∷ cs)) (lim : w ≤ most_octets) (len : w ≤ n) where
  abbrev more : List ℕ
  more = field_behind xs

  abbrev rest : Row
  rest = laid_row cs more

  abbrev ss : List Slot
  ss = slots_by cs (drop 1 flags)

  abbrev must : Bool
  must = key_bit (get_or flags 0 0)

  abbrev to : ℕ
  to = at + field_long false xs + 1

  ends : to + line_long cs more ≡ at + line_long (c ∷ cs) xs
  ends = omega arith

  -- the field by what is laid down for it
  by-entry : (e : Option (List ℕ)) → laid_from c (content_in (field_in xs)) ≡ e
      → onward (room_at w n (length (entry_octets e))) (line_from cs (drop 1 flags)
      (key_held held (get_or flags 0 0) (length (entry_octets e))) (w + length (entry_octets e)) n to more)
      ≡ line_by (pieces_at w n (row_pieces (record { form = form_of c; must = must } ∷ ss) (e ∷ rest))
      then need (cond held (keys_in (record { form = form_of c; must = must } ∷ ss) (e ∷ rest)) false) breaks_rule 0)
      (w + length (values_of (e ∷ rest))) (at + line_long (c ∷ cs) xs)
  unfolding row_pieces keys_in key_held pieces_at
  by-entry none q =
      rw (roomy w n lim len)
      (ih (cond must false held) (w + 0) n to more h.1 (omega arith) (omega arith)
      ∙ ap₂ (λ (b : Bool) (m : ℕ). line_by (pieces_at (w + 0) n (row_pieces ss rest) then need b breaks_rule 0)
      (w + 0 + length (values_of rest)) m) (sym (missed held must (keys_in ss rest))) ends
      ∙ ap (λ (m : ℕ). line_by (pieces_at m n (row_pieces ss rest)
      then need (cond held (cond must false (keys_in ss rest)) false) breaks_rule 0)
      (m + length (values_of rest)) (at + line_long (c ∷ cs) xs)) (add-zero w))
  by-entry (some v) q =
      let l = laid-some c (content_in (field_in xs)) v q in
      let z : eqb (length v) 0 ≡ false = ne_eqb (length v) 0 (λ e. omega arith) in
      rw (z, pieces-one c v h.0) (go (room_at w n (length v)) refl)
    where
      go : (r : Verdict) → room_at w n (length v) ≡ r
          → onward r (line_from cs (drop 1 flags) held (w + length v) n to more)
          ≡ line_by ((r then pieces_at (w + length v) n (row_pieces ss rest))
          then need (cond held (keys_in ss rest) false) breaks_rule 0)
          (w + length (v ++ values_of rest)) (at + line_long (c ∷ cs) xs)
      go (Ok _) e =
          let r = room_in_lem w n (length v) e in
          let a : w + length v + length (values_of rest) ≡ w + length (v ++ values_of rest) =
          (let b = length-append v (values_of rest) in omega arith) in
          ih held (w + length v) n to more h.1 r.limit r.buffer
          ∙ ap₂ (λ (m k : ℕ). line_by (pieces_at (w + length v) n (row_pieces ss rest)
          then need (cond held (keys_in ss rest) false) breaks_rule 0) m k) a ends
      go (Refused x) e = refl

line-given : (codes flags : List ℕ) → Lines codes flags
unfolding line_from pieces_at row_pieces keys_in
line-given [] flags held w n at xs h lim len = line-close held w n at
line-given (c ∷ cs) flags held w n at xs h lim len =
    by-entry c cs flags (line-given cs (drop 1 flags)) held w n at xs h lim len
    (laid_from c (content_in (field_in xs))) refl

-- as a record
pub record-given : (codes flags : List ℕ) (w n k at : ℕ) (xs : List ℕ) → Exported codes
    → record_from codes flags w n k at xs
    ≡ line_by (record_given (slots_by codes flags) w n k (laid_row codes xs)) (w + length (row_octets (laid_row codes xs)))
    (at + line_long codes xs)
unfolding record_from record_given
record-given codes flags w n k at xs h =
    rw (slots-by-long codes flags) (go (need (ltb k most_opened) breaks_rule 0))
  where
    hd : ℕ
    hd = 4 + room (length codes)

    row : Row
    row = laid_row codes xs

    inner : (r : Verdict) → room_at w n hd ≡ r
        → onward r (line_from codes flags true (w + hd) n at xs)
        ≡ line_by (r then pieces_at (w + hd) n (row_pieces (slots_by codes flags) row)
        then need (keys_in (slots_by codes flags) row) breaks_rule 0) (w + length (row_octets row)) (at + line_long codes xs)
    inner (Ok _) e =
        let r = room_in_lem w n hd e in
        let a : w + hd + length (values_of row) ≡ w + length (row_octets row) =
        (let b = row-parts codes xs in omega arith) in
        line-given codes flags true (w + hd) n at xs h r.limit r.buffer
        ∙ ap (λ (m : ℕ). line_by (pieces_at (w + hd) n (row_pieces (slots_by codes flags) row)
        then need (keys_in (slots_by codes flags) row) breaks_rule 0) m (at + line_long codes xs)) a
    inner (Refused x) e = refl

    go : (v : Verdict)
        → onward v (onward (room_at w n hd) (line_from codes flags true (w + hd) n at xs))
        ≡ line_by (v then room_at w n hd then pieces_at (w + hd) n (row_pieces (slots_by codes flags) row)
        then need (keys_in (slots_by codes flags) row) breaks_rule 0) (w + length (row_octets row)) (at + line_long codes xs)
    go (Ok _) = inner (room_at w n hd) refl
    go (Refused x) = refl

-- ---- the loop that judges: the rest of the text stands at `at`

module _ (s codes flags : List ℕ) (at k n opened : ℕ) (all : Verdict)
    (inv : rows_given (slots_by codes flags) k n opened (rows_of codes (drop at s)) ≡ all) where
  module _ (t : Taken codes (drop at s)) (h : at < length s) where
    next : NextLine codes (drop at s)
    next = let l = length-drop at s in next-line codes (drop at s) t (omega arith)

    pub line-within : at + line_long codes (drop at s) ≤ length s
    line-within = let w = next.within in let l = length-drop at s in omega arith

    abbrev row : Row
    row = laid_row codes (drop at s)

    abbrev end : ℕ
    end = at + line_long codes (drop at s)

    rest-is : drop (line_long codes (drop at s)) (drop at s) ≡ drop end s
    rest-is = drop-drop (line_long codes (drop at s)) at s

    module _ (line : Answer Line) (e : line ≡ record_from codes flags k n opened at (drop at s))
        (ex : Exported codes) where
      line-is : line
          ≡ line_by (record_given (slots_by codes flags) k n opened row) (k + length (row_octets row)) end
      line-is = e ∙ record-given codes flags k n opened at (drop at s) ex

      step : record_given (slots_by codes flags) k n opened row
          then rows_given (slots_by codes flags) (k + length (row_octets row)) n (opened + 1) (rows_of codes (drop end s))
          ≡ all
      unfolding rows_given
      step =
          ap (λ (l : List ℕ). record_given (slots_by codes flags) k n opened row
          then rows_given (slots_by codes flags) (k + length (row_octets row)) n (opened + 1) (rows_of codes l))
          (sym rest-is)
          ∙ ap (rows_given (slots_by codes flags) k n opened) (sym next.rows) ∙ inv

      by-verdict : {X : Type 0} → ((r : Refusal) → record_given (slots_by codes flags) k n opened row ≡ Refused r
          → line ≡ Err r → X)
          → (record_given (slots_by codes flags) k n opened row ≡ clear
          → line ≡ Ok (record { written = k + length (row_octets row); end = end }) → X) → X
      by-verdict {X} f g = go (record_given (slots_by codes flags) k n opened row) refl line-is
        where
          go : (v : Verdict) → record_given (slots_by codes flags) k n opened row ≡ v
              → line ≡ line_by v (k + length (row_octets row)) end → X
          go (Ok _) q z = g q z
          go (Refused r) q z = f r q z

      pub lines-refused : (r : Refusal) → line ≡ Err r → Err r ≡ all
      lines-refused r z =
          by-verdict (λ x q y. rw (same-refusal (sym z ∙ y)) (rw q at step)) (λ q y. no-value (sym z ∙ y))

      module _ (l : Line) (z : line ≡ Ok l) where
        by-clear : {X : Type 0} → (record_given (slots_by codes flags) k n opened row ≡ clear
            → l.written ≡ k + length (row_octets row) → l.end ≡ end → X) → X
        by-clear g =
            by-verdict (λ x q y. no-value (sym y ∙ z))
            (λ q y. let p = same-value (sym z ∙ y) in
            g q (ap (λ (x : Line). x.written) p) (ap (λ (x : Line). x.end) p))

        pub lines_next : rows_given (slots_by codes flags) l.written n (opened + 1)
            (rows_of codes (drop l.end s)) ≡ all
        lines_next = by-clear (λ q a b. rw (a, b) (rw q at step))

        pub lines-taken : Taken codes (drop l.end s)
        lines-taken = by-clear (λ q a b. rw (b, ← rest-is) next.taken)

        pub lines_end : l.end ≤ length s
        lines_end = by-clear (λ q a b. rw b line-within)

        pub lines-less : at < l.end
        lines-less = by-clear (λ q a b. let m = next.some in rw b (omega arith))

        pub lines-measure : length s - l.end < length s - at
        lines-measure = let m = lines-less in omega arith

        pub lines-count : (m : ℕ) → opened + length (rows_of codes (drop at s)) ≡ m
            → opened + 1 + length (rows_of codes (drop l.end s)) ≡ m
        lines-count m c =
            by-clear
            (λ q a b. let d = ap length (next.rows ∙ ap (λ (l : List ℕ). row ∷ rows_of codes l) rest-is) in
            rw b (omega arith))

        pub lines_fit : Fits w64 (opened + 1)
        unfolding record_given
        lines_fit =
            by-clear
            (λ q a b. let u = apart (need (ltb opened most_opened) breaks_rule 0) _ q in
            let v = ltb-true opened most_opened (unmet _ breaks_rule 0 u.0) in omega arith)

pub ruleset lines_judged = (line-within, lines-refused, lines_next, lines-taken, lines_end, lines-measure, lines-count)

module _ (s codes flags : List ℕ) (at k w n opened : ℕ)
    (inv : rows_given (slots_by codes flags) k n opened (rows_of codes (drop at s))
    ≡ rows_given (slots_by codes flags) w n 1 (rows_of codes s))
    (count : opened + length (rows_of codes (drop at s)) ≡ 1 + length (rows_of codes s)) (h : length s ≤ at) where
  none_left : rows_of codes (drop at s) ≡ []
  none_left = ap (rows_of codes) (drop_of_length-le s {i = at} h) ∙ no_lines codes

  rows-clear : rows_given (slots_by codes flags) w n 1 (rows_of codes s) ≡ clear
  unfolding rows_given
  rows-clear = sym inv ∙ ap (rows_given (slots_by codes flags) k n opened) none_left

  pub lines_none : opened < 2 → (v : Verdict) → v ≡ refused breaks_rule 0
      → v ≡ lines_given codes flags w n (rows_of codes s)
  unfolding lines_given
  lines_none l v q =
      let a = ap length none_left in
      let z : length (rows_of codes s) ≡ 0 = omega arith in
      q ∙ rw (rows-clear, eq-eqb (length (rows_of codes s)) 0 z)

  pub lines-some : 2 ≤ opened → clear ≡ lines_given codes flags w n (rows_of codes s)
  unfolding lines_given
  lines-some l =
      let a = ap length none_left in
      rw (rows-clear, ne_eqb (length (rows_of codes s)) 0 (λ e. omega arith))

pub lines-told : (codes flags : List ℕ) (w n : ℕ) (rows : List Row) (r : Refusal)
    → Refused r ≡ rows_given (slots_by codes flags) w n 1 rows → Refused r ≡ lines_given codes flags w n rows
unfolding lines_given
lines-told codes flags w n rows r e = rw (← e)

pub ruleset lines_ended = (lines_none, lines-some, lines-told)

pub lines_start : (codes s : List ℕ) → 1 + length (rows_of codes (drop 0 s)) ≡ 1 + length (rows_of codes s)
lines_start codes s = refl

-- ---- the loop that lays down

module _ (s codes : List ℕ) (at : ℕ) (t : Taken codes (drop at s)) (h : at < length s) where
  here : NextLine codes (drop at s)
  here = let l = length-drop at s in next-line codes (drop at s) t (omega arith)

  abbrev first : Row
  first = laid_row codes (drop at s)

  abbrev tail : ℕ
  tail = at + line_long codes (drop at s)

  behind-is : drop (line_long codes (drop at s)) (drop at s) ≡ drop tail s
  behind-is = drop-drop (line_long codes (drop at s)) at s

  rows_are : rows_of codes (drop at s) ≡ first ∷ rows_of codes (drop tail s)
  rows_are = here.rows ∙ ap (λ (l : List ℕ). first ∷ rows_of codes l) behind-is

  rows_long : length (rows_octets (rows_of codes (drop at s)))
      ≡ length (row_octets first) + length (rows_octets (rows_of codes (drop tail s)))
  rows_long =
      ap (λ (l : List Row). length (rows_octets l)) rows_are
      ∙ length-append (row_octets first) (rows_octets (rows_of codes (drop tail s)))

  pub put-within : at + line_long codes (drop at s) ≤ length s
  put-within = let w = here.within in let l = length-drop at s in omega arith

  module _ (k w : ℕ) (out d all : List ℕ) (rest : k + length (rows_octets (rows_of codes (drop at s))) ≡ w + length all)
      (long : length out ≡ length d) (room : w + length all ≤ length d) where
    pub put-room : k + length (row_octets (laid_row codes (drop at s))) ≤ length out
    put-room = let l = rows_long in omega arith

    module _ (put : Put) (e : put ≡ line_put codes k at (drop at s)) where
      written_is : put.written ≡ k + length (row_octets first)
      unfolding line_put
      written_is = ap (λ (p : Put). p.written) e

      end_is : put.end ≡ tail
      unfolding line_put
      end_is = ap (λ (p : Put). p.end) e

      pub put-end : put.end ≤ length s
      put-end = rw end_is put-within

      pub put-less : at < put.end
      put-less = let m = here.some in rw end_is (omega arith)

      pub put-measure : length s - put.end < length s - at
      put-measure = let m = put-less in omega arith

      pub put-more : (c : ℕ) → c ≤ at → c + 1 ≤ put.end
      put-more c l = let m = put-less in omega arith

      pub put-taken : Taken codes (drop put.end s)
      put-taken = rw (end_is, ← behind-is) here.taken

      pub put_count : (c m : ℕ) → c + length (rows_of codes (drop at s)) ≡ m
          → c + 1 + length (rows_of codes (drop put.end s)) ≡ m
      put_count c m q = let a = ap length rows_are in rw end_is (omega arith)

      pub put_rest : put.written + length (rows_octets (rows_of codes (drop put.end s))) ≡ w + length all
      put_rest = let l = rows_long in rw (written_is, end_is) (omega arith)

      module _ (new : List ℕ) (q : new ≡ splice out k (row_octets (laid_row codes (drop at s)))) where
        pub put-kept : length new ≡ length d
        put-kept = laid-long out new (row_octets first) k q put-room ∙ long

        pub put_step : splice out k (rows_octets (rows_of codes (drop at s))) ≡ splice d w all
            → splice new put.written (rows_octets (rows_of codes (drop put.end s))) ≡ splice d w all
        put_step inv =
            let r = put_rest in
            laid out new (row_octets first) (rows_octets (rows_of codes (drop put.end s))) k put.written q written_is
            (omega arith)
            ∙ ap (splice out k) (sym (ap rows_octets rows_are
            ∙ ap (λ (m : ℕ). row_octets first ++ rows_octets (rows_of codes (drop m s))) (sym end_is))) ∙ inv

pub ruleset lines_putting =
    (put-within, put-room, put-end, put-measure, put-taken, put_count, put_rest, put-kept, put_step)

module _ (s codes : List ℕ) (at : ℕ) (h : length s ≤ at) where
  all-put : rows_of codes (drop at s) ≡ []
  all-put = ap (rows_of codes) (drop_of_length-le s {i = at} h) ∙ no_lines codes

  pub put-done : (k : ℕ) (out new : List ℕ) → splice out k (rows_octets (rows_of codes (drop at s))) ≡ new → out ≡ new
  put-done k out new inv =
      sym (splice-nil out k) ∙ ap (λ (l : List Row). splice out k (rows_octets l)) (sym all-put) ∙ inv

  pub records-done : (k w c : ℕ) → k + length (rows_octets (rows_of codes (drop at s))) ≡ w
      + length (rows_octets (rows_of codes s)) → c + length (rows_of codes (drop at s)) ≡ length (rows_of codes s)
      → record { written = k; count = c } ≡ records_put w (rows_of codes s)
  unfolding records_put
  records-done k w c a b =
      let x : k ≡ w + length (rows_octets (rows_of codes s)) =
      (let l = ap (λ (r : List Row). length (rows_octets r)) all-put in omega arith) in
      let y : c ≡ length (rows_of codes s) = (let l = ap length all-put in omega arith) in
      λ i. record { written = x i; count = y i }

pub ruleset lines_put = (put-done, records-done)

-- there are fewer lines than octets
pub count_fits : (c at n : ℕ) → c ≤ at → at < n → n < 2 ^ 64 → Fits w64 (c + 1)
count_fits c at n h k l = omega arith
