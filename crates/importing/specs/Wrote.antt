-- The book that is written, where nothing is refused: tables, header record and rows laid down one behind the other,
-- and finished, are the book of the sheet's table.
use Rattle.std.specs.Prelude.{Ok, ℕ, suc, ◌+◌, ◌%◌, ◌/◌, ◌^◌, ◌≤◌, ◌<◌, ◌≡◌, true, false, eqb, leb, take, drop, get_or}
use Rattle.std.proofs.Common.{arith, ap₂, ◌∙◌, drop_of_length-le, Fits}
use Rattle.std.proofs.Math.Path.{refl, sym, ap}
use mathlib.Core.List.{List, [], ◌∷◌, ◌++◌, append-nil, append_assoc}
use Rattle.std.proofs.Math.ListN.{length, length-append}
use Rattle.std.specs.Int.{w32}
use borrow.Author.Tests.{eqb-true, not-true, eqb-false, ne_eqb, leb-true}
use Rattle.octets.specs.Octets.{Octets}
use Rattle.octets.specs.Splice.{stored, stored-in, length-stored}
use Rattle.octets.specs.Stores.{front-stored}
use Rattle.octets.specs.Word.{word_of}
use Rattle.answers.specs.Numbers.{breaks_rule, breaks_form, cut_short, wrong_size}
use Rattle.answers.specs.Verdict.{Verdict}
use Rattle.answers.specs.Verdict.{clear, Refused}
use Rattle.answers.specs.Verdict.{◌then◌, need, apart, unmet, then-clear}
use Rattle.presence.specs.Presence.{room}
use Rattle.value.specs.Types.{number_of, form_of}
use Rattle.table.specs.Table.{Column, code_of}
use Rattle.table.specs.Columns.{forms_of}
use Rattle.entry.specs.Present.{Row, presence_of, presence-bits}
use Rattle.entry.specs.Record.{Slot, SoundRow, freed, is_clear, record_at, record-sound, values_of, row_octets}
use Rattle.entry.specs.Record.{present_in, present-is, values-behind, row-long, unlike}
use Rattle.entry.specs.Slots.{key_bit, slots_from, slots-many}
use Rattle.entry.specs.Read.{row_in, row-in}
use Rattle.book.specs.Rows.{rows_octets}
use Rattle.book.specs.Book.{book_octets, head_slots, row_slots}
use Rattle.book.specs.JudgeCases.{slots-head}
use Rattle.writing.specs.State.{room_at}
use Rattle.writing.specs.declared.Writing.{Writing}
use Rattle.framing.specs.Frame.{finish_at, finish_octets}
use Rattle.begin.specs.Begin.{start_size, begin_at, begin_next, begin_octets, columns_from, start_octets}
use Rattle.begin.specs.Cases.{begin-in}
use Rattle.begin.specs.Taken.{Tags}
use Rattle.drafting.specs.Lists.{written, stored-behind}
use Rattle.drafting.specs.Draft.{closed_octets, Between}
use Rattle.drafting.specs.Turns.{between-idle}
use Rattle.drafting.specs.Laid.{begin-length}
use Rattle.drafting.specs.Finish.{begin-keeps, book_from, Finished, finish-is}
use Rattle.sheet.specs.Field.{codes_of}
use Rattle.sheet.specs.Values.{free_slot}
use Rattle.sheet.specs.One.{free_slots, Exported, SoundChoice}
use Rattle.scanning.specs.Scan.{fits}
use Rattle.scanning.specs.Sheets.{lines_are}
use Rattle.scanning.specs.Exact.{text-sound}
use Rattle.scanning.specs.Sound.{rows-sound}
use Rattle.importing.specs.Given.{record_given, rows_given, row_pieces, pieces_at}
use Rattle.importing.specs.Head.{offered_in, forms_for, head_from, head_given}
use Rattle.importing.specs.LinesCases.{slots_by}
use Rattle.importing.specs.Tied.{Taken, rows_of}
use Rattle.importing.specs.Fitting.{RecordFits, record-fits, FreeRows, RowsFit, rows_fit, keys-held, head-is}
use Rattle.importing.specs.From.{book_with, calls_at}
use Rattle.importing.specs.Steps.{rest_book, given_at, front_put, laid_down, closed_by}

-- ---- the columns

pub forms-are : (ht hf : List ℕ) → length ht ≡ length hf → forms_of (columns_from ht hf) ≡ forms_for ht
forms-are [] hf e = refl
forms-are (t ∷ ht) [] e = absurd (omega arith)
forms-are (t ∷ ht) (f ∷ hf) e = ap (λ (l : List ℕ). number_of (t % 65536) ∷ l) (forms-are ht hf (omega arith))

pub head-slots : (ht hf : List ℕ) → length ht ≡ length hf → slots_from (forms_for ht) [] ≡ head_slots (columns_from ht hf)
head-slots ht hf e =
    ap (λ (l : List ℕ). slots_from l []) (sym (forms-are ht hf e)) ∙ slots-head (columns_from ht hf)

pub row-slots : (tags flags : List ℕ) → length flags ≡ length tags
    → row_slots (columns_from tags flags) ≡ slots_by (codes_of tags) flags
unfolding key_bit
row-slots [] flags e = refl
row-slots (t ∷ tags) [] e = absurd (omega arith)
row-slots (t ∷ tags) (f ∷ flags) e =
    let b : f % 4 / 2 % 2 ≡ f / 2 % 2 = omega arith in
    rw b
    (ap (λ (l : List Slot). record { form = form_of (t % 65536); must = eqb (f / 2 % 2) 1 } ∷ l)
    (row-slots tags flags (omega arith)))

free-by : (codes flags : List ℕ) → freed (slots_by codes flags) ≡ free_slots codes
free-by [] flags = refl
free-by (c ∷ cs) flags = ap (λ (l : List Slot). free_slot c ∷ l) (free-by cs (drop 1 flags))

pub free-rows : (codes flags : List ℕ) (rows : List Row) → SoundChoice codes rows → FreeRows (slots_by codes flags) rows
free-rows codes flags [] h = tt
free-rows codes flags (es ∷ rows) h = (rw (free-by codes flags) h.0, free-rows codes flags rows h.1)

pub tags-from : (ts : List ℕ) → ((i : ℕ) → Fits w32 (get_or ts i 0)) → Tags ts
tags-from [] h = tt
tags-from (t ∷ ts) h = ((let a = h 0 in omega arith), tags-from ts (λ i. h (suc i)))

-- ---- the rows of the lines

pub lines-sound : (codes s : List ℕ) → Taken codes s → Exported codes → Octets s → SoundChoice codes (rows_of codes s)
unfolding rows_of
lines-sound codes s t e o =
    let x = text-sound fits codes s (length s) t in
    rw (lines_are codes x.rows s x.text) (rows-sound codes x.rows s e x.text x.goods o)

-- ---- the header record

pub record HeadIs (ss : List Slot) (hrec : List ℕ) : Type 0 where
  pub sound : SoundRow ss (row_in ss hrec)
  pub reads : hrec ≡ row_octets (row_in ss hrec)

was-clear : (v : Verdict) → is_clear v ≡ true → v ≡ clear
was-clear (Ok _) q = refl
was-clear (Refused r) q = unlike q

pub offered-is : (ss : List Slot) (hrec : List ℕ) → Octets hrec → offered_in ss hrec ≡ clear → HeadIs ss hrec
unfolding offered_in
offered-is ss hrec o e =
    let a = apart (need (is_clear (record_at ss 0 hrec)) breaks_form 0) _ e in
    let r = record-sound ss 0 hrec o (was-clear (record_at ss 0 hrec) (unmet _ breaks_form 0 a.0)) in
    let w : word_of 4 hrec ≡ length hrec = eqb-true _ _ (unmet _ breaks_form 0 a.1) in
    let z : drop (word_of 4 hrec) hrec ≡ [] = drop_of_length-le hrec {i = word_of 4 hrec} (omega arith) in
    let q : hrec ≡ row_octets r.row ++ [] = r.reads ∙ ap (λ (l : List ℕ). row_octets r.row ++ l) z in
    let n : length (row_octets r.row) < 2 ^ 32 = (let s = r.size in let m = r.small in omega arith) in
    let i : row_in ss hrec ≡ r.row = ap (row_in ss) q ∙ row-in ss r.row [] r.sound n in
    record {
      sound = rw i r.sound;
      reads = q ∙ append-nil (row_octets r.row) ∙ ap row_octets (sym i);
    }

-- it has its size field and its presence octets
pub offered-long : (ss : List Slot) (hrec : List ℕ) → offered_in ss hrec ≡ clear → 4 + room (length ss) ≤ length hrec
unfolding offered_in record_at
offered-long ss hrec e =
    let a = apart (need (is_clear (record_at ss 0 hrec)) breaks_form 0) _ e in
    let b = was-clear (record_at ss 0 hrec) (unmet _ breaks_form 0 a.0) in
    let c₁ = apart (need (leb 4 (length hrec)) cut_short 0) _ b in
    let c₂ = apart (need (leb (4 + room (length ss)) (word_of 4 hrec)) wrong_size 0) _ c₁.1 in
    let c₃ = apart (need (leb (word_of 4 hrec) (length hrec)) wrong_size 0) _ c₂.1 in
    let x = leb-true (4 + room (length ss)) (word_of 4 hrec) (unmet _ wrong_size 0 c₂.0) in
    let y = leb-true (word_of 4 hrec) (length hrec) (unmet _ wrong_size 0 c₃.0) in
    omega arith

-- what the code finds is what the table says
pub head-given : (forms hrec : List ℕ) (w n : ℕ) → HeadIs (slots_from forms []) hrec
    → head_given forms w n hrec ≡ record_given (slots_from forms []) w n 0 (row_in (slots_from forms []) hrec)
unfolding head_given record_given
head-given forms hrec w n h =
    let ss : List Slot = slots_from forms [] in
    let es : Row = row_in ss hrec in
    let m : ℕ = length forms in
    let k : length ss ≡ m = slots-many forms [] in
    let l : length es ≡ m = row-long ss es h.sound ∙ k in
    let p : take (room m) (drop 4 hrec) ≡ presence_of es =
    ap (present_in m) (h.reads ∙ sym (append-nil (row_octets es))) ∙ present-is es [] m l in
    let v : drop (4 + room m) hrec ≡ values_of es = ap (drop (4 + room m)) h.reads ∙ values-behind es m l in
    rw (k, keys-held ss es h.sound, then-clear (pieces_at (w + (4 + room m)) n (row_pieces ss es)))
    (ap (λ (x : Verdict). room_at w n (4 + room m) then x)
    (ap₂ (λ (x y : List ℕ). head_from forms 0 x (w + (4 + room m)) n y) p v
    ∙ head-is forms es 0 (presence_of es) (w + (4 + room m)) n h.sound (presence-bits es)))

-- ---- all that is laid down, where nothing is refused

brackets : (a b c : List ℕ) → a ++ (b ++ c) ≡ ((a ++ []) ++ b) ++ c
brackets a b c = simp (append_assoc, append-nil)

-- what the verdict tells
pub record Granted (tags flags ht hf hrec s d : List ℕ) : Type 0 where
  pub begins : begin_at ht hf tags flags (length d) ≡ clear
  pub head : HeadIs (head_slots (columns_from ht hf)) hrec
  pub first : RecordFits (head_slots (columns_from ht hf)) (start_size (length ht) (length tags)) (length d) 0
      (row_in (head_slots (columns_from ht hf)) hrec)
  pub rest : RowsFit (row_slots (columns_from tags flags)) (start_size (length ht) (length tags) + length hrec)
      (length d) 1
      (rows_of (codes_of tags) s)
  pub some : 1 ≤ length (rows_of (codes_of tags) s)

free-head : (cs : List Column) → freed (head_slots cs) ≡ head_slots cs
free-head [] = refl
free-head (c ∷ cs) = ap (λ (l : List Slot). record { form = form_of (code_of c); must = false } ∷ l) (free-head cs)

module _ (tags flags ht hf hrec s d : List ℕ) (t : Taken (codes_of tags) s) (ex : Exported (codes_of tags))
    (os : Octets s) (oh : Octets hrec) where
  abbrev hs : List Column
  hs = columns_from ht hf

  abbrev cs : List Column
  cs = columns_from tags flags

  abbrev head : Row
  head = row_in (head_slots hs) hrec

  abbrev rows : List Row
  rows = rows_of (codes_of tags) s

  abbrev w₀ : ℕ
  w₀ = start_size (length ht) (length tags)

  pub granted : given_at tags flags ht hf hrec s (length d) ≡ clear → Granted tags flags ht hf hrec s d
  unfolding given_at calls_at rest_book book_with
  granted e =
      let a = apart (begin_at ht hf tags flags (length d)) _ e in
      let b = apart (offered_in (head_slots hs) hrec) _ a.1 in
      let h = offered-is (head_slots hs) hrec oh b.0 in
      let c = apart (record_given (head_slots hs) w₀ (length d) 0 head) _ b.1 in
      let f = record-fits (head_slots hs) w₀ (length d) 0 head (rw (free-head hs) h.sound) c.0 in
      let g = apart (rows_given (row_slots cs) (w₀ + length (row_octets head)) (length d) 1 rows) _ c.1 in
      let m = begin-in ht hf tags flags (length d) a.0 in
      let q = row-slots tags flags (sym m.rows) in
      let fr : FreeRows (row_slots cs) rows =
      rw q (free-rows (codes_of tags) flags rows (lines-sound (codes_of tags) s t ex os)) in
      let r =
      rows_fit (row_slots cs) rows (w₀ + length (row_octets head)) (length d) 1 fr f.roomed (omega arith) g.0 in
      let n = eqb-false (length rows) 0 (not-true (eqb (length rows) 0) (unmet _ breaks_rule 0 g.1)) in
      let l : length (row_octets head) ≡ length hrec = ap length (sym h.reads) in
      record {
        begins = a.0;
        head = h;
        first = f;
        rest = rw (← l) r;
        some = omega arith;
      }

  module _ (g : Granted tags flags ht hf hrec s d) (th : Tags ht) (ta : Tags tags) where
    start : Between (begin_next (length ht) (length tags)) (begin_octets ht hf tags flags d) d hs cs []
    start = begin-keeps ht hf tags flags d th ta g.begins

    abbrev front : List ℕ
    front = closed_octets hs cs []

    whole : closed_octets hs cs (head ∷ rows) ≡ (front ++ hrec) ++ rows_octets rows
    unfolding closed_octets
    whole =
        brackets (start_octets hs cs) (row_octets head) (rows_octets rows)
        ∙ ap (λ (x : List ℕ). ((start_octets hs cs ++ []) ++ x) ++ rows_octets rows) (sym g.head.reads)

    front_long : length front ≡ w₀
    front_long = sym start.front.length-is

    whole_long : length (closed_octets hs cs (head ∷ rows)) ≡ w₀ + length hrec + length (rows_octets rows)
    whole_long =
        let a = length-append (front ++ hrec) (rows_octets rows) in
        let b = length-append front hrec in
        let c = front_long in
        let d = ap length whole in
        omega arith

    module _ (y : List ℕ) (q : y ≡ laid_down tags (codes_of tags) flags ht hf hrec s d) where
      abbrev x : List ℕ
      x = front_put tags flags ht hf hrec d

      front-is : x ≡ stored (begin_octets ht hf tags flags d) w₀ hrec
      unfolding front_put
      front-is = refl

      copied : x ≡ written (front ++ hrec) d
      copied =
          let r = g.first.roomed.buffer in
          let l : length (row_octets head) ≡ length hrec = ap length (sym g.head.reads) in
          front-is ∙ ap (λ (z : List ℕ). stored z w₀ hrec) start.front.octets
          ∙ stored-behind front hrec d w₀ (sym front_long) (let c = front_long in omega arith)

      copied-long : length x ≡ length d
      copied-long = ap length front-is ∙ length-stored (begin_octets ht hf tags flags d) w₀ hrec
          ∙ begin-length ht hf tags flags d

      laid-down : y ≡ written (closed_octets hs cs (head ∷ rows)) d
      unfolding laid_down
      laid-down =
          let r = g.rest.roomed.buffer in
          let b = length-append front hrec in
          let c = front_long in
          let l = copied-long in
          q ∙ sym (stored-in x (w₀ + length hrec) (rows_octets rows) (omega arith))
          ∙ ap (λ (z : List ℕ). stored z (w₀ + length hrec) (rows_octets rows)) copied
          ∙ stored-behind (front ++ hrec) (rows_octets rows) d (w₀ + length hrec) (omega arith) (omega arith)
          ∙ ap (λ (z : List ℕ). written z d) (sym whole)

      abbrev st : Writing
      st = closed_by (w₀ + length hrec + length (rows_octets rows)) (length ht) (length tags) (length rows + 1)

      behind : Between st y d hs cs (head ∷ rows)
      behind =
          let r = g.rest.roomed in
          let l = whole_long in
          record {
            begun = record {
              header = start.begun.header;
              address = start.begun.address;
              heads = start.begun.heads;
              cols = start.begun.cols;
              live = refl;
            };
            front = record {
              octets = laid-down;
              length-is = sym whole_long;
              room = (let a = r.buffer in omega arith);
              limit = (let a = r.limit in omega arith);
            };
            opened = omega arith;
            few = (let f = g.rest.few in omega arith);
            sound = (g.head.sound, g.rest.sound);
            idle = refl;
          }

      finish-clear : finish_at st (length y) ≡ clear
      unfolding finish_at
      finish-clear =
          let m = g.some in
          rw (
            between-idle st y d hs cs (head ∷ rows) behind,
            ne_eqb (length rows + 1) 0 (λ e. omega arith),
            ne_eqb (length rows + 1) 1 (λ e. omega arith),
          )

      done : Finished st (finish_octets st y) d (book_from hs cs (head ∷ rows))
      done = finish-is st y d hs cs (head ∷ rows) behind finish-clear

      pub book-long : w₀ + length hrec + length (rows_octets rows)
          ≡ length (book_octets (rest_book tags flags ht hf hrec s))
      unfolding rest_book book_with
      book-long = done.long

      pub book-octets : finish_octets st y ≡ stored d 0 (book_octets (rest_book tags flags ht hf hrec s))
      unfolding rest_book book_with
      book-octets =
          done.octets ∙ sym (front-stored d (book_octets (book_from hs cs (head ∷ rows))) done.room)
