-- The table of an accepted book, handed to the calls where there is room, gives that book's octets; each call is
-- accepted; the 30 unused flag bits become zero, and the serial follows.
use Prim.Native.Nat.{ℕ, suc, ◌+◌, ◌*◌, ◌≤◌, ◌<◌}
use native.Mathlib.Omega.{arith}
use Rattle.std.proofs.Common.{ap₂, ◌∙◌}
use Rattle.std.specs.Prelude.{◌≡◌, Bool, cond, drop}
use Rattle.std.proofs.Math.Path.{refl, sym, ap, subst}
use Rattle.std.proofs.Math.Bool.{true, false}
use Rattle.std.proofs.Math.Option.{none, some}
use mathlib.Core.List.{List, [], ◌∷◌, ◌++◌, append_assoc, append-nil}
use Rattle.std.proofs.Math.Dec.{eqb}
use Rattle.std.proofs.Math.ListN.{length, get_or, set, length-append}
use Rattle.std.proofs.lemmas.List.{length-replicate}
use Rattle.std.proofs.Math.Seq.{set_at}
use borrow.Author.Tests.{eq-eqb, ne_eqb, eqb-false, lt-ltb}
use Rattle.answers.specs.Numbers.{breaks_rule, most_octets, most_opened}
use Rattle.answers.specs.Verdict.{clear}
use Rattle.answers.specs.Verdict.{need}
use Rattle.presence.specs.Presence.{room}
use Rattle.value.specs.Types.{Form}
use Rattle.table.specs.Table.{Column, SoundColumns}
use Rattle.table.specs.Columns.{tags_of}
use Rattle.entry.specs.Present.{Row, presence_of, presence-bits, presence-length}
use Rattle.entry.specs.Record.{Slot, SoundRow, values_of, row_octets, row-long, keys_at, keys-back}
use Rattle.book.specs.Rows.{rows_octets, SoundRows}
use Rattle.book.specs.Book.{Book, Sound, meta_size, slots-long, head_slots, row_slots, book_octets, judge}
use Rattle.book.specs.Whole.{judge-sound}
use Rattle.octets.specs.Octets.{Octets}
use Rattle.book.specs.Unused.{book-long, plain_book, sound-plain}
use Rattle.writing.specs.declared.Writing.{Writing}
use Rattle.framing.specs.Frame.{open_size, open_at, open_outcome, keys_from, close_at, close_outcome, finish_at}
use Rattle.begin.specs.Begin.{begin_at, columns_from}
use Rattle.drafting.specs.Open.{blank_row, open_record, blank-record, open-long}
use Rattle.drafting.specs.Spell.{Spelling, value-spelled}
use Rattle.drafting.specs.Start.{open_columns, keys-asked}
use Rattle.begin.specs.Taken.{from-plain, begin-taken, flags_long, flags_of, Tags}
use Rattle.drafting.specs.Draft.{Part, closed_octets, open_slots, form_in, Between, Inside}
use Rattle.drafting.specs.Lent.{AsLeft}
use Rattle.drafting.specs.Turns.{closed-long, between-idle, inside-taken, columns-open, behind-start}
use Rattle.drafting.specs.Gives.{given-long}
use Rattle.drafting.specs.Keeps.{slots-open, opening, open-keeps, close-keeps, keys-front, present-at, row_open}
use Rattle.drafting.specs.Keeps.{rows_snoc}
use Rattle.drafting.specs.Finish.{begin-keeps, finish-is}
use Rattle.drafting.specs.Run.{Call, Open, Close}
use Rattle.drafting.specs.Written.{Stand, lent, after}
use Rattle.drafting.specs.Goes.{Goes, goes-append, goes_on, AtRest, InRecord, Room, room-clear, entry_calls}
use Rattle.drafting.specs.Again.{row_calls, record_calls, Filled, slot-here, rows_calls, calls_of, table_start, Leaves, Writes, Unused, same-book, AcceptedAgain}
use Rattle.drafting.proofs.Anew.{between-anew, inside-anew}
use Rattle.drafting.proofs.Adds.{entry-goes}

module _ (m : ℕ) (most : m ≤ most_octets) (hs cs : List Column) (rows : List Row) where
  abbrev k : ℕ
  k = length rows + 1

  entry-form : (f : Form) (s : Stand) (p : Part) (o : InRecord hs cs rows p s) (c : ℕ) (v : List ℕ)
      → form_in (open_slots hs cs k) c ≡ f → p.due ≡ 0 → p.next ≤ c → c < length p.row
      → (sp : Spelling f v) → length (closed_octets hs cs rows ++ open_record p.row) + length v ≤ m
      → Goes m (entry_calls f v (get_or (tags_of (open_columns hs cs k)) c 0) sp)
      (InRecord hs cs rows (record { row = set p.row c (some v); next = c + 1; due = 0 })) s
  entry-form f s p o c v q z n l sp r =
      subst (λ (x : Form). (sp : Spelling x v)
      → Goes m (entry_calls x v (get_or (tags_of (open_columns hs cs k)) c 0) sp)
      (InRecord hs cs rows (record { row = set p.row c (some v); next = c + 1; due = 0 })) s)
      q (λ sp. entry-goes m most s hs cs rows p o c v z n l sp r) sp

  row_goes : (us : List Slot) (es : Row) (h : SoundRow us es) (pre : Row) (c : ℕ) (s : Stand) (p : Part)
      → InRecord hs cs rows p s → c ≡ length pre → p.row ≡ pre ++ blank_row (length es)
      → p.next ≤ c → p.due ≡ 0 → drop c (open_slots hs cs k) ≡ us
      → length (closed_octets hs cs rows ++ open_record p.row) + length (values_of es) ≤ m
      → Goes m (row_calls us (tags_of (open_columns hs cs k)) c es h) (Filled hs cs rows (pre ++ es)) s
  unfolding row_calls
  row_goes [] [] h pre c s p o e q n z u r =
      record {
        next = p.next;
        opens = subst (λ (x : Part). InRecord hs cs rows x s)
            (λ j. record { row = q j; next = p.next; due = z j }) o;
      }
  row_goes [] (e ∷ es) h pre c s p o e' q n z u r = absurd h
  row_goes (x ∷ us) [] h pre c s p o e q n z u r = absurd h
  row_goes (x ∷ us) (none ∷ es) h pre c s p o e q n z u r =
      let a : (pre ++ (none ∷ [])) ++ es ≡ pre ++ (none ∷ es) = append_assoc pre (none ∷ []) es in
      let b : p.row ≡ (pre ++ (none ∷ [])) ++ blank_row (length es) = q ∙ sym (append_assoc pre (none ∷ []) (blank_row (length es))) in
      let l : suc c ≡ length (pre ++ (none ∷ [])) = (let w = length-append pre (none ∷ []) in omega arith) in
      let f =
      row_goes us es h.1 (pre ++ (none ∷ [])) (suc c) s p o l b (omega arith) z
      (slot-here (open_slots hs cs k) c x us u).1 r in
      rw (← a) f
  row_goes (x ∷ us) (some v ∷ es) h pre c s p o e q n z u r =
      let tag : ℕ = get_or (tags_of (open_columns hs cs k)) c 0 in
      let g = slot-here (open_slots hs cs k) c x us u in
      let sp = value-spelled x.form v h.0.0 h.0.1 in
      let calls : List Call = entry_calls x.form v tag sp in
      let more : List Call = row_calls us (tags_of (open_columns hs cs k)) (suc c) es h.1 in
      let j : length (values_of (some v ∷ es)) ≡ length v + length (values_of es) = length-append v (values_of es) in
      let w : length (pre ++ blank_row (suc (length es))) ≡ length pre + suc (length es) = length-append pre (blank_row (suc (length es))) ∙ ap (λ (y : ℕ). length pre + y) (length-replicate (suc (length es)) none) in
      let l : c < length p.row = omega (arith, ap length q, w) in
      let a = entry-form x.form s p o c v g.0 z n l sp (omega arith) in
      let p' : Part = record { row = set p.row c (some v); next = c + 1; due = 0 } in
      let b : set p.row c (some v) ≡ (pre ++ (some v ∷ [])) ++ blank_row (length es) =
      ap (λ (y : Row). set y c (some v)) q ∙ set_at pre none (blank_row (length es)) (some v) c (sym e) ∙ sym (append_assoc pre (some v ∷ []) (blank_row (length es))) in
      let c' : suc c ≡ length (pre ++ (some v ∷ [])) = (let y = length-append pre (some v ∷ []) in omega arith) in
      let long = given-long (closed_octets hs cs rows) p.row p.next c v l o.inside.blank n in
      rw (← append_assoc pre (some v ∷ []) es)
      (goes-append m calls more (InRecord hs cs rows p') (Filled hs cs rows ((pre ++ (some v ∷ [])) ++ es)) s a
      (λ t y. row_goes us es h.1 (pre ++ (some v ∷ [])) (suc c) t p' y c' b (omega arith) refl g.1 (omega arith)))

  -- ---- a record

  open-clear : (st : Writing) (d d₀ : List ℕ) (i : Between st d d₀ hs cs rows) → length rows < most_opened
      → Room (length (closed_octets hs cs rows) + (4 + room (length (open_columns hs cs k)))) d₀
      → open_at st (length d) ≡ clear
  unfolding open_at
  open-clear st d d₀ i h r =
      let o : st.opened + 1 ≡ k = ap (λ (x : ℕ). x + 1) i.opened in
      let n : open_size st ≡ 4 + room (length (open_columns hs cs k)) = ap (λ (x : ℕ). 4 + room x) (columns-open st hs cs (st.opened + 1) i.begun ∙ ap (λ (x : ℕ). length (open_columns hs cs x)) o) in
      rw (between-idle st d d₀ hs cs rows i, lt-ltb st.opened most_opened (omega (arith, i.opened)))
      (room-clear st d d₀ (closed_octets hs cs rows) (open_size st) i.front (rw n r))

  -- every key is there
  keys-there : (st : Writing) (d d₀ : List ℕ) (p : Part) (i : Inside st d d₀ hs cs rows p)
      → SoundRow (open_slots hs cs k) p.row → (st.opened ≡ 1 → ⊥)
      → keys_from d (28 + 8 * st.header) (drop (st.start + 4) d) st.address 0 ≡ true
  keys-there st d d₀ p i h o =
      let es : Row = p.row in
      let f : List ℕ = closed_octets hs cs rows in
      let b = i.begun in
      let t : List ℕ = drop (length (f ++ open_record es)) d₀ in
      let rest : List ℕ = (rows_octets rows ++ open_record es) ++ t in
      let q : d ≡ _ = i.front.octets ∙ behind-start hs cs rows es t in
      let y = ne_eqb k 1 (λ m. o (i.opened ∙ m)) in
      let w : length cs ≡ length es = ap (λ (x : Bool). length (cond x hs cs)) (sym y) ∙ sym i.wide in
      let g : SoundRow (row_slots cs) es = rw y at h in
      let l : 0 + length (row_slots cs) ≤ 8 * length (presence_of es) = omega (arith, slots-long true cs, presence-length es, w) in
      let u : keys_at (row_slots cs) 0 (presence_of es ++ (values_of es ++ t)) 4 ≡ clear =
      keys-front (row_slots cs) 0 (presence_of es) (values_of es ++ t) 4 l ∙ keys-back (row_slots cs) es 0 (presence_of es) 4 g (presence-bits es) in
      let r : drop (st.start + 4) d ≡ presence_of es ++ (values_of es ++ t) = ap₂ (λ (n : ℕ) (x : List ℕ). drop (n + 4) x) i.start i.front.octets ∙ present-at f es t in
      rw (b.header, b.address, r) (keys-asked d hs cs rest (presence_of es ++ (values_of es ++ t)) 4 q b.heads b.cols u)

  pub close-clear : (st : Writing) (d d₀ : List ℕ) (p : Part) (i : Inside st d d₀ hs cs rows p) → p.due ≡ 0
      → SoundRow (open_slots hs cs k) p.row → close_at st d ≡ clear
  unfolding close_at
  close-clear st d d₀ p i z h =
      rw (inside-taken st d d₀ hs cs rows p i, eq-eqb st.left 0 (i.left ∙ z)) (go (eqb st.opened 1) refl)
    where
      go : (t : Bool) → eqb st.opened 1 ≡ t → need (cond t true (keys_from d (28 + 8 * st.header) (drop (st.start + 4) d) st.address 0)) breaks_rule 0 ≡ clear
      go true e = refl
      go false e = rw (keys-there st d d₀ p i h (eqb-false st.opened 1 e))

  closing : (t : Stand) (es : Row) → SoundRow (open_slots hs cs k) es → Filled hs cs rows es t
      → Goes m (Close ∷ []) (AtRest hs cs (rows ++ (es ∷ []))) t
  unfolding close_outcome
  closing t es h y = λ d a e.
      let p : Part = record { row = es; next = y.next; due = 0 } in
      let i = inside-anew t.state t.octets y.opens.first d a hs cs rows p y.opens.inside in
      let e₂ : close_at t.state d ≡ clear = close-clear t.state d d p i refl h in
      (e₂, record { first = d; between = rw e₂ (close-keeps t.state d d hs cs rows p i e₂) })

  pub record-goes : (s : Stand) → AtRest hs cs rows s → (es : Row) (h : SoundRow (open_slots hs cs k) es)
      → length rows < most_opened → length (closed_octets hs cs rows) + length (row_octets es) ≤ m
      → Goes m (record_calls (open_slots hs cs k) (tags_of (open_columns hs cs k)) es h)
      (AtRest hs cs (rows ++ (es ∷ []))) s
  unfolding open_outcome
  record-goes s o es h few r = λ d a e.
      let i = between-anew s.state s.octets o.first d a hs cs rows o.between in
      let s' : Stand = lent d s in
      let ts : List ℕ = tags_of (open_columns hs cs k) in
      let ss : List Slot = open_slots hs cs k in
      let f : List ℕ = closed_octets hs cs rows in
      let n : length es ≡ length (open_columns hs cs k) = row-long ss es h ∙ slots-open hs cs k in
      let lo : length (row_octets es) ≡ 4 + room (length es) + length (values_of es) = row_sized es in
      let q = ap room n in
      let e₁ : open_at s.state (length d) ≡ clear =
      open-clear s.state d d i few (record { limit = omega arith; buffer = omega arith }) in
      let y : Inside (after Open s').state (after Open s').octets d hs cs rows (opening hs cs rows) =
      rw e₁ (open-keeps s.state d d hs cs rows i e₁) in
      let bl : blank_row (length (open_columns hs cs k)) ≡ [] ++ blank_row (length es) = ap blank_row (sym n) in
      let lb : length (f ++ open_record (blank_row (length (open_columns hs cs k)))) ≡ length f + (4 + room (length es)) = blank-long f (length (open_columns hs cs k)) ∙ ap (λ (x : ℕ). length f + (4 + x)) (sym q) in
      let b =
      row_goes ss es h [] 0 (after Open s') (opening hs cs rows) (record { first = d; inside = y }) refl bl
      (omega arith) refl refl (omega arith) in (
        e₁,
        goes-append m (row_calls ss ts 0 es h) (Close ∷ []) (Filled hs cs rows es) (AtRest hs cs (rows ++ (es ∷ [])))
            (after Open s') b (λ t y. closing t es h y),
      )
    where
      row_sized : (es : Row) → length (row_octets es) ≡ 4 + room (length es) + length (values_of es)
      row_sized es = row_open es ∙ open-long es

      blank-long : (f : List ℕ) (n : ℕ) → length (f ++ open_record (blank_row n)) ≡ length f + (4 + room n)
      blank-long f n = length-append f (open_record (blank_row n)) ∙ ap (λ (x : ℕ). length f + x) (ap length (blank-record n) ∙ length-replicate (4 + room n) 0)

-- a record behind the header record
row_more : (m : ℕ) → m ≤ most_octets → (hs cs : List Column) (rows : List Row) (s : Stand) → AtRest hs cs rows s
    → 1 ≤ length rows → (es : Row) (h : SoundRow (row_slots cs) es) → length rows < most_opened
    → length (closed_octets hs cs rows) + length (row_octets es) ≤ m
    → Goes m (record_calls (row_slots cs) (tags_of cs) es h) (AtRest hs cs (rows ++ (es ∷ []))) s
row_more m most hs cs rows s i n es h few r =
    subst (λ (x : Bool). (h : SoundRow (cond x (head_slots hs) (row_slots cs)) es)
    → Goes m (record_calls (cond x (head_slots hs) (row_slots cs)) (tags_of (cond x hs cs)) es h)
    (AtRest hs cs (rows ++ (es ∷ []))) s)
    (ne_eqb (length rows + 1) 1 (λ e. omega arith)) (λ h. record-goes m most hs cs rows s i es h few r) h

rows-go : (m : ℕ) → m ≤ most_octets → (rs : List Row) (hs cs : List Column) (rows : List Row) (s : Stand)
    → AtRest hs cs rows s → 1 ≤ length rows → (h : SoundRows (row_slots cs) rs) → length rows + length rs ≤ most_opened
    → length (closed_octets hs cs rows) + length (rows_octets rs) ≤ m
    → Goes m (rows_calls cs rs h) (AtRest hs cs (rows ++ rs)) s
unfolding rows_calls
rows-go m most [] hs cs rows s i n h few r = rw (append-nil rows) i
rows-go m most (x ∷ rs) hs cs rows s i n h few r =
    let j = length-append (row_octets x) (rows_octets rs) in
    let calls : List Call = record_calls (row_slots cs) (tags_of cs) x h.0 in
    let a = row_more m most hs cs rows s i n x h.0 (omega arith) (omega arith) in
    let l : length (rows ++ (x ∷ [])) ≡ length rows + 1 = length-append rows (x ∷ []) in
    let c : length (closed_octets hs cs (rows ++ (x ∷ []))) ≡ length (closed_octets hs cs rows) + length (row_octets x) = ap length (rows_snoc hs cs rows x) ∙ length-append (closed_octets hs cs rows) (row_octets x) in
    rw (← append_assoc rows (x ∷ []) rs)
    (goes-append m calls (rows_calls cs rs h.1) (AtRest hs cs (rows ++ (x ∷ [])))
    (AtRest hs cs ((rows ++ (x ∷ [])) ++ rs)) s a
    (λ t y. rows-go m most rs hs cs (rows ++ (x ∷ [])) t y (omega arith) h.1 (omega arith) (omega arith)))

-- from the tables on
book-goes : (b : Book) (h : Sound b) (s : Stand) → AtRest b.heads b.cols [] s
    → Goes (length (book_octets b)) (calls_of b h) (AtRest b.heads b.cols (b.head ∷ b.rows)) s
unfolding calls_of
book-goes b h s i =
    let m : ℕ = length (book_octets b) in
    let head : List Call = record_calls (head_slots b.heads) (tags_of b.heads) b.head h.head in
    let l : length (book_octets b) ≡ length (closed_octets b.heads b.cols []) + length (row_octets b.head ++ rows_octets b.rows) = book-long b ∙ front_of_lem b in
    let n = length-append (row_octets b.head) (rows_octets b.rows) in
    let a = record-goes m h.short b.heads b.cols [] s i b.head h.head (omega arith) (omega arith) in
    let c : length (closed_octets b.heads b.cols (b.head ∷ [])) ≡ length (closed_octets b.heads b.cols []) + length (row_octets b.head) =
    ap length (rows_snoc b.heads b.cols [] b.head) ∙ length-append (closed_octets b.heads b.cols []) (row_octets b.head) in
    goes-append m head (rows_calls b.cols b.rows h.rows) (AtRest b.heads b.cols (b.head ∷ []))
    (AtRest b.heads b.cols (b.head ∷ b.rows)) s a
    (λ t y. rows-go m h.short b.rows b.heads b.cols (b.head ∷ []) t y (omega arith) h.rows
    (omega (arith, h.few)) (omega arith))
  where
    front_of_lem : (b : Book) → 12 + (meta_size (length b.heads) (length b.cols) + length (row_octets b.head ++ rows_octets b.rows))
        ≡ length (closed_octets b.heads b.cols []) + length (row_octets b.head ++ rows_octets b.rows)
    front_of_lem b = let c = closed-long b.heads b.cols [] in omega arith

finish-clear : (st : Writing) (d d₀ : List ℕ) (hs cs : List Column) (rows : List Row) → Between st d d₀ hs cs rows → 2 ≤ length rows → finish_at st (length d) ≡ clear
unfolding finish_at
finish-clear st d d₀ hs cs rows i h =
    rw (between-idle st d d₀ hs cs rows i, ne_eqb st.opened 0 (λ e. omega (arith, i.opened)), ne_eqb st.opened 1 (λ e. omega (arith, i.opened)))

-- p is the book b with the unused flag bits zero
writes : (b : Book) (h : Sound b) (p : Book) (k : Sound p) (d : List ℕ) → plain_book b ≡ p
    → length (book_octets b) ≤ length d → Writes b (calls_of p k) d (book_octets p)
writes b h p k d q r =
    let s : Stand = table_start b d in
    let l = book-long b in
    let e : begin_at (tags_of b.heads) (flags_of b.heads) (tags_of b.cols) (flags_of b.cols) (length d) ≡ clear =
    begin-taken b.heads b.cols (flags_of b.heads) (flags_of b.cols) h.heads h.cols
    (flags_long b.heads)
    (flags_long b.cols) (length d) (omega arith) in
    let i = begin-keeps (tags_of b.heads) (flags_of b.heads) (tags_of b.cols) (flags_of b.cols) d
    (tags-small [] b.heads h.heads.1) (tags-small [] b.cols h.cols.1) e in
    let x : columns_from (tags_of b.heads) (flags_of b.heads) ≡ p.heads =
    from-plain b.heads ∙ ap (λ (c : Book). c.heads) q in
    let y : columns_from (tags_of b.cols) (flags_of b.cols) ≡ p.cols =
    from-plain b.cols ∙ ap (λ (c : Book). c.cols) q in
    let j : Between s.state s.octets d p.heads p.cols [] = rw (x, y) at i in
    record {
      begins = e;
      goes =
          goes_on (length (book_octets p)) (calls_of p k) (AtRest p.heads p.cols (p.head ∷ p.rows))
          (λ t. (last : List ℕ) → AsLeft t.state t.octets last → Leaves (book_octets p) last t) s
          (book-goes p k s (record { first = d; between = j })) (λ t y last a. leaves t y last a);
    }
  where
    tags-small : (seen : List ℕ) (cs : List Column) → SoundColumns seen cs → Tags (tags_of cs)
    tags-small seen [] h = tt
    tags-small seen (c ∷ cs) h = (h.0.0, tags-small (c.tag ∷ seen) cs h.2)

    leaves : (t : Stand) → AtRest p.heads p.cols (p.head ∷ p.rows) t → (last : List ℕ)
        → AsLeft t.state t.octets last → Leaves (book_octets p) last t
    leaves t y last a =
        let j =
        between-anew t.state t.octets y.first last a p.heads p.cols (p.head ∷ p.rows)
        y.between in
        let f : finish_at t.state (length last) ≡ clear =
        finish-clear t.state last last p.heads p.cols (p.head ∷ p.rows) j (omega (arith, k.some)) in
        record {
          finishes = f;
          octets = (finish-is t.state last last p.heads p.cols
              (p.head ∷ p.rows) j f).octets;
        }

pub written-again : (b : Book) (h : Sound b) (d : List ℕ) → length (book_octets b) ≤ length d
    → Writes b (calls_of (plain_book b) (sound-plain b h)) d (book_octets (plain_book b))
written-again b h d r = writes b h (plain_book b) (sound-plain b h) d refl r

pub written_same : (b : Book) (h : Sound b) (d : List ℕ) → Unused b.heads → Unused b.cols
    → length (book_octets b) ≤ length d → Writes b (calls_of b h) d (book_octets b)
written_same b h d u v r = writes b h b h d (same-book b u v) r

pub accepted-again : (xs d : List ℕ) → Octets xs → judge xs ≡ clear → length xs ≤ length d → AcceptedAgain xs d
accepted-again xs d o e h =
    let b = judge-sound xs o e in
    record {
      book = b.book;
      sound = b.sound;
      reads = b.reads;
      again = written-again b.book b.sound d (rw (← ap length b.reads) h);
      same = λ p q. ap book_octets (same-book b.book p q) ∙ sym b.reads;
    }
