-- What leaves every octet of the buffer: a refused call; clearing a value that is absent, and setting the value that is there (decision 21).
use Rattle.std.specs.Prelude.{Err, Some, None, Ok, ℕ, ◌≤◌, ◌≡◌, List}
use Rattle.std.proofs.Common.{arith, ◌∙◌}
use Rattle.std.proofs.Math.Path.{refl, sym, ap}
use Rattle.std.proofs.Math.Option.{Option, none, some}
use Rattle.std.proofs.Math.ListN.{length, take}
use Rattle.std.proofs.Math.Seq.{length-take-le}
use Rattle.octets.specs.Cases.{split}
use Rattle.octets.specs.Octets.{Octets, octets-take}
use Rattle.answers.specs.Made.{refused-keeps}
use Rattle.answers.specs.Verdict.{Verdict}
use Rattle.answers.specs.Verdict.{clear, Refused}
use Rattle.answers.specs.declared.Refusal.{Refusal}
use Rattle.answers.specs.Verdict.{kept}
use Rattle.table.specs.Columns.{tags_of}
use Rattle.table.specs.Found.{Found}
use Rattle.table.specs.Found.{At, Nothing}
use Rattle.entry.specs.Record.{no_slot, sound-entry}
use Rattle.book.specs.Book.{Book, book_octets, judge}
use Rattle.book.specs.Whole.{judge-sound}
use Rattle.lookup.specs.Look.{column_in, look_in, look_by, lookup_of, stretch_of}
use Rattle.lookup.specs.Laws.{column-in}
use Rattle.lookup.specs.declared.Which.{Which}
use Rattle.lookup.specs.declared.Which.TheVariants.{Header, Number}
use Rattle.editing.specs.Put.{buffer_of}
use Rattle.editing.specs.Entry.{entry_at}
use Rattle.editing.specs.Done.{set_to, set_same}
use Rattle.lookup.specs.Named.{There, columns_for, slots_under, slots-reach, row_for, row-sound}
use Rattle.correcting.specs.Correct.{set_at, set_book, set_answer, set_octets, insert_at, insert_book, insert_answer}
use Rattle.correcting.specs.Correct.{insert_octets, delete_at, delete_book, delete_answer, delete_octets}
use Rattle.corrected.specs.Buffer.{buffer-same}
use Rattle.corrected.specs.Call.{BookIn}
use Rattle.corrected.specs.Set.{SetMay, set-book, set-clear, set-answered}
use Rattle.corrected.specs.Handed.{refused, handed_by, handed_of, entry_on, handed_in, handed-is, handed-past}

-- ---- a refused call

-- A refused set or clear changes no octet.
pub set-refused : (d : List ℕ) (len : ℕ) (which : Which) (t : ℕ) (e : Option (List ℕ)) (r : Refusal)
    → set_answer d len which t e ≡ Err r → set_octets d len which t e ≡ d
unfolding set_answer set_octets
set-refused d len which t e r q = refused-keeps (set_at d len which t e) (length (set_book d len which t e)) r d (buffer_of d len (set_book d len which t e)) q

-- Nor does a refused insert.
pub insert-refused : (d : List ℕ) (len k : ℕ) (new : List ℕ) (r : Refusal) → insert_answer d len k new ≡ Err r
    → insert_octets d len k new ≡ d
unfolding insert_answer insert_octets
insert-refused d len k new r q = refused-keeps (insert_at d len k new) (length (insert_book d len k new)) r d (buffer_of d len (insert_book d len k new)) q

-- Nor a refused delete.
pub delete-refused : (d : List ℕ) (len k : ℕ) (r : Refusal) → delete_answer d len k ≡ Err r
    → delete_octets d len k ≡ d
unfolding delete_answer delete_octets
delete-refused d len k r q = refused-keeps (delete_at d len k) (length (delete_book d len k)) r d (buffer_of d len (delete_book d len k)) q

-- ---- what a lookup that isn't refused tells

no-refusal : {X : Type 0} (r : Refusal) (e : Option (List ℕ)) → refused r ≡ entry_on e → X
no-refusal r none q = let z : ◌≡◌ {A = ℕ} 0 1 = cc in absurd (omega arith)
no-refusal r (some v) q = let z : ◌≡◌ {A = ℕ} 0 1 = cc in absurd (omega arith)

entry-one : (a e : Option (List ℕ)) → entry_on a ≡ entry_on e → a ≡ e
entry-one none none q = refl
entry-one none (some w) q = let z : ◌≡◌ {A = ℕ} 0 1 = cc in absurd (omega arith)
entry-one (some v) none q = let z : ◌≡◌ {A = ℕ} 0 1 = cc in absurd (omega arith)
entry-one (some v) (some w) q = let z : v ≡ w = cc in ap some z

handed-good : (xs : List ℕ) (which : Which) (t : ℕ) (e : Option (List ℕ)) → handed_of xs which t ≡ entry_on e → judge xs ≡ clear
unfolding handed_of lookup_of
handed-good xs which t e q = go (judge xs) q
  where
    go : (v : Verdict) → handed_by xs (look_by v (look_in xs which t)) ≡ entry_on e → v ≡ clear
    go (Ok _) q = refl
    go (Refused r) q = no-refusal r e q

handed-there : (d : List ℕ) (len : ℕ) (x : BookIn d len) (which : Which) (t : ℕ) (e : Option (List ℕ)) → handed_of (book_octets x.book) which t ≡ entry_on e → There x.book which
handed-there d len x Header t e q = tt
handed-there d len x (Number k) t e q =
    split k (length x.book.rows) (λ h. h) (λ h. no-refusal _ e (sym (handed-past x.book x.sound k t h) ∙ q))

-- ---- the value that is there

module _ (d : List ℕ) (len : ℕ) (which : Which) (t : ℕ) (e : Option (List ℕ)) where
  same-may : (x : BookIn d len) (c : ℕ) → There x.book which → column_in t (tags_of (columns_for x.book which)) ≡ At c → entry_at (row_for x.book which) c ≡ e → SetMay d len which t e
  same-may x c h f q =
      let b : Book = x.book in
      let l = column-in t (columns_for b which) c f in
      let r = slots-reach b which in
      let z = ap (λ (u : Book). length (book_octets u)) (set_same b which c e h q) in
      let y = ap length x.reads in
      let w = length-take-le len d x.whole in
      let i = x.sound.short in
      let j = x.whole in
      record {
        on = x;
        named = h;
        column = c;
        found = f;
        holds = rw q at (sound-entry (slots_under b which) (row_for b which) c no_slot (row-sound b x.sound which h) (omega arith));
        short = omega arith;
        room = omega arith;
      }

  same_set : (x : SetMay d len which t e) → entry_at (row_for x.on.book which) x.column ≡ e
      → (set_answer d len which t e ≡ Ok len) × (set_octets d len which t e ≡ d)
  unfolding set_octets
  same_set x q =
      let b : Book = x.on.book in
      let z : set_to which x.column e b ≡ b = set_same b which x.column e x.named q in
      let y : set_book d len which t e ≡ take len d = set-book d len which t e x ∙ ap book_octets z ∙ sym x.on.reads in
      let w : length (book_octets (set_to which x.column e b)) ≡ len = ap (λ (u : Book). length (book_octets u)) z ∙ ap length (sym x.on.reads) ∙ length-take-le len d x.on.whole in (
        set-answered d len which t e x ∙ ap Ok w,
        ap (λ (v : Verdict). kept v d (buffer_of d len (set_book d len which t e))) (set-clear d len which t e x) ∙ ap (buffer_of d len) y ∙ buffer-same d len x.on.whole,
      )

  from-book : (x : BookIn d len) → handed_of (book_octets x.book) which t ≡ entry_on e
      → (set_answer d len which t e ≡ Ok len) × (set_octets d len which t e ≡ d)
  unfolding same-may
  from-book x q =
      let h : There x.book which = handed-there d len x which t e q in
      go (column_in t (tags_of (columns_for x.book which))) refl h (sym (handed-is x.book x.sound which t h) ∙ q)
    where
      go : (f : Found) → column_in t (tags_of (columns_for x.book which)) ≡ f → There x.book which → handed_in f (row_for x.book which) ≡ entry_on e
          → (set_answer d len which t e ≡ Ok len) × (set_octets d len which t e ≡ d)
      go Nothing z h q = no-refusal _ e q
      go (At c) z h q = let y = entry-one (entry_at (row_for x.book which) c) e q in same_set (same-may x c h z y) y

-- Where a lookup hands back what is offered, the call is done, the answer is the old length, and no octet changes.
pub unchanged : (d : List ℕ) → Octets d → (len : ℕ) → len ≤ length d → (which : Which) (t : ℕ) (e : Option (List ℕ)) → handed_of (take len d) which t ≡ entry_on e
    → (set_answer d len which t e ≡ Ok len) × (set_octets d len which t e ≡ d)
unchanged d o len h which t e q =
    let b = judge-sound (take len d) (octets-take len d o) (handed-good (take len d) which t e q) in
    from-book d len which t e (record { book = b.book; sound = b.sound; reads = b.reads; whole = h }) (ap (λ (z : List ℕ). handed_of z which t) (sym b.reads) ∙ q)

-- Clearing a value that is absent.
pub clear-absent : (d : List ℕ) → Octets d → (len : ℕ) → len ≤ length d → (which : Which) (t : ℕ) → lookup_of (take len d) which t ≡ Ok None
    → (set_answer d len which t none ≡ Ok len) × (set_octets d len which t none ≡ d)
unfolding handed_of
clear-absent d o len h which t q = unchanged d o len h which t none (ap (handed_by (take len d)) q)

-- Setting the value that is there, which is the stretch of a lookup.
pub set-again : (d : List ℕ) → Octets d → (len : ℕ) → len ≤ length d → (which : Which) (t s f : ℕ) → lookup_of (take len d) which t ≡ Ok (Some (s, f))
    → (set_answer d len which t (some (stretch_of (take len d) which t)) ≡ Ok len)
    × (set_octets d len which t (some (stretch_of (take len d) which t)) ≡ d)
unfolding handed_of stretch_of
set-again d o len h which t s f q = unchanged d o len h which t (some (stretch_of (take len d) which t)) (rw q)
