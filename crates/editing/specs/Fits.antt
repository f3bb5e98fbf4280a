-- Whether a part stands in the book and what replaces it has room: what the steps of a correction ask of their arguments themselves, so that they need no
-- promise of their caller. Where it does not fit nothing changes.
use Rattle.std.specs.Prelude.{ℕ, ◌+◌, ◌-◌, ◌≤◌, ◌<◌, ◌≡◌, refl, Bool, true, false, cond, List, eqb, ltb, leb, length, take, drop}
use Rattle.std.proofs.Common.{arith, sym, ap, ◌∙◌}
use Rattle.std.proofs.Math.Option.{Option}
use borrow.Author.Tests.{lt-ltb, le-ltb, le-leb, eq-eqb, ltb-false, leb-true, eqb-true}
use Rattle.octets.specs.Octets.{no-octets}
use Rattle.octets.specs.Word.{word_of}
use Rattle.presence.specs.Presence.{room}
use Rattle.entry.specs.Record.{present_in}
use Rattle.entry.specs.Values.{entry_octets}
use Rattle.editing.specs.Put.{put, buffer_of, resealed, spliced}
use Rattle.editing.specs.InPlace.{offered}
use Rattle.editing.specs.declared.Cell.{Cell}
use Rattle.octets.specs.Cases.{passed}

-- ---- records

unfoldable pub part_fits : ℕ → ℕ → ℕ → ℕ → ℕ → Bool
part_fits n len a e k =
    cond (ltb a 12) false
    (cond (ltb e a) false
    (cond (ltb len e) false
    (cond (ltb n len) false
    (leb k (n - (a + (len - e)))))))

unfoldable pub records_put : List ℕ → ℕ → ℕ → ℕ → List ℕ → ℕ → List ℕ
records_put d len a e new count = cond (part_fits (length d) len a e (length new)) (buffer_of d len (resealed count (put a e new (take len d)))) d

module _ (n len a e k : ℕ) where
  pub part_low : a < 12 → false ≡ part_fits n len a e k
  unfolding part_fits
  part_low h = rw (lt-ltb a 12 h)

  module _ (h₁ : 12 ≤ a) where
    pub part_turned : e < a → false ≡ part_fits n len a e k
    unfolding part_fits
    part_turned h = rw (le-ltb a 12 h₁, lt-ltb e a h)

    module _ (h₂ : a ≤ e) where
      pub part-past : len < e → false ≡ part_fits n len a e k
      unfolding part_fits
      part-past h = rw (le-ltb a 12 h₁, le-ltb e a h₂, lt-ltb len e h)

      module _ (h₃ : e ≤ len) where
        pub part-over : n < len → false ≡ part_fits n len a e k
        unfolding part_fits
        part-over h = rw (le-ltb a 12 h₁, le-ltb e a h₂, le-ltb len e h₃, lt-ltb n len h)

        pub part-last : len ≤ n → leb k (n - (a + (len - e))) ≡ part_fits n len a e k
        unfolding part_fits
        part-last h = rw (le-ltb a 12 h₁, le-ltb e a h₂, le-ltb len e h₃, le-ltb n len h)

pub ruleset parts = (part_low, part_turned, part-past, part-over, part-last)

pub part-keeps : (n len a e k : ℕ) → part_fits n len a e k ≡ true → (12 ≤ a) × (a ≤ e) × (e ≤ len) × (len ≤ n) × (a + k + (len - e) ≤ n)
unfolding part_fits
part-keeps n len a e k q =
    let p₁ = passed (ltb a 12) _ q in
    let p₂ = passed (ltb e a) _ p₁.1 in
    let p₃ = passed (ltb len e) _ p₂.1 in
    let p₄ = passed (ltb n len) _ p₃.1 in
    let h₁ = ltb-false a 12 p₁.0 in
    let h₂ = ltb-false e a p₂.0 in
    let h₃ = ltb-false len e p₃.0 in
    let h₄ = ltb-false n len p₄.0 in
    let h₅ = leb-true k (n - (a + (len - e))) p₄.1 in
    (h₁, h₂, h₃, h₄, omega arith)

pub part-kept : (n len a e k : ℕ) (b : Bool) → b ≡ part_fits n len a e k → b ≡ true → (12 ≤ a) × (a ≤ e) × (e ≤ len) × (len ≤ n) × (a + k + (len - e) ≤ n)
part-kept n len a e k b f z = part-keeps n len a e k (sym f ∙ z)

pub part-there : (n len a e k : ℕ) → (12 ≤ a) × (a ≤ e) × (e ≤ len) × (len ≤ n) × (a + k + (len - e) ≤ n) → part_fits n len a e k ≡ true
part-there n len a e k h =
    let h₁ = h.0 in
    let h₂ = h.1 in
    let h₃ = h.2 in
    let h₄ = h.3 in
    let h₅ = h.4 in
    sym (part-last n len a e k h₁ h₂ h₃ h₄) ∙ le-leb k (n - (a + (len - e))) (omega arith)

module _ (d new : List ℕ) (len a e count : ℕ) (b : Bool) (f : b ≡ part_fits (length d) len a e (length new)) where
  pub records-put : (x : List ℕ) → b ≡ true → x ≡ buffer_of d len (resealed count (put a e new (take len d))) → x ≡ records_put d len a e new count
  unfolding records_put
  records-put x z q = rw (← f, z) q

  pub records-left : b ≡ false → d ≡ records_put d len a e new count
  unfolding records_put
  records-left z = rw (← f, z)

pub ruleset record_ways = (records-put, records-left)

-- in a caller's hands, whose part fits
pub records-fit : (d new : List ℕ) (len a e count : ℕ) (x : List ℕ) → (12 ≤ a) × (a ≤ e) × (e ≤ len) × (len ≤ length d) × (a + length new + (len - e) ≤ length d)
    → x ≡ records_put d len a e new count → x ≡ buffer_of d len (resealed count (put a e new (take len d)))
unfolding records_put
records-fit d new len a e count x h q = rw (part-there (length d) len a e (length new) h) at q

-- ---- an entry: size is its record's size field

abbrev pub offers : Bool → ℕ → Bool
offers true k = true
offers false k = eqb k 0

unfoldable pub entry_fits : ℕ → ℕ → Cell → ℕ → Bool → ℕ → Bool
entry_fits n len s k there size =
    cond (ltb s.place 12) false
    (cond (ltb n len) false
    (cond (ltb len s.start) false
    (cond (ltb (len - s.start) s.long) false
    (cond (ltb s.start s.place) false
    (cond (ltb (s.start - s.place) (4 + room s.columns)) false
    (cond (ltb size s.long) false
    (cond (ltb (n - (len - s.long)) k) false
    (offers there k))))))))

abbrev pub entry_put : List ℕ → ℕ → Cell → Option (List ℕ) → ℕ → List ℕ
entry_put d len s e count =
    buffer_of d len (resealed count (spliced s.place s.columns s.column s.start s.long
    (word_of 4 (drop s.place (take len d)) + length (entry_octets e) - s.long) e (present_in s.columns (drop s.place (take len d))) (take len d)))

unfoldable pub entry_behind : List ℕ → ℕ → Cell → Bool → List ℕ → ℕ → List ℕ
entry_behind d len s there v count = cond (entry_fits (length d) len s (length v) there (word_of 4 (drop s.place d))) (entry_put d len s (offered there v) count) d

module _ (n len : ℕ) (s : Cell) (k : ℕ) (there : Bool) (size : ℕ) where
  pub cell-low : s.place < 12 → false ≡ entry_fits n len s k there size
  unfolding entry_fits
  cell-low h = rw (lt-ltb s.place 12 h)

  module _ (h₁ : 12 ≤ s.place) where
    pub cell-over : n < len → false ≡ entry_fits n len s k there size
    unfolding entry_fits
    cell-over h = rw (le-ltb s.place 12 h₁, lt-ltb n len h)

    module _ (h₂ : len ≤ n) where
      pub cell-past : len < s.start → false ≡ entry_fits n len s k there size
      unfolding entry_fits
      cell-past h = rw (le-ltb s.place 12 h₁, le-ltb n len h₂, lt-ltb len s.start h)

      module _ (h₃ : s.start ≤ len) where
        pub cell-long : len - s.start < s.long → false ≡ entry_fits n len s k there size
        unfolding entry_fits
        cell-long h = rw (le-ltb s.place 12 h₁, le-ltb n len h₂, le-ltb len s.start h₃, lt-ltb (len - s.start) s.long h)

        module _ (h₄ : s.long ≤ len - s.start) where
          pub cell-turned : s.start < s.place → false ≡ entry_fits n len s k there size
          unfolding entry_fits
          cell-turned h = rw (le-ltb s.place 12 h₁, le-ltb n len h₂, le-ltb len s.start h₃, le-ltb (len - s.start) s.long h₄, lt-ltb s.start s.place h)

          module _ (h₅ : s.place ≤ s.start) (m : ℕ) (e : m ≡ room s.columns) where
            pub cell-near : s.start - s.place < 4 + m → false ≡ entry_fits n len s k there size
            unfolding entry_fits
            cell-near h = rw (← e, le-ltb s.place 12 h₁, le-ltb n len h₂, le-ltb len s.start h₃, le-ltb (len - s.start) s.long h₄, le-ltb s.start s.place h₅, lt-ltb (s.start - s.place) (4 + m) h)

            module _ (h₆ : 4 + m ≤ s.start - s.place) where
              pub cell-wide : size < s.long → false ≡ entry_fits n len s k there size
              unfolding entry_fits
              cell-wide h = rw (← e, le-ltb s.place 12 h₁, le-ltb n len h₂, le-ltb len s.start h₃, le-ltb (len - s.start) s.long h₄, le-ltb s.start s.place h₅, le-ltb (s.start - s.place) (4 + m) h₆, lt-ltb size s.long h)

              module _ (h₇ : s.long ≤ size) where
                pub cell_full : n - (len - s.long) < k → false ≡ entry_fits n len s k there size
                unfolding entry_fits
                cell_full h =
                    rw (← e, le-ltb s.place 12 h₁, le-ltb n len h₂, le-ltb len s.start h₃, le-ltb (len - s.start) s.long h₄, le-ltb s.start s.place h₅, le-ltb (s.start - s.place) (4 + m) h₆, le-ltb size s.long h₇, lt-ltb (n - (len - s.long)) k h)

                pub cell-last : (b : Bool) → k ≤ n - (len - s.long) → b ≡ offers there k → b ≡ entry_fits n len s k there size
                unfolding entry_fits
                cell-last b h q =
                    rw (← e, le-ltb s.place 12 h₁, le-ltb n len h₂, le-ltb len s.start h₃, le-ltb (len - s.start) s.long h₄, le-ltb s.start s.place h₅, le-ltb (s.start - s.place) (4 + m) h₆, le-ltb size s.long h₇, le-ltb (n - (len - s.long)) k h) q

                pub cell-there : k ≤ n - (len - s.long) → there ≡ true → true ≡ entry_fits n len s k there size
                cell-there h q = cell-last true h (rw q)

                pub cell-absent : k ≤ n - (len - s.long) → there ≡ false → eqb k 0 ≡ entry_fits n len s k there size
                cell-absent h q = cell-last (eqb k 0) h (rw q)

pub ruleset cells = (cell-low, cell-over, cell-past, cell-long, cell-turned, cell-near, cell-wide, cell_full)

pub record EntryFits (n len : ℕ) (s : Cell) (k : ℕ) (there : Bool) (size : ℕ) : Type 0 where
  pub behind : 12 ≤ s.place
  pub wide : s.place + 4 + room s.columns ≤ s.start
  pub within : s.start + s.long ≤ len
  pub held : len ≤ n
  pub fits : len - s.long + k ≤ n
  pub sized : s.long ≤ size
  pub offered : offers there k ≡ true

pub entry_in_lem : (n len : ℕ) (s : Cell) (k : ℕ) (there : Bool) (size : ℕ) → entry_fits n len s k there size ≡ true → EntryFits n len s k there size
unfolding entry_fits
entry_in_lem n len s k there size q =
    let p₁ = passed (ltb s.place 12) _ q in
    let p₂ = passed (ltb n len) _ p₁.1 in
    let p₃ = passed (ltb len s.start) _ p₂.1 in
    let p₄ = passed (ltb (len - s.start) s.long) _ p₃.1 in
    let p₅ = passed (ltb s.start s.place) _ p₄.1 in
    let p₆ = passed (ltb (s.start - s.place) (4 + room s.columns)) _ p₅.1 in
    let p₇ = passed (ltb size s.long) _ p₆.1 in
    let p₈ = passed (ltb (n - (len - s.long)) k) _ p₇.1 in
    let h₂ = ltb-false n len p₂.0 in
    let h₃ = ltb-false len s.start p₃.0 in
    let h₄ = ltb-false (len - s.start) s.long p₄.0 in
    let h₅ = ltb-false s.start s.place p₅.0 in
    let h₆ = ltb-false (s.start - s.place) (4 + room s.columns) p₆.0 in
    let h₈ = ltb-false (n - (len - s.long)) k p₈.0 in
    record {
      behind = ltb-false s.place 12 p₁.0;
      wide = omega arith;
      within = omega arith;
      held = h₂;
      fits = omega arith;
      sized = ltb-false size s.long p₇.0;
      offered = p₈.1;
    }

offered-is : (there : Bool) (v : List ℕ) → offers there (length v) ≡ true → v ≡ entry_octets (offered there v)
offered-is true v h = refl
offered-is false v h = no-octets v (eqb-true (length v) 0 h)

module _ (d v : List ℕ) (len : ℕ) (s : Cell) (there : Bool) (count size : ℕ) (b : Bool) (e : size ≡ word_of 4 (drop s.place d)) (f : b ≡ entry_fits (length d) len s (length v) there size) where
  pub entry_kept : b ≡ true → (12 ≤ s.place) × (s.place + 4 + room s.columns ≤ s.start) × (s.start + s.long ≤ len) × (len ≤ length d)
      × (len - s.long + length v ≤ length d) × (s.long ≤ word_of 4 (drop s.place d)) × (v ≡ entry_octets (offered there v))
  entry_kept z =
      let k = entry_in_lem (length d) len s (length v) there size (sym f ∙ z) in
      (k.behind, k.wide, k.within, k.held, k.fits, rw e at k.sized, offered-is there v k.offered)

  pub entry-put : (x : List ℕ) → b ≡ true → x ≡ entry_put d len s (offered there v) count → x ≡ entry_behind d len s there v count
  unfolding entry_behind
  entry-put x z q = rw (← e, ← f, z) q

  pub entry-left : b ≡ false → d ≡ entry_behind d len s there v count
  unfolding entry_behind
  entry-left z = rw (← e, ← f, z)

pub ruleset entry_ways = (entry-put, entry-left)

-- in a caller's hands, whose entry fits
pub entry-fit : (d v : List ℕ) (len : ℕ) (s : Cell) (there : Bool) (count : ℕ) (x : List ℕ)
    → (12 ≤ s.place) × (s.place + 4 + room s.columns ≤ s.start) × (s.start + s.long ≤ len) × (len ≤ length d)
    × (len - s.long + length v ≤ length d) × (s.long ≤ word_of 4 (drop s.place d)) × (v ≡ entry_octets (offered there v))
    → x ≡ entry_behind d len s there v count → x ≡ entry_put d len s (offered there v) count
unfolding entry_behind
entry-fit d v len s there count x h q =
    let h₁ = h.0 in
    let h₂ = h.1 in
    let h₃ = h.2 in
    let h₄ = h.3 in
    let h₅ = h.4 in
    let h₆ = h.5 in
    let t : entry_fits (length d) len s (length v) there (word_of 4 (drop s.place d)) ≡ true =
    sym (cell-last (length d) len s (length v) there (word_of 4 (drop s.place d)) h₁ h₄ (omega arith) (omega arith) (omega arith) (room s.columns) refl (omega arith) h₆ true (omega arith) (sym (offers-is there v h.6))) in
    rw t at q
  where
    offers-is : (t : Bool) (v : List ℕ) → v ≡ entry_octets (offered t v) → offers t (length v) ≡ true
    offers-is true v e = refl
    offers-is false v e = eq-eqb (length v) 0 (ap length e)
