-- One entry of a row set or cleared: what becomes of its presence octets, its values and its octets, and that the row is sound again.
use Rattle.std.specs.Prelude.{ℕ, zero, suc, ◌+◌, ◌/◌, ◌<◌, ◌≡◌, refl, true, List, [], ◌∷◌, ◌++◌, eqb, length, get_or, set, take, drop}
use Rattle.std.proofs.Common.{add-zero, arith, sym, ap, ap₂, ◌∙◌, length-set, subst}
use Rattle.std.proofs.Math.Option.{Option, none, some}
use Rattle.std.proofs.lemmas.List.{set_split, set-get_or}
use Rattle.octets.specs.Octets.{Octets}
use Rattle.octets.specs.Word.{le_of}
use Rattle.presence.specs.Presence.{room, bit_at, is_set, spare_clear, set_same, set_other, spare-zero}
use Rattle.presence.specs.Clear.{spare-from, clear-same, clear-other, length-clear_bit, octets-clear_bit}
use Rattle.entry.specs.Present.{Row, there, presence_of, Bits, length-set_bit, octets-set_bit, presence-length, presence-octets, presence-bits, presence-spare, presence-one}
use Rattle.entry.specs.Record.{Slot, values_of, row_octets, SoundEntry, SoundRow}
use Rattle.entry.specs.Values.{values-from}
use Rattle.entry.specs.Values.{values-before}
use Rattle.entry.specs.Values.{value_offset}
use Rattle.entry.specs.Values.{entry_first}
use Rattle.entry.specs.Values.{entry_octets}
use Rattle.entry.specs.Values.{values-append}
use Rattle.editing.specs.Put.{put, mark}

-- ---- the presence octets

mark-other : (e : Option (List ℕ)) (p : List ℕ) (i j : ℕ) → (j ≡ i → ⊥) → bit_at (mark e p i) j ≡ bit_at p j
mark-other none p i j h = clear-other p i j h
mark-other (some v) p i j h = set_other p i j h

mark-same : (e : Option (List ℕ)) (p : List ℕ) (i : ℕ) → i / 8 < length p → is_set (mark e p i) i ≡ there e
mark-same none p i h = ap (λ (x : ℕ). eqb x 1) (clear-same p i h)
mark-same (some v) p i h = ap (λ (x : ℕ). eqb x 1) (set_same p i h)

pub mark-length : (e : Option (List ℕ)) (p : List ℕ) (i : ℕ) → length (mark e p i) ≡ length p
mark-length none p i = length-clear_bit p i
mark-length (some v) p i = length-set_bit p i

mark-octets : (e : Option (List ℕ)) (p : List ℕ) (i : ℕ) → Octets p → Octets (mark e p i)
mark-octets none p i o j = octets-clear_bit p i o j
mark-octets (some v) p i o j = octets-set_bit p i o j

bits-kept : (e : Option (List ℕ)) (p : List ℕ) (i k : ℕ) (es : Row) → i < k → Bits p k es → Bits (mark e p i) k es
bits-kept e p i k [] h b = tt
bits-kept e p i k (x ∷ es) h b = (ap (λ (x : ℕ). eqb x 1) (mark-other e p i k (omega arith)) ∙ b.0, bits-kept e p i (suc k) es (omega arith) b.1)

bits_put : (e : Option (List ℕ)) (p : List ℕ) (k j : ℕ) (es : Row) → j < length es → (k + j) / 8 < length p → Bits p k es → Bits (mark e p (k + j)) k (set es j e)
bits_put e p k j [] h l b = absurd (omega arith)
bits_put e p k zero (x ∷ es) h l b =
    let z : k + 0 ≡ k = add-zero k in
    (rw z (mark-same e p k (rw z at l)), let P : ℕ → Type 0 = λ n. Bits (mark e p n) (suc k) es in subst P (sym z) (bits-kept e p k (suc k) es (omega arith) b.1))
bits_put e p k (suc j) (x ∷ es) h l b =
    let z : k + suc j ≡ suc k + j = omega arith in
    (ap (λ (x : ℕ). eqb x 1) (mark-other e p (k + suc j) k (omega arith)) ∙ b.0, let P : ℕ → Type 0 = λ n. Bits (mark e p n) (suc k) (set es j e) in subst P (sym z) (bits_put e p (suc k) j es (omega arith) (rw z at l) b.1))

pub presence-put : (e : Option (List ℕ)) (i : ℕ) (es : Row) → i < length es → presence_of (set es i e) ≡ mark e (presence_of es) i
presence-put e i es h =
    let p : List ℕ = presence_of es in
    let m : length (set es i e) ≡ length es = length-set es i e in
    let l : length p ≡ room (length es) = presence-length es in
    let z : 0 + i ≡ i = omega arith in
    let b : Bits (mark e p i) 0 (set es i e) = rw z at (bits_put e p 0 i es h (omega arith) (presence-bits es)) in
    let s : spare_clear (mark e p i) (length es) ≡ true =
    spare-from (mark e p i) (length es) (λ j g k. mark-other e p i j (omega arith) ∙ spare-zero p (length es) j (presence-spare es) g k) in
    sym (presence-one (mark e p i) (set es i e) (mark-octets e p i (presence-octets es)) (mark-length e p i ∙ l ∙ ap room (sym m)) (rw m s) b)

-- ---- the values

pub values-cut : (e : Option (List ℕ)) (i : ℕ) (es : Row) → i < length es → values_of (set es i e) ≡ values_of (take i es) ++ (entry_octets e ++ values_of (drop (suc i) es))
values-cut e i es h =
    ap values_of (set_split es i e h) ∙ values-append (take i es) (e ∷ drop (suc i) es) ∙ ap (λ (l : List ℕ). values_of (take i es) ++ l) (entry_first e (drop (suc i) es))

pub values-put : (e : Option (List ℕ)) (i : ℕ) (es : Row) → i < length es → values_of (set es i e) ≡ put (value_offset i es) (value_offset (suc i) es) (entry_octets e) (values_of es)
values-put e i es h =
    values-cut e i es h ∙ ap₂ (λ (x y : List ℕ). x ++ (entry_octets e ++ y)) (sym (values-before i es)) (sym (values-from (suc i) es))

-- the entry that stands in column i
abbrev pub entry_at : Row → ℕ → Option (List ℕ)
entry_at es i = get_or es i none

pub values-here : (i : ℕ) (es : Row) → i < length es → values_of es ≡ values_of (take i es) ++ (entry_octets (entry_at es i) ++ values_of (drop (suc i) es))
values-here i es h = ap values_of (sym (set-get_or es i none)) ∙ values-cut (entry_at es i) i es h

-- ---- the whole record

-- a record whose presence octets and values are given
unfoldable pub framed : List ℕ → List ℕ → List ℕ
framed p vs = le_of 4 (4 + length (p ++ vs)) ++ (p ++ vs)

pub row-framed : (es : Row) → row_octets es ≡ framed (presence_of es) (values_of es)
unfolding row_octets framed
row-framed es = refl

-- THE law of setting and clearing a value
pub row_put : (e : Option (List ℕ)) (i : ℕ) (es : Row) → i < length es
    → row_octets (set es i e) ≡ framed (mark e (presence_of es) i) (put (value_offset i es) (value_offset (suc i) es) (entry_octets e) (values_of es))
row_put e i es h = row-framed (set es i e) ∙ ap₂ framed (presence-put e i es h) (values-put e i es h)

pub put-sound : (e : Option (List ℕ)) (s : Slot) (i : ℕ) (ss : List Slot) (es : Row) → SoundRow ss es → i < length ss → SoundEntry (get_or ss i s) e → SoundRow ss (set es i e)
put-sound e s i [] [] h l g = absurd (omega arith)
put-sound e s i [] (x ∷ es) h l g = absurd h
put-sound e s i (t ∷ ss) [] h l g = absurd h
put-sound e s zero (t ∷ ss) (x ∷ es) h l g = (g, h.1)
put-sound e s (suc i) (t ∷ ss) (x ∷ es) h l g = (h.0, put-sound e s i ss es h.1 (omega arith) g)
