-- The presence octets of a row, bit by bit from the first column on, in two octets: as many as a sheet's columns need.
-- Assumes nothing.
use Rattle.std.specs.Prelude.{ℕ, zero, suc, ◌+◌, ◌-◌, ◌*◌, ◌/◌, ◌≤◌, ◌<◌, ◌≡◌, refl, List, [], ◌∷◌, ◌++◌, length, take, replicate, set}
use Rattle.std.proofs.Common.{zero-add, arith, sym, ap, ◌∙◌, take_at}
use Rattle.std.proofs.Math.Decide.{ℕ_discrete}
use Rattle.std.proofs.Math.Option.{none, some}
use Rattle.std.proofs.Math.ListN.{get_or-append}
use Rattle.octets.specs.Octets.{Octets}
use Rattle.presence.specs.Presence.{room, bit_at, set_bit, set_same, set_other, bits-ext}
use Rattle.entry.specs.Present.{Row, marks, presence_of, marks-length}
use Rattle.entry.specs.Present.{length-set_bit, octets-set_bit, zeros}

-- the octets p with the bits set of those entries that are there, the first of them at bit i
unfoldable pub marks_on : List ℕ → ℕ → Row → List ℕ
marks_on p i [] = p
marks_on p i (none ∷ es) = marks_on p (suc i) es
marks_on p i (some v ∷ es) = marks_on (set_bit p i) (suc i) es

-- in which order two bits are set is all the same
set-swap : (p : List ℕ) (i k : ℕ) → Octets p → (i ≡ k → ⊥) → set_bit (set_bit p i) k ≡ set_bit (set_bit p k) i
set-swap p i k o n =
    bits-ext (set_bit (set_bit p i) k) (set_bit (set_bit p k) i)
    (length-set_bit (set_bit p i) k ∙ length-set_bit p i ∙ sym (length-set_bit p k) ∙ sym (length-set_bit (set_bit p k) i))
    (octets-set_bit (set_bit p i) k (octets-set_bit p i o)) (octets-set_bit (set_bit p k) i (octets-set_bit p k o)) same
  where
    long : length (set_bit (set_bit p i) k) ≡ length p
    long = length-set_bit (set_bit p i) k ∙ length-set_bit p i

    same : (j : ℕ) → j < 8 * length (set_bit (set_bit p i) k)
        → bit_at (set_bit (set_bit p i) k) j ≡ bit_at (set_bit (set_bit p k) i) j
    same j h =
        let l = long in
        let a = length-set_bit p i in
        let b = length-set_bit p k in
        elim (ℕ_discrete j k) [
          | yes e ↦
              rw e
              (set_same (set_bit p i) k (omega arith)
              ∙ sym (set_other (set_bit p k) i k (λ z. n (sym z)) ∙ set_same p k (omega arith)))
          | no e ↦
              elim (ℕ_discrete j i) [
                | yes q ↦
                    rw q
                    (set_other (set_bit p i) k i (λ z. n z) ∙ set_same p i (omega arith)
                    ∙ sym (set_same (set_bit p k) i (omega arith)))
                | no q ↦
                    set_other (set_bit p i) k j e ∙ set_other p i j q
                    ∙ sym (set_other (set_bit p k) i j q ∙ set_other p k j e)
              ]
        ]

on-set : (es : Row) (p : List ℕ) (k i : ℕ) → Octets p → k < i → marks_on (set_bit p k) i es ≡ set_bit (marks_on p i es) k
unfolding marks_on
on-set [] p k i o h = refl
on-set (none ∷ es) p k i o h = on-set es p k (suc i) o (omega arith)
on-set (some v ∷ es) p k i o h =
    ap (λ (q : List ℕ). marks_on q (suc i) es) (set-swap p k i o (λ e. omega arith))
    ∙ on-set es (set_bit p i) k (suc i) (octets-set_bit p i o) (omega arith)

pub marks-on : (es : Row) (m i : ℕ) → marks_on (replicate m 0) i es ≡ marks m i es
unfolding marks_on marks
marks-on [] m i = refl
marks-on (none ∷ es) m i = marks-on es m (suc i)
marks-on (some v ∷ es) m i =
    on-set es (replicate m 0) i (suc i) (λ j. rw (zeros m j) (omega arith)) (omega arith)
    ∙ ap (λ (q : List ℕ). set_bit q i) (marks-on es m (suc i))

-- ---- in more octets than are needed

set_front : (p r : List ℕ) (j v : ℕ) → j < length p → set (p ++ r) j v ≡ set p j v ++ r
set_front [] r j v h = absurd (omega arith)
set_front (x ∷ p) r zero v h = refl
set_front (x ∷ p) r (suc j) v h = ap (λ (l : List ℕ). x ∷ l) (set_front p r j v (omega arith))

bit-front : (p r : List ℕ) (c : ℕ) → c / 8 < length p → set_bit (p ++ r) c ≡ set_bit p c ++ r
unfolding set_bit
bit-front p r c h = rw (get_or-append p r 0 (c / 8) h) (set_front p r (c / 8) _ h)

zeros-more : (n m : ℕ) → replicate {A = ℕ} (n + m) 0 ≡ replicate n 0 ++ replicate m 0
zeros-more zero m = ap (λ (k : ℕ). replicate {A = ℕ} k 0) (zero-add m)
zeros-more (suc n) m =
    let e : suc n + m ≡ suc (n + m) = omega arith in
    ap (λ (k : ℕ). replicate {A = ℕ} k 0) e ∙ ap (λ (l : List ℕ). 0 ∷ l) (zeros-more n m)

marks-more : (es : Row) (n m i : ℕ) → i + length es ≤ 8 * n → marks (n + m) i es ≡ marks n i es ++ replicate m 0
unfolding marks
marks-more [] n m i h = zeros-more n m
marks-more (none ∷ es) n m i h = marks-more es n m (suc i) (omega arith)
marks-more (some v ∷ es) n m i h =
    let l = marks-length n (suc i) es in
    ap (λ (p : List ℕ). set_bit p i) (marks-more es n m (suc i) (omega arith))
    ∙ bit-front (marks n (suc i) es) (replicate m 0) i (omega arith)

-- the presence octets are the front of the two
pub presence-front : (es : Row) → length es ≤ 16 → take (room (length es)) (marks 2 0 es) ≡ presence_of es
unfolding presence_of
presence-front es h =
    let k : ℕ = room (length es) in
    let z : 2 ≡ k + (2 - k) = omega arith in
    let p : List ℕ = marks k 0 es in
    ap (λ (m : ℕ). take k (marks m 0 es)) z ∙ ap (take k) (marks-more es k (2 - k) 0 (omega arith))
    ∙ take_at p (replicate (2 - k) 0) k (marks-length k 0 es)
