-- The ways of the code that goes over the records, on plain values.
use Prim.Native.Nat.{ℕ, zero, suc, ◌+◌, ◌-◌, ◌≤◌, ◌<◌}
use native.Mathlib.Omega.{arith}
use Rattle.std.specs.Prelude.{◌≡◌, refl, List, [], ◌++◌, length, drop}
use Rattle.std.proofs.Common.{sym, ap, ◌∙◌, length-append}
use Rattle.octets.specs.Splice.{splice, splice-nil, stored}
use Rattle.octets.specs.Stores.{laid, laid-long}
use Rattle.octets.specs.Word.{word_of}
use Rattle.edges.specs.Edges.{edges_in}
use Rattle.exporting.specs.Steps.{line_by, edges_over, lines_by}

module _ (xs forms tags places : List ℕ) (n at : ℕ) (d : List ℕ) where
  lines_next : 0 < n
      → lines_by xs forms tags places n at d ≡ line_by xs (edges_over xs forms at d) tags places
      ++ lines_by xs forms tags places (n - 1) (at + word_of 4 (drop at xs)) (edges_over xs forms at d)
  unfolding lines_by
  lines_next h = go n h
    where
      go : (m : ℕ) → 0 < m
          → lines_by xs forms tags places m at d ≡ line_by xs (edges_over xs forms at d) tags places
          ++ lines_by xs forms tags places (m - 1) (at + word_of 4 (drop at xs)) (edges_over xs forms at d)
      go zero h = absurd (omega arith)
      go (suc m) h = let e : suc m - 1 ≡ m = omega arith in rw e

  lines_none : n ≤ 0 → lines_by xs forms tags places n at d ≡ []
  unfolding lines_by
  lines_none h = let z : n ≡ 0 = omega arith in rw z

  -- a record's edges e and its size w in hand
  module _ (h : 0 < n) (e : List ℕ) (q : e ≡ stored d 0 (edges_in forms at (drop at xs))) (w : ℕ)
      (z : w ≡ word_of 4 (drop at xs)) where
    lines_are : lines_by xs forms tags places n at d
        ≡ line_by xs e tags places ++ lines_by xs forms tags places (n - 1) (at + w) e
    unfolding edges_over
    lines_are = rw (q, z) (lines_next h)

    lines-longer : length (lines_by xs forms tags places n at d)
        ≡ length (line_by xs e tags places) + length (lines_by xs forms tags places (n - 1) (at + w) e)
    lines-longer =
        ap length lines_are
        ∙ length-append (line_by xs e tags places) (lines_by xs forms tags places (n - 1) (at + w) e)

-- ---- measured

module _ (xs forms tags places : List ℕ) (all left i k : ℕ) (d : List ℕ)
    (inv : k + length (lines_by xs forms tags places left i d) ≡ all) where
  pub lines-size-step : (e : List ℕ) (r w : ℕ) → 0 < left → e ≡ stored d 0 (edges_in forms i (drop i xs))
      → r ≡ length (line_by xs e tags places) → w ≡ word_of 4 (drop i xs)
      → k + r + length (lines_by xs forms tags places (left - 1) (i + w) e) ≡ all
  lines-size-step e r w h q y z = let l = lines-longer xs forms tags places left i d h e q w z in omega arith

  pub lines-size-end : left ≤ 0 → k ≡ all
  lines-size-end h = let z = ap length (lines_none xs forms tags places left i d h) in omega arith

pub ruleset lines_sizes = (lines-size-step, lines-size-end)

-- ---- written: `to` is where the lines begin in t as it was lent, out as it is

module _ (xs forms tags places : List ℕ) (all : List ℕ) (left i k to : ℕ) (d out t : List ℕ)
    (inv : splice out k (lines_by xs forms tags places left i d) ≡ splice t to all)
    (rest : k + length (lines_by xs forms tags places left i d) ≡ to + length all)
    (long : length out ≡ length t) (room : to + length all ≤ length t) where
  module _ (h : 0 < left) (e : List ℕ) (q : e ≡ stored d 0 (edges_in forms i (drop i xs))) where
    pub lines-room : k + length (line_by xs e tags places) ≤ length out
    lines-room =
        let l = lines-longer xs forms tags places left i d h e q (word_of 4 (drop i xs)) refl in
        omega arith

    module _ (new : List ℕ) (p : new ≡ splice out k (line_by xs e tags places)) where
      pub lines-kept : length new ≡ length t
      lines-kept = laid-long out new (line_by xs e tags places) k p lines-room ∙ long

      pub lines_step : (l : ℕ) → l ≡ k + length (line_by xs e tags places) → (w : ℕ) → w ≡ word_of 4 (drop i xs)
          → splice new l (lines_by xs forms tags places (left - 1) (i + w) e) ≡ splice t to all
      lines_step l y w z =
          let m = lines-longer xs forms tags places left i d h e q w z in
          laid out new (line_by xs e tags places) (lines_by xs forms tags places (left - 1) (i + w) e) k l p y
          (omega arith)
          ∙ ap (splice out k) (sym (lines_are xs forms tags places left i d h e q w z)) ∙ inv

  pub lines_end : left ≤ 0 → out ≡ splice t to all
  lines_end h =
      sym (splice-nil out k) ∙ ap (splice out k) (sym (lines_none xs forms tags places left i d h)) ∙ inv

pub lines_rest : (xs forms tags places : List ℕ) (all left i k : ℕ) (d : List ℕ)
    → k + length (lines_by xs forms tags places left i d) ≡ all → 0 < left
    → (e : List ℕ) → e ≡ stored d 0 (edges_in forms i (drop i xs)) → (l : ℕ) → l ≡ k + length (line_by xs e tags places)
    → (w : ℕ) → w ≡ word_of 4 (drop i xs) → l + length (lines_by xs forms tags places (left - 1) (i + w) e) ≡ all
lines_rest xs forms tags places all left i k d rest h e q l y w z =
    let m = lines-longer xs forms tags places left i d h e q w z in
    omega arith

pub ruleset lines_cases = (lines-room, lines-kept, lines_rest, lines_step, lines_end)
