-- The ways of the code that lays a front down, on plain values.
use Prim.Native.Nat.{ℕ, ◌+◌, ◌-◌, ◌*◌, ◌≤◌, ◌<◌}
use native.Mathlib.Omega.{arith}
use Rattle.std.specs.Prelude.{◌≡◌}
use Rattle.std.proofs.Common.{sym, ◌∙◌, Fits}
use Rattle.std.proofs.Math.Path.{ap}
use mathlib.Core.List.{List}
use Rattle.std.proofs.Math.ListN.{length}
use borrow.Author.Tests.{le-leb, lt-leb}
use Rattle.std.specs.Int.{w64}
use Rattle.octets.specs.Splice.{stored, stored-join}
use Rattle.answers.specs.Numbers.{no_room}
use Rattle.answers.specs.Verdict.{Verdict}
use Rattle.answers.specs.Verdict.{clear, Refused}
use Rattle.answers.specs.declared.Refusal.{Refusal}
use Rattle.answers.specs.Verdict.{refused}
use Rattle.begin.specs.Begin.{start_size, begin_at, columns_from, start_octets, begin_octets}
use Rattle.begin.specs.Cases.{from-long, begin-in}
use Rattle.begin.specs.Taken.{start-long}
use Rattle.fresh.specs.Fresh.{front_of, lay_at, lay_octets}

-- what begin takes is few, and has room
module _ (ht hf ts fs d : List ℕ) (v : Verdict) (e : v ≡ begin_at ht hf ts fs (length d)) (z : v ≡ clear) where
  pub rows_fit : Fits w64 (8 * (length ht + length ts))
  rows_fit = let c = begin-in ht hf ts fs (length d) (sym e ∙ z) in record { fits = omega (arith, c.few, c.low) }

  pub start_fits : Fits w64 (24 + 8 * (length ht + length ts))
  start_fits = let c = begin-in ht hf ts fs (length d) (sym e ∙ z) in record { fits = omega (arith, c.few, c.low) }

  pub start-in : 24 + 8 * (length ht + length ts) ≤ length d
  start-in = (begin-in ht hf ts fs (length d) (sym e ∙ z)).room

pub ruleset starts = (rows_fit, start_fits, start-in)

module _ (ht hf ts fs hd d : List ℕ) (v : Verdict) (e : v ≡ begin_at ht hf ts fs (length d)) where
  pub lay-refused : (r : Refusal) → v ≡ Refused r → Refused r ≡ lay_at ht hf ts fs hd (length d)
  unfolding lay_at
  lay-refused r z = rw (← e, z)

  pub lay-left : (r : Refusal) → v ≡ Refused r → d ≡ lay_octets ht hf ts fs hd d
  unfolding lay_octets lay_at
  lay-left r z = rw (← e, z)

  module _ (z : v ≡ clear) where
    module _ (h : length d - (24 + 8 * (length ht + length ts)) < length hd) where
      pub lay-short : (u : Verdict) → u ≡ refused no_room 0 → u ≡ lay_at ht hf ts fs hd (length d)
      unfolding lay_at
      lay-short u q =
          let l : length d < start_size (length ht) (length ts) + length hd = omega arith in
          rw (← e, z, lt-leb (start_size (length ht) (length ts) + length hd) (length d) l) q

      pub lay-kept : d ≡ lay_octets ht hf ts fs hd d
      unfolding lay_octets lay_at
      lay-kept =
          let l : length d < start_size (length ht) (length ts) + length hd = omega arith in
          rw (← e, z, lt-leb (start_size (length ht) (length ts) + length hd) (length d) l)

    module _ (h : length hd ≤ length d - (24 + 8 * (length ht + length ts))) where
      fits : start_size (length ht) (length ts) + length hd ≤ length d
      fits = omega (arith, start-in ht hf ts fs d v e z)

      pub lay_done : clear ≡ lay_at ht hf ts fs hd (length d)
      unfolding lay_at
      lay_done = rw (← e, z, le-leb (start_size (length ht) (length ts) + length hd) (length d) fits)

      start_is : length (start_octets (columns_from ht hf) (columns_from ts fs)) ≡ 24 + 8 * (length ht + length ts)
      start_is =
          let c = begin-in ht hf ts fs (length d) (sym e ∙ z) in
          start-long (columns_from ht hf) (columns_from ts fs)
          ∙ rw (from-long ht hf c.heads, from-long ts fs c.rows)

      pub lay-put : (o x : List ℕ) → o ≡ begin_octets ht hf ts fs d → x ≡ stored o (24 + 8 * (length ht + length ts)) hd
          → x ≡ lay_octets ht hf ts fs hd d
      unfolding lay_octets lay_at front_of begin_octets
      lay-put o x p q =
          let n = start_is in
          let f = fits in
          let s : List ℕ = start_octets (columns_from ht hf) (columns_from ts fs) in
          let u : o ≡ stored d 0 s = rw (← e, z) at p in
          rw (← e, z, le-leb (start_size (length ht) (length ts) + length hd) (length d) f)
          (q ∙ ap (λ (l : List ℕ). stored l (24 + 8 * (length ht + length ts)) hd) u
          ∙ stored-join d s hd 0 (24 + 8 * (length ht + length ts)) (omega arith) (omega arith))
