-- The buffer behind a call that is done: the new book in front, zeros from its length up to the old one's, and past both the octets that were lent.
use Rattle.std.specs.Prelude.{ℕ, ◌+◌, ◌-◌, ◌≤◌, ◌<◌, ◌≡◌, List, ◌++◌, length, take, drop, replicate}
use Rattle.std.proofs.Common.{arith, ◌∙◌, length-append, length-drop, take-append-drop, length-take-le, get_or-append-add, get_or-drop}
use Rattle.std.proofs.lemmas.List.{length-replicate, get_or-replicate}
use Rattle.std.proofs.Math.ListN.{get_or-append}
use Rattle.std.proofs.Math.Seq.{take-append_seam}
use Rattle.octets.specs.Octets.{octet_at}
use Rattle.editing.specs.Put.{buffer_of}

module _ (d : List ℕ) (len : ℕ) (new : List ℕ) where
  abbrev zeros : List ℕ
  zeros = replicate (len - length new) 0

  abbrev rest : List ℕ
  rest = drop (length new + (len - length new)) d

  many : length zeros ≡ len - length new
  many = length-replicate (len - length new) 0

  pub buffer-front : take (length new) (buffer_of d len new) ≡ new
  buffer-front = take-append_seam new (zeros ++ rest)

  pub buffer-length : len ≤ length d → length new ≤ length d → length (buffer_of d len new) ≡ length d
  buffer-length h k =
      let a = length-append new (zeros ++ rest) in
      let b = length-append zeros rest in
      let c = many in
      let e = length-drop (length new + (len - length new)) d in
      omega arith

  pub buffer-zero : (i : ℕ) → length new ≤ i → i < len → octet_at (buffer_of d len new) i ≡ 0
  buffer-zero i h k =
      let z : length new + (i - length new) ≡ i = omega arith in
      rw z at (get_or-append-add new (zeros ++ rest) (i - length new) 0)
      ∙ get_or-append zeros rest 0 (i - length new) (rw many (omega arith)) ∙ get_or-replicate (len - length new) (i - length new) 0 0 (omega arith)

  pub buffer-past : (i : ℕ) → length new ≤ i → len ≤ i → octet_at (buffer_of d len new) i ≡ octet_at d i
  buffer-past i h k =
      let j : ℕ = i - (length new + (len - length new)) in
      let z : length new + (len - length new + j) ≡ i = omega arith in
      let y : length new + (len - length new) + j ≡ i = omega arith in
      rw z at (get_or-append-add new (zeros ++ rest) (len - length new + j) 0) ∙ rw many at (get_or-append-add zeros rest j 0) ∙ rw y at (get_or-drop (length new + (len - length new)) d j 0)

-- the old book put back leaves every octet
pub buffer-same : (d : List ℕ) (len : ℕ) → len ≤ length d → buffer_of d len (take len d) ≡ d
buffer-same d len h =
    let l : length (take len d) ≡ len = length-take-le len d h in
    let n : len - length (take len d) ≡ 0 = omega arith in
    let m : length (take len d) + 0 ≡ len = omega arith in
    rw (n, m) (take-append-drop len d)
