use Rattle.std.proofs.Common.{◌≡◌, length}
use Rattle.octets.specs.Splice.{splice}
use Rattle.sheet.specs.Digits.{digits_of}
use Rattle.exporting.proofs.digits.put_digits.Given as goal

abbrev pub invariant-loop-j : goal.invariant-loop-j
invariant-loop-j l = (length l.out ≡ length l.initial.out) × (splice l.out l.at (digits_of l.base l.j l.x) ≡ splice l.initial.out l.at (digits_of l.base l.k l.n))
