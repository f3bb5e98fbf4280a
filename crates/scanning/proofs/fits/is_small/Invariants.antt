use Rattle.std.proofs.Common.{◌≡◌, ◌≤◌, drop}
use Rattle.sheet.specs.Digits.{number_from, number_in}
use Rattle.scanning.proofs.fits.is_small.Given as goal

abbrev pub invariant-loop-x : goal.invariant-loop-x
invariant-loop-x l = (l.a ≤ 4294967295) × (number_from l.a (drop l.x-index l.s) ≡ number_in l.s)
