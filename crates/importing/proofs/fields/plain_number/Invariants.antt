use Rattle.std.proofs.Common.{◌≡◌, ◌%◌, ◌<◌, drop}
use Rattle.sheet.specs.Digits.{number_from, number_in}
use Rattle.importing.proofs.fields.plain_number.Given as goal

abbrev pub invariant-loop-x : goal.invariant-loop-x
invariant-loop-x l = (l.a < 4294967296)
    × (number_from l.a (drop l.x-index l.s) % 4294967296 ≡ number_in l.s % 4294967296)
