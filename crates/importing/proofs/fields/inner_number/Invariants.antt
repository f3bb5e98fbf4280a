use Rattle.std.proofs.Common.{◌≡◌, false, ◌%◌, ◌<◌, drop}
use Rattle.sheet.specs.Reading.{unquoted}
use Rattle.sheet.specs.Digits.{number_from, number_in}
use Rattle.importing.proofs.fields.inner_number.Given as goal

abbrev pub invariant-loop-x : goal.invariant-loop-x
invariant-loop-x l = (l.a < 4294967296)
    × (number_from l.a (unquoted l.second (drop l.x-index l.s)) % 4294967296 ≡ number_in (unquoted false l.s) % 4294967296)
