use Rattle.std.proofs.Common.{◌≡◌, [], ◌-◌, ◌≤◌, length, drop}
use Rattle.scanning.specs.declared.Fill.TheVariants.{Nothing}
use Rattle.scanning.specs.declared.Stage.TheVariants.{Outside}
use Rattle.scanning.specs.Scan.{fits, held, scan_from, scan_in}
use Rattle.scanning.specs.Same.{in_place}
use Rattle.scanning.proofs.scan.Given as goal

abbrev pub invariant-loop-at : goal.invariant-loop-at
invariant-loop-at l = (l.at ≤ length l.text)
    × (scan_from in_place l.codes l.column (Outside Nothing) [] l.at (drop l.at l.text)
    ≡ scan_in (held fits) l.codes l.text)

abbrev pub decreases-loop-at : goal.decreases-loop-at
decreases-loop-at l = length l.text - l.at
