use Rattle.std.proofs.Common.{◌≡◌, ◌≤◌, take, drop}
use Rattle.scanning.specs.First.{head_from, head_in}
use Rattle.scanning.specs.FirstCases.{Laid}
use Rattle.scanning.proofs.read_first_line.Given as goal

abbrev pub invariant-loop-at : goal.invariant-loop-at
invariant-loop-at l = (l.count ≤ 16) × Laid l.stand l.value l.count l.tags
    × (head_from l.stand l.value (take l.count l.tags) l.at (drop l.at l.text) ≡ head_in l.text)
