use Rattle.std.proofs.Common.{rules}
use Rattle.scanning.specs.FirstCases.{line_cases}
use Rattle.scanning.proofs.read_first_line.Goals as goal
use Rattle.scanning.proofs.read_first_line.Goals.{in-Goes, in-Tag}

pub bounds-tags-count : goal.bounds-tags-count
bounds-tags-count c = search (rules, line_cases)

pub loop-at-preserved : goal.loop-at-preserved
loop-at-preserved c =
    elim c.match-next_of.branch [
      | in-Goes w ↦ rw (w.stand-is, w.value-is, w.count-is, w.tags-is) (search (rules, line_cases))
      | in-Tag w ↦ rw (w.stand-is, w.value-is, w.count-is, w.tags-is) (search (rules, line_cases))
    ]
