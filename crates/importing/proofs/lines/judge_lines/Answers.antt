use Rattle.std.proofs.Common.{rules}
use Rattle.answers.specs.Verdict.{passed-on}
use Rattle.importing.specs.LinesCases.{lines_judged, lines_ended, lines_start, lines_fit}
use Rattle.importing.specs.LinesCases.{lines_next, lines-taken, lines_end, lines-count, lines-measure}
use Rattle.importing.proofs.lines.judge_lines.Goals as goal

pub judge_record-requires : goal.judge_record-requires
judge_record-requires c = search (rules, lines_judged, lines_ended, lines_start)

pub returns-in_err-line : goal.returns-in_err-line
returns-in_err-line c = passed-on _ c.from_residual.ensures.1 (search (lines_judged, lines_ended, c.in_err-line.was))

pub overflow_add-opened : goal.overflow_add-opened
overflow_add-opened c = search (rules, lines_fit, c.in_ok-line.was)

pub loop-at-smaller : goal.loop-at-smaller
loop-at-smaller c = search (rules, lines-measure, c.in_ok-line.was)

pub loop-at-preserved : goal.loop-at-preserved
loop-at-preserved c = (
  search (lines_end, c.in_ok-line.was),
  search (lines-taken, c.in_ok-line.was),
  search (lines-count, c.in_ok-line.was),
  search (lines_next, c.in_ok-line.was),
)

pub returns-then-opened-lt2 : goal.returns-then-opened-lt2
returns-then-opened-lt2 c = search (rules, lines_judged, lines_ended, lines_start)

pub returns : goal.returns
returns c = search (rules, lines_judged, lines_ended, lines_start)
