use Rattle.std.proofs.Common.{rules}
use Rattle.answers.specs.Verdict.{passed-on}
use Rattle.importing.specs.LineCases.{field_there, line_judged, line-next, bound-next}
use Rattle.importing.proofs.lines.judge_line.Goals as goal

pub returns-in_err-judge_room : goal.returns-in_err-judge_room
returns-in_err-judge_room c =
    passed-on _ c.from_residual.ensures.1 (search (field_there, line_judged, c.in_err-judge_room.was))

pub loop-j-preserved : goal.loop-j-preserved
loop-j-preserved c = (search bound-next, search (line-next, c.in_ok-judge_room.was))

pub returns : goal.returns
returns c = search (rules, field_there, line_judged)
