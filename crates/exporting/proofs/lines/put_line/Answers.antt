use Rattle.exporting.specs.LineCases.{line_kept, chosen-long, field-at, chosen-rest, chosen-step}
use Rattle.exporting.proofs.lines.put_line.Goals as goal

pub loop-i-preserved : goal.loop-i-preserved
loop-i-preserved c = (search (line_kept, chosen-long, field-at), search chosen-rest, search chosen-step)
