use Rattle.exporting.specs.LineCases.{tags_are, line_kept, line-rest, line_step}
use Rattle.exporting.proofs.lines.put_tags.Goals as goal

pub loop-i-preserved : goal.loop-i-preserved
loop-i-preserved c = (search (line_kept, tags_are), search (line-rest, tags_are), search (line_step, tags_are))
