use Rattle.std.proofs.Common.{rules}
use Rattle.exporting.specs.LineCases.{line_sizes, fields_are}
use Rattle.exporting.proofs.lines.line_size.Goals as goal

pub loop-i-preserved : goal.loop-i-preserved
loop-i-preserved c = search (rules, line_sizes, fields_are)

pub returns : goal.returns
returns c = search (rules, line_sizes, fields_are)
