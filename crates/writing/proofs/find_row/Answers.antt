use Rattle.std.proofs.Common.{refl}
use Rattle.writing.specs.Column.{rows}
use Rattle.writing.proofs.find_row.Goals as goal

pub loop-i-init : goal.loop-i-init
loop-i-init c = refl

pub returns-then-word32-tag : goal.returns-then-word32-tag
returns-then-word32-tag c = search rows

pub loop-i-preserved : goal.loop-i-preserved
loop-i-preserved c = search rows

pub returns : goal.returns
returns c = search rows
