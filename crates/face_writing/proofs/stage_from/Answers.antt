use Rattle.std.proofs.Common.{rules}
use Rattle.face_writing.specs.Cases.{fields}
use Rattle.face_writing.proofs.stage_from.Goals as goal

pub returns-then-form-gt255 : goal.returns-then-form-gt255
returns-then-form-gt255 c = search (rules, fields)

pub returns-then-stage-gt255 : goal.returns-then-stage-gt255
returns-then-stage-gt255 c = search (rules, fields)

pub returns : goal.returns
returns c = search (rules, fields)
