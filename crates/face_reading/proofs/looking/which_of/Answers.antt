use Rattle.face_reading.specs.Cases.{which-header, which-number}
use Rattle.face_reading.proofs.looking.which_of.Goals as goal

pub returns-then-number-eq18446744073709551615 : goal.returns-then-number-eq18446744073709551615
returns-then-number-eq18446744073709551615 c = search which-header

pub returns : goal.returns
returns c = search which-number
