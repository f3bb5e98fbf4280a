use Rattle.importing.specs.HeadCases.{column_cases}
use Rattle.importing.proofs.head.column_long.Goals as goal

pub returns : goal.returns
returns c = (search column_cases, search column_cases)
