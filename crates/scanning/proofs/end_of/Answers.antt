use Rattle.std.proofs.Common.{rules}
use Rattle.scanning.specs.ScanCases.{end_cases}
use Rattle.scanning.proofs.end_of.Goals as goal

pub returns-then-j-n : goal.returns-then-j-n
returns-then-j-n c = search (rules, end_cases)

pub returns-else-j-n : goal.returns-else-j-n
returns-else-j-n c = search (rules, end_cases)
