use Rattle.std.proofs.Common.{rules}
use Rattle.scanning.specs.ScanCases.{due_cases}
use Rattle.scanning.proofs.pass.Goals as goal

pub returns-then-column-codes : goal.returns-then-column-codes
returns-then-column-codes c = search (rules, due_cases)

pub returns-then-text-at-eq-LF : goal.returns-then-text-at-eq-LF
returns-then-text-at-eq-LF c = search (rules, due_cases)

pub returns : goal.returns
returns c = search (rules, due_cases)
