use Rattle.std.proofs.Common.{rules}
use Rattle.importing.specs.LineCases.{key_cases}
use Rattle.importing.proofs.lines.key_held.Goals as goal

pub returns-then-is_key : goal.returns-then-is_key
returns-then-is_key c = search (rules, key_cases)

pub returns-else-is_key : goal.returns-else-is_key
returns-else-is_key c = search (rules, key_cases)

pub returns-else-long-eq0 : goal.returns-else-long-eq0
returns-else-long-eq0 c = search (rules, key_cases)
