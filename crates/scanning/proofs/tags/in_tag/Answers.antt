use Rattle.std.proofs.Common.{rules}
use Rattle.scanning.specs.FirstCases.{tag_cases}
use Rattle.scanning.proofs.tags.in_tag.Goals as goal

pub returns-then-d-lt16 : goal.returns-then-d-lt16
returns-then-d-lt16 c = search (rules, tag_cases)
