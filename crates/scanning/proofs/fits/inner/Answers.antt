use Rattle.std.proofs.Common.{rules}
use Rattle.scanning.specs.FitCases.{inner_cases}
use Rattle.scanning.proofs.fits.inner.Goals as goal

pub returns-then-f-lt1 : goal.returns-then-f-lt1
returns-then-f-lt1 c = search (rules, inner_cases)

pub returns-then-f-lt2 : goal.returns-then-f-lt2
returns-then-f-lt2 c = search (rules, inner_cases)

pub returns-then-f-eq-QUOTE : goal.returns-then-f-eq-QUOTE
returns-then-f-eq-QUOTE c = search (rules, inner_cases)

pub returns : goal.returns
returns c = search (rules, inner_cases)
