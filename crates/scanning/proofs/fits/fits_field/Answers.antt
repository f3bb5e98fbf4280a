use Rattle.std.proofs.Common.{rules}
use Rattle.scanning.specs.FitCases.{held_cases}
use Rattle.scanning.proofs.fits.fits_field.Goals as goal

pub returns-then-g-lt1 : goal.returns-then-g-lt1
returns-then-g-lt1 c = search (rules, held_cases)

pub returns-then-code-eq-NUMBERS : goal.returns-then-code-eq-NUMBERS
returns-then-code-eq-NUMBERS c = search (rules, held_cases)

pub returns-then-code-eq-TEXTS : goal.returns-then-code-eq-TEXTS
returns-then-code-eq-TEXTS c = search (rules, held_cases)

pub returns : goal.returns
returns c = search (rules, held_cases)
