use Rattle.reason.specs.Cases.{listings}
use Rattle.reason.proofs.is_listed.Goals as goal

pub returns-in_default : goal.returns-in_default
returns-in_default c = search listings

pub returns : goal.returns
returns c = search listings
