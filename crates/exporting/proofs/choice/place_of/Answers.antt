use Rattle.exporting.specs.ChoiceCases.{place-found}
use Rattle.exporting.proofs.choice.place_of.Goals as goal

pub returns : goal.returns
returns c = search place-found
