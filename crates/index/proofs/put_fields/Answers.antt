use Rattle.index.specs.MakeCases.{fields-put}
use Rattle.index.proofs.put_fields.Goals as goal

pub returns : goal.returns
returns c = search fields-put
