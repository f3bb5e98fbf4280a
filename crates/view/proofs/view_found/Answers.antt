use Rattle.std.proofs.Common.{ap, ◌∙◌}
use Rattle.lookup.specs.Look.{stretch_by}
use Rattle.lookup.specs.Placed.{stretch_at}
use Rattle.view.proofs.view_found.Goals as goal

pub returns : goal.returns
unfolding stretch_at
returns c = (c.lookup_at-looked.ensures, c.cut-octets.ensures ∙ ap (stretch_by c.args.v.book.now) c.lookup_at-looked.ensures)
