use Rattle.std.proofs.Common.{rules}
use Rattle.edges.specs.Cases.{edges-start, edges_step, edges-end, edges-kept}
use Rattle.edges.proofs.fill_edges.Goals as goal

pub loop-j-init : goal.loop-j-init
loop-j-init c = search (rules, edges-start)

pub loop-j-preserved : goal.loop-j-preserved
loop-j-preserved c = (search rules, search rules, search edges-kept, search edges_step)

pub returns : goal.returns
returns c = search edges-end
