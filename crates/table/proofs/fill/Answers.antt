use Rattle.std.proofs.Common.{refl, rules, ap}
use Rattle.table.specs.declared.Columns.{Columns}
use Rattle.table.specs.Cases.{fill_start, read-start, fill_stop, fill-next, read_next, row-in, fill_end, tags-next, flags-next, forms-next}
use Rattle.table.specs.Table.{columns_of}
use Rattle.table.proofs.fill.Goals as goal

pub loop-i-init : goal.loop-i-init
unfolding columns_of
loop-i-init c =
    let e = c.no_columns-columns.ensures in
    (search rules, search rules, ap (λ (x : Columns). x.count) e, ap (λ (x : Columns). x.tags) e, ap (λ (x : Columns). x.flags) e, ap (λ (x : Columns). x.forms) e, search fill_start, search read-start)

pub returns-in_default : goal.returns-in_default
returns-in_default c = (search fill_stop, search rules, search rules)

pub loop-i-preserved : goal.loop-i-preserved
loop-i-preserved c = (search rules, search row-in, refl, search tags-next, search flags-next, search forms-next, search fill-next, search read_next)

pub returns : goal.returns
returns c = (search fill_end, search rules, search rules)
