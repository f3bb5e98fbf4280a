use Rattle.std.proofs.Common.{arith, rules}
use Rattle.presence.specs.Count.{sum_fits, sum_count}
use Rattle.presence.proofs.count.Goals as goal

pub ones-requires : goal.ones-requires
ones-requires c = search (rules, sum_fits)

pub overflow_add-result : goal.overflow_add-result
overflow_add-result c =
    let most = (sum_count _ c.args.n _ c.type_inv.s c.min.ensures _ _ c.ones.ensures c.octet.ensures.0 c.octet.ensures.1).1 in
    record { fits = omega (arith, c.ranges.n) }

pub returns : goal.returns
returns c = sum_count _ c.args.n _ c.type_inv.s c.min.ensures _ _ c.ones.ensures c.octet.ensures.0 c.octet.ensures.1
