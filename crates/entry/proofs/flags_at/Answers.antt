use Rattle.std.proofs.Common.{sym}
use Rattle.std.proofs.Math.ListN.{get_or-eq_default}
use Rattle.entry.proofs.flags_at.Goals as goal

pub returns-else-i-flags : goal.returns-else-i-flags
returns-else-i-flags c = sym (get_or-eq_default c.args.flags.now 0 c.if-i-flags.false)
