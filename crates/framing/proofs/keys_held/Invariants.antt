use Rattle.std.proofs.Common.{◌≡◌, ◌-◌}
use Rattle.framing.specs.Frame.{keys_from}
use Rattle.framing.proofs.keys_held.Given as goal

abbrev pub invariant-loop-i : goal.invariant-loop-i
invariant-loop-i l = keys_from l.buf l.flags l.p (l.n - l.i) l.i ≡ keys_from l.buf l.flags l.p l.n 0
