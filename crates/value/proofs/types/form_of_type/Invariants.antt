use Rattle.std.proofs.Common.{drop, ◌≡◌}
use Rattle.value.specs.Types.{types, form_in, number_of}
use Rattle.value.proofs.types.form_of_type.Given as goal

abbrev pub invariant-loop-known : goal.invariant-loop-known
invariant-loop-known l = form_in l.code (drop l.known-index types) ≡ number_of l.code
