use Rattle.std.proofs.Common.{◌≡◌, replicate}
use Rattle.unit_assign.proofs.binding.no_loads.Given as goal

abbrev pub invariant-loop : goal.invariant-loop
invariant-loop l = l.loads ≡ replicate l.counter 0
