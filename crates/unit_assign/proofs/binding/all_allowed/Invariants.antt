use Rattle.std.proofs.Common.{◌≡◌, replicate}
use Rattle.unit_assign.specs.Private.UnitSets.{all_of_32}
use Rattle.unit_assign.proofs.binding.all_allowed.Given as goal

abbrev pub invariant-loop : goal.invariant-loop
invariant-loop l = l.allowed ≡ replicate l.counter all_of_32
