use Rattle.std.proofs.Common.{◌↔◌, ℕ, ◌<◌}
use Rattle.unit_assign.specs.Private.UnitSets.{Has, set_at}
use Rattle.unit_assign.specs.Private.Drivers.{place}
use Rattle.unit_assign.proofs.wiring.takers_of.Given as goal

abbrev pub invariant-loop-number : goal.invariant-loop-number
invariant-loop-number l =
    (u : ℕ) → Has l.takers u ↔ ((u < l.number) × Has (set_at l.drivers (place u l.port)) l.unit)
