use Rattle.std.proofs.Common.{ℕ, ◌<◌}
use Rattle.operations.specs.declared.units.Kind.TheVariants as kind
use Rattle.plan_core.specs.Hardware.{IsOfKind}
use Rattle.delay_memory.proofs.lines.has_ram.Given as goal

abbrev pub invariant-loop-unit : goal.invariant-loop-unit
invariant-loop-unit l = (u : ℕ) → u < l.unit-index → IsOfKind l.datapath kind.Ram u → ⊥
