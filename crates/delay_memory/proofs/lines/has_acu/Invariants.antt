use Rattle.std.proofs.Common.{ℕ, ◌<◌}
use Rattle.plan_core.specs.Hardware.{IsAcuOf}
use Rattle.delay_memory.proofs.lines.has_acu.Given as goal

abbrev pub invariant-loop-unit : goal.invariant-loop-unit
invariant-loop-unit l = (u : ℕ) → u < l.unit-index → IsAcuOf l.datapath l.ram u → ⊥
