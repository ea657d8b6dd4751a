use Rattle.std.proofs.Common.{ℕ, ◌<◌}
use Rattle.plan_core.specs.Lowered.{HasRoom}
use Rattle.delay_memory.proofs.lines.ram_for.Given as goal

abbrev pub invariant-loop-ram : goal.invariant-loop-ram
invariant-loop-ram l = (r : ℕ) → r < l.ram → HasRoom l.target.spare l.target.datapath.now l.memory.lines l.cells r → ⊥
