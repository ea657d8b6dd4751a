use Rattle.std.proofs.Common.{◌≡◌, ℕ, ◌<◌, slice_index_or}
use Rattle.plan_core.specs.declared.schedule.Transfer.{Transfer}
use Rattle.microcode_asm.proofs.takes.bus_to.Given as goal

abbrev pub invariant-loop-transfer : goal.invariant-loop-transfer
invariant-loop-transfer l =
    (i : ℕ) (t : Transfer) → i < l.transfer-index → (slice_index_or l.transfers i t).port ≡ l.port → ⊥
