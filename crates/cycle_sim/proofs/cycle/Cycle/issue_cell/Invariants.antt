use Rattle.std.proofs.Common.{◌≡◌, ◌==◌, ℕ, length, take}
use Rattle.std.specs.List.{fold}
use Rattle.micro_image.specs.Fields.{nth}
use Rattle.cycle_sim.specs.declared.hardware.TheConstants.{SLOTS}
use Rattle.cycle_sim.specs.Private.Execution.{after_store}
use Rattle.cycle_sim.proofs.Acting.{only}
use Rattle.cycle_sim.proofs.cycle.Cycle.issue_cell.Given as goal

abbrev pub invariant-loop-issue : goal.invariant-loop-issue
invariant-loop-issue l =
    (length l.cells ≡ SLOTS) ×
    ((slot : ℕ)
    → nth l.cells slot 0
    ≡ fold (only (λ issue. issue.unit == l.unit) (after_store l.storage l.self.number slot))
    (nth l.fn.cells slot 0) (take l.issue-index l.issue-items))
