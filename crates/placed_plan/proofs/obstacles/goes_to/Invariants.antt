use Rattle.std.proofs.Common.{◌≢◌, All, take}
use Rattle.placed_plan.proofs.obstacles.goes_to.Given as goal

abbrev pub invariant-loop-transfer : goal.invariant-loop-transfer
invariant-loop-transfer l = All (λ transfer. transfer.port ≢ l.port) (take l.transfer-index l.transfer-items)
