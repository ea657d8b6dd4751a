use Rattle.std.proofs.Common.{ℕ, ◌≤◌, take}
use Rattle.std.specs.List.{All}
use Rattle.image_fit.proofs.fit.check_inputs.Given as goal

abbrev pub invariant-loop-input : goal.invariant-loop-input
invariant-loop-input l = All (λ (width : ℕ). width ≤ l.bits) (take l.input l.inputs)
