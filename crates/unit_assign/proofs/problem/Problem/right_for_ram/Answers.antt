use Rattle.std.proofs.Common.{◌≡◌, ◌↔◌, ◌∙◌, sym, subst, true, false, ℕ, ◌+◌, ◌<◌}
use Rattle.plan_core.specs.Assigned.{IsRightUnit}
use Rattle.unit_assign.specs.Private.UnitSets.{Has}
use Rattle.bit_sets.specs.declared.set32.Set32.{Set32}
use Rattle.bit_sets.proofs.Passing.{passing_more, passing_past}
use Rattle.unit_assign.proofs.problem.Problem.right_for_ram.Goals as goal
use Rattle.unit_assign.proofs.problem.Problem.right_for_ram.Goals.{then-is_right, else-is_right}

pub loop-number-preserved : goal.loop-number-preserved
loop-number-preserved c =
    let n = c.loop-number.number in
    let is = λ (u : ℕ). IsRightUnit c.args.self.now.datapath.now c.args.node.now u in
    let are = λ (set : Set32). (u : ℕ) → Has set u ↔ ((u < n + 1) × is u) in
    elim c.if-is_right.branch [
      | then-is_right w ↦
          subst are (sym w.right-is)
          (passing_more is n c.loop-number.right.bits w.with-right.result.bits c.loop-number.invariant
          w.with-right.ensures (c.is_right.ensures.0 w.if-is_right.true))
      | else-is_right w ↦
          subst are (sym w.right-is)
          (passing_past is n c.loop-number.right.bits c.loop-number.invariant
          (λ h. let same : true ≡ false = sym (c.is_right.ensures.1 h) ∙ w.if-is_right.false in cc))
    ]
