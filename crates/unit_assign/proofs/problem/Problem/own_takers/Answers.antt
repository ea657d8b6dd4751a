use Rattle.std.proofs.Common.{◌≡◌, ◌↔◌, ◌∙◌, sym, subst, true, false, ℕ, ◌+◌, ◌<◌}
use Rattle.plan_core.specs.Hardware.{port_of, HasRoute}
use Rattle.unit_assign.specs.Private.UnitSets.{Has}
use Rattle.bit_sets.specs.declared.set32.Set32.{Set32}
use Rattle.bit_sets.proofs.Passing.{passing_more, passing_past}
use Rattle.unit_assign.proofs.problem.Problem.own_takers.Goals as goal
use Rattle.unit_assign.proofs.problem.Problem.own_takers.Goals.{then-has_route, else-has_route}

pub loop-number-preserved : goal.loop-number-preserved
loop-number-preserved c =
    let n = c.loop-number.number in
    let takes = λ (u : ℕ). HasRoute c.args.self.now.datapath.now u (port_of u c.args.port) in
    let are = λ (set : Set32). (u : ℕ) → Has set u ↔ ((u < n + 1) × takes u) in
    elim c.if-has_route.branch [
      | then-has_route w ↦
          subst are (sym w.takers-is)
          (passing_more takes n c.loop-number.takers.bits w.with-takers.result.bits c.loop-number.invariant
          w.with-takers.ensures (c.has_route.ensures.0 w.if-has_route.true))
      | else-has_route w ↦
          subst are (sym w.takers-is)
          (passing_past takes n c.loop-number.takers.bits c.loop-number.invariant
          (λ h. let same : true ≡ false = sym (c.has_route.ensures.1 h) ∙ w.if-has_route.false in cc))
    ]
