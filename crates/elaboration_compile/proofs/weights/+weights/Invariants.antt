use Rattle.std.proofs.Common.{◌≡◌, ◌≤◌, ◌+◌, drop}
use Rattle.silage_syntax.specs.Tree.{view_arms}
use Rattle.element_rules.specs.ElementRules.{branches_weight}
use Rattle.elaboration_code.specs.ItemActions.{capped}
use Rattle.elaboration_compile.proofs.weights.+weights.Given as goal

abbrev pub invariant-arms_weight-loop-arm : goal.invariant-arms_weight-loop-arm
invariant-arms_weight-loop-arm l = record {
  small : l.all ≤ 8193;
  rest : capped (l.all + branches_weight (view_arms (drop l.arm-index l.arms)))
      ≡ capped (branches_weight (view_arms l.arms));
}
