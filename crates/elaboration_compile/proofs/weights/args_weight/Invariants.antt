use Rattle.std.proofs.Common.{◌≡◌, ◌≤◌, ◌+◌, map, sum_by, drop}
use Rattle.silage_syntax.specs.Tree.{view_expr}
use Rattle.element_rules.specs.ElementRules.{weight}
use Rattle.elaboration_code.specs.ItemActions.{capped}
use Rattle.elaboration_compile.proofs.weights.args_weight.Given as goal

abbrev pub invariant-loop-arg : goal.invariant-loop-arg
invariant-loop-arg l = record {
  small : l.all ≤ 8193;
  rest : capped (l.all + sum_by weight (map view_expr (drop l.arg-index l.args)))
      ≡ capped (sum_by weight (map view_expr l.args));
}
