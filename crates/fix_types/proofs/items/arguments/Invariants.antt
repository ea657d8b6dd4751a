use Rattle.std.proofs.Common.{◌≡◌, ◌++◌, drop, map}
use Rattle.fault_order.specs.Rules.{parts}
use Rattle.fault_order.specs.Private.FirstMet.{first}
use Rattle.silage_syntax.specs.Tree.{view_expr}
use Rattle.type_rules.specs.TypeRules.{argument_rules}
use Rattle.type_rules.specs.TypedTree.{view_expr as view_typed}
use Rattle.type_rules.specs.Translation.{typed_arguments}
use Rattle.fix_types.specs.Private.Scopes.{program_of, function_of}
use Rattle.fix_types.proofs.items.arguments.Given as goal

abbrev pub invariant-loop-i : goal.invariant-loop-i
invariant-loop-i l = record {
  met : first (parts
      (argument_rules (program_of l.scope) (function_of l.scope) (drop l.i l.params) (map view_expr (drop l.i l.args))))
      ≡ first (parts (argument_rules (program_of l.scope) (function_of l.scope) l.params (map view_expr l.args)));
  typed : map view_typed l.all.items
      ++ typed_arguments (program_of l.scope) (function_of l.scope) (drop l.i l.params)
      (map view_expr (drop l.i l.args))
      ≡ typed_arguments (program_of l.scope) (function_of l.scope) l.params (map view_expr l.args);
}
