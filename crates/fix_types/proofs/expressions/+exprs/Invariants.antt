use Rattle.std.proofs.Common.{◌≡◌, ◌++◌, drop}
use Rattle.fault_order.specs.Rules.{parts}
use Rattle.fault_order.specs.Private.FirstMet.{first}
use Rattle.silage_syntax.specs.Tree.{view_arms}
use Rattle.type_rules.specs.TypeRules.{branch_rules}
use Rattle.fix_types.specs.Private.Choosing.{view_pairs, typed_pairs}
use Rattle.fix_types.specs.Private.Scopes.{program_of, function_of}
use Rattle.type_rules.specs.Private.Sound.{AreSound, HaveTypedReads}
use Rattle.fix_types.proofs.expressions.+exprs.Given as goal

abbrev pub invariant-typed-loop-arm : goal.invariant-typed-loop-arm
invariant-typed-loop-arm l = record {
  sound : AreSound (view_arms (drop l.arm-index l.arms));
  reads : HaveTypedReads (program_of l.scope) (function_of l.scope) (view_arms (drop l.arm-index l.arms));
  met : first
      (parts (branch_rules (program_of l.scope) (function_of l.scope) (view_arms (drop l.arm-index l.arms)) l.wanted))
      ≡ first (parts (branch_rules (program_of l.scope) (function_of l.scope) (view_arms l.arms) l.wanted));
  typed : view_pairs l.pairs.items
      ++ typed_pairs (program_of l.scope) (function_of l.scope) l.wanted (view_arms (drop l.arm-index l.arms))
      ≡ typed_pairs (program_of l.scope) (function_of l.scope) l.wanted (view_arms l.arms);
}
