use Rattle.std.proofs.Common.{◌≡◌, drop}
use Rattle.silage_syntax.specs.Tree.{view_arms}
use Rattle.fault_order.specs.Rules.{parts}
use Rattle.fault_order.specs.Private.FirstMet.{first}
use Rattle.name_rules.specs.NameRules.{branch_rules}
use Rattle.name_check.specs.Private.Views.{context_of}
use Rattle.name_check.proofs.expressions.+exprs.Given as goal

abbrev pub invariant-check_arms-loop-arm : goal.invariant-check_arms-loop-arm
invariant-check_arms-loop-arm l =
    first (parts (branch_rules (context_of l.context) (view_arms (drop l.arm-index l.arms))))
    ≡ first (parts (branch_rules (context_of l.context) (view_arms l.arms)))
