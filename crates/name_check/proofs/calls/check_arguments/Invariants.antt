use Rattle.std.proofs.Common.{◌≡◌, map, drop}
use Rattle.fault_order.specs.Rules.{parts, each_from}
use Rattle.fault_order.specs.Private.FirstMet.{first}
use Rattle.silage_syntax.specs.Tree.{view_expr}
use Rattle.name_rules.specs.NameRules.{passing_rules}
use Rattle.name_check.specs.Private.Views.{context_of}
use Rattle.name_check.proofs.calls.check_arguments.Given as goal

abbrev pub invariant-loop-i : goal.invariant-loop-i
invariant-loop-i l =
    first (parts (each_from (passing_rules (context_of l.context) l.params) l.i (map view_expr (drop l.i l.args))))
    ≡ first (parts (each_from (passing_rules (context_of l.context) l.params) 0 (map view_expr l.args)))
