use Rattle.std.proofs.Common.{◌≡◌, drop}
use Rattle.fault_order.specs.Rules.{parts}
use Rattle.fault_order.specs.Private.FirstMet.{first}
use Rattle.silage_syntax.specs.Tree.{view_items}
use Rattle.name_rules.specs.NameRules.{items_rules}
use Rattle.name_check.specs.Private.Views.{context_of}
use Rattle.name_check.proofs.items.+items.Given as goal

abbrev pub invariant-check_items-loop-item : goal.invariant-check_items-loop-item
invariant-check_items-loop-item l =
    first (parts (items_rules (context_of l.context) (view_items (drop l.item-index l.items))))
    ≡ first (parts (items_rules (context_of l.context) (view_items l.items)))
