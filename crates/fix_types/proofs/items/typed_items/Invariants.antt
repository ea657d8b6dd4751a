use Rattle.std.proofs.Common.{◌≡◌, ◌++◌, drop, map}
use Rattle.fault_order.specs.Rules.{parts}
use Rattle.fault_order.specs.Private.FirstMet.{first}
use Rattle.silage_syntax.specs.Tree.{view_items}
use Rattle.type_rules.specs.TypeRules.{items_rules}
use Rattle.type_rules.specs.TypedTree.{view_item}
use Rattle.fix_types.specs.Private.ItemLists.{typed_list}
use Rattle.fix_types.specs.Private.Scopes.{program_of, function_of}
use Rattle.type_rules.specs.Private.Sound.{AreSoundItems, HaveTypedNames}
use Rattle.fix_types.proofs.items.typed_items.Given as goal

abbrev pub invariant-loop-item : goal.invariant-loop-item
invariant-loop-item l = record {
  names : HaveTypedNames (program_of l.scope) (function_of l.scope) (view_items (drop l.item-index l.items));
  sound : AreSoundItems (view_items (drop l.item-index l.items));
  met : first (parts (items_rules (program_of l.scope) (function_of l.scope) (view_items (drop l.item-index l.items))))
      ≡ first (parts (items_rules (program_of l.scope) (function_of l.scope) (view_items l.items)));
  typed : map view_item l.all.items
      ++ typed_list (program_of l.scope) (function_of l.scope) (view_items (drop l.item-index l.items))
      ≡ typed_list (program_of l.scope) (function_of l.scope) (view_items l.items);
}
