use Rattle.std.proofs.Common.{◌≡◌, ◌++◌, drop}
use Rattle.silage_syntax.specs.Tree.{view_items}
use Rattle.elaboration_code.specs.ItemActions.{viewed, actions_of_items}
use Rattle.elaboration_compile.specs.Private.Names.{HaveNames}
use Rattle.elaboration_compile.specs.Private.Scopes.{program_of, function_of}
use Rattle.elaboration_compile.proofs.items.+put_item.Given as goal

abbrev pub invariant-loop-item : goal.invariant-loop-item
invariant-loop-item l = record {
  names : HaveNames (program_of l.scope) (function_of l.scope) l.loops.items (view_items (drop l.item-index l.items));
  made : viewed l.inner
      ++ actions_of_items (program_of l.scope) (function_of l.scope) l.loops.items
      (view_items (drop l.item-index l.items))
      ≡ actions_of_items (program_of l.scope) (function_of l.scope) l.loops.items (view_items l.items);
}
