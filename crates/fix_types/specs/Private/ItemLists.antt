-- Typed items as a list.
use Rattle.std.specs.Prelude.{List, [], ◌∷◌}
use Rattle.silage_syntax.specs.Tree.{Items, no_item, item, Func, Program}
use Rattle.type_rules.specs.TypedTree.{TypedItem}
use Rattle.type_rules.specs.Translation.{typed_item}

abbrev pub typed_list : Program → Func → Items → List TypedItem
typed_list p f no_item = []
typed_list p f (item x rest) = typed_item p f x ∷ typed_list p f rest
