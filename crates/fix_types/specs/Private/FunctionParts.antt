-- A typed function of its declarations and items.
use Rattle.std.specs.Prelude.{ℕ}
use Rattle.silage_syntax.specs.Tree.{Func}
use Rattle.type_rules.specs.TypedTree.{TypedItems, TypedFunc}

-- the function at position k with these items
abbrev pub func_with : (k : ℕ) → Func → TypedItems → TypedFunc
func_with k f items =
    record { func = k; params = f.params; results = f.results; locals = f.locals; items = items }
