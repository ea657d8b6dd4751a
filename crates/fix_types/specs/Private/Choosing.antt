-- A conditional as typed pairs of conditions and values, and the last value.
use Rattle.std.specs.Prelude.{List, [], ◌∷◌, map, None}
use Rattle.fix_word.specs.declared.types.Format.{Format}
use Rattle.fix_word.specs.declared.types.SigType.{SigType}
use Rattle.fix_word.specs.declared.types.SigType.TheVariants.{Bool as Truths}
use Rattle.fix_word.specs.declared.operation.Op.TheVariants as does
use Rattle.silage_syntax.specs.Tree.{Branches, no_branch, branch, Func, Program}
use Rattle.type_rules.specs.TypedTree.{TypedExpr, node, view_expr}
use Rattle.type_rules.specs.Translation.{typed_expr, three}
use Rattle.type_rules.specs.declared.typed.TypedExpr.{TypedExpr as RustExpr}

-- the value after the first condition that is true, or else the last
abbrev pub nested : Format → List (TypedExpr × TypedExpr) → (last : TypedExpr) → TypedExpr
nested fmt [] last = last
nested fmt (pair ∷ pairs) last = node does.Sel fmt (three pair.0 pair.1 (nested fmt pairs last)) None

abbrev pub view_pairs : List (RustExpr × RustExpr) → List (TypedExpr × TypedExpr)
view_pairs pairs = map (λ pair. (view_expr pair.0, view_expr pair.1)) pairs

-- branches, each condition against `bool` and each value against the type
abbrev pub typed_pairs : Program → Func → SigType → Branches → List (TypedExpr × TypedExpr)
typed_pairs p f ty no_branch = []
typed_pairs p f ty (branch condition x rest) =
    (typed_expr p f condition Truths, typed_expr p f x ty) ∷ typed_pairs p f ty rest
