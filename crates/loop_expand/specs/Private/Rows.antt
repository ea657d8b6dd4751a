-- The parts of an operation as lists.
use Rattle.std.specs.Prelude.{List, [], ◌∷◌, map}
use Rattle.type_rules.specs.TypedTree as typed
use Rattle.type_rules.specs.declared.typed.TypedExpr.{TypedExpr}
use Rattle.signal_graph.specs.Flat.{Expr, Parts, part}

abbrev pub typed_exprs : List TypedExpr → typed.Parts
typed_exprs xs = typed.parts_of (map typed.view_expr xs)

-- parts behind others
abbrev pub parts_after : List Expr → Parts → Parts
parts_after [] rest = rest
parts_after (x ∷ xs) rest = part x (parts_after xs rest)
