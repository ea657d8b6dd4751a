-- The parts of an operation as a tree holds them are the list that they were made of.
use Rattle.std.proofs.Common.{◌≡◌, Vec, refl, ap, ◌∙◌, map}
use Rattle.std.specs.Global.{Global}
use mathlib.Core.Former.{Count}
use Rattle.fix_word.specs.declared.operation.Op.{Op}
use Rattle.fix_word.specs.declared.types.Format.{Format}
use Rattle.signal_graph.specs.declared.flat.FlatExpr.{FlatExpr, Node, Node', Row_of-FlatExpr, end_of-FlatExpr}
use Rattle.signal_graph.specs.declared.flat.FlatExpr.{more_of-FlatExpr, items-the_row-FlatExpr}
use Rattle.signal_graph.specs.declared.flat.FlatExpr.{items_hidden-the_row-FlatExpr-0}
use Rattle.signal_graph.specs.Flat.{calculation, part, view_expr, view_parts}
use Rattle.signal_graph.specs.Expressions.{parts_of, view_exprs}

parts_row : (m : _) (k : Row_of-FlatExpr m) → view_parts k ≡ parts_of (map view_expr (items-the_row-FlatExpr m k))
parts_row _ end_of-FlatExpr = refl
parts_row _ (more_of-FlatExpr {n = n} x rest) = ap (λ xs. part (view_expr x) xs) (parts_row n rest)

abbrev row_of : FlatExpr → (n : Count) × Row_of-FlatExpr n
row_of (Node' o fmt shape row) = (_, row)
row_of _ = (_, end_of-FlatExpr)

pub view_Node : (o : Op) (fmt : Format) (v : Vec FlatExpr Global)
    → view_expr (Node o fmt v) ≡ calculation o fmt (view_exprs v.items)
view_Node o fmt v =
    let row = row_of (Node o fmt v) in
    let same = items_hidden-the_row-FlatExpr-0 v in
    ap (calculation o fmt) (parts_row row.0 row.1 ∙ ap view_exprs same)
