-- The parts of a node and the items of a loop are the lists that they were made of.
use Rattle.std.proofs.Common.{◌≡◌, Vec, Option, refl, ap, ◌∙◌, map}
use Rattle.std.specs.Global.{Global}
use mathlib.Core.Former.{Count}
use Rattle.fix_word.specs.declared.types.Format.{Format}
use Rattle.fix_word.specs.declared.operation.Op.{Op}
use Rattle.silage_syntax.specs.declared.tree.Manifest.{Manifest as RustManifest}
use Rattle.silage_syntax.specs.Tree.{view_delay, view_manifest}
use Rattle.type_rules.specs.declared.typed.TypedExpr.{TypedExpr as RustExpr, Node, Node', Row_of-TypedExpr}
use Rattle.type_rules.specs.declared.typed.TypedExpr.{end_of-TypedExpr, more_of-TypedExpr, items-the_row-TypedExpr}
use Rattle.type_rules.specs.declared.typed.TypedExpr.{items_hidden-the_row-TypedExpr-0}
use Rattle.type_rules.specs.declared.typed.TypedItem.{TypedItem as RustItem, Loop, Loop', Row_of-TypedItem}
use Rattle.type_rules.specs.declared.typed.TypedItem.{end_of-TypedItem, more_of-TypedItem, items-the_row-TypedItem}
use Rattle.type_rules.specs.declared.typed.TypedItem.{items_hidden-the_row-TypedItem-0}
use Rattle.type_rules.specs.TypedTree.{node, part, loop, item, parts_of, items_of, view_expr, view_parts, view_item}
use Rattle.type_rules.specs.TypedTree.{view_row, view_items}

row_parts : (m : _) (k : Row_of-TypedExpr m) → view_parts k ≡ parts_of (map view_expr (items-the_row-TypedExpr m k))
row_parts _ end_of-TypedExpr = refl
row_parts _ (more_of-TypedExpr {n = n} x rest) = ap (λ xs. part (view_expr x) xs) (row_parts n rest)

abbrev row_of : RustExpr → (n : Count) × Row_of-TypedExpr n
row_of (Node' op fmt shape row amount) = (_, row)
row_of _ = (_, end_of-TypedExpr)

pub view_Node : (op : Op) (fmt : Format) (v : Vec RustExpr Global) (amount : Option RustManifest)
    → view_expr (Node op fmt v amount) ≡ node op fmt (parts_of (map view_expr v.items)) (view_delay amount)
view_Node op fmt v amount =
    let row = row_of (Node op fmt v amount) in
    ap (λ xs. node op fmt xs (view_delay amount))
    (row_parts row.0 row.1 ∙ ap (λ xs. parts_of (map view_expr xs)) (items_hidden-the_row-TypedExpr-0 v))

row_items : (m : _) (k : Row_of-TypedItem m) → view_row k ≡ items_of (map view_item (items-the_row-TypedItem m k))
row_items _ end_of-TypedItem = refl
row_items _ (more_of-TypedItem {n = n} x rest) = ap (λ xs. item (view_item x) xs) (row_items n rest)

abbrev row_of_loop : RustItem → (n : Count) × Row_of-TypedItem n
row_of_loop (Loop' index lo hi shape row) = (_, row)
row_of_loop _ = (_, end_of-TypedItem)

pub view_Loop : (index : _) (lo hi : RustManifest) (v : Vec RustItem Global)
    → view_item (Loop index lo hi v) ≡ loop index (view_manifest lo) (view_manifest hi) (view_items v.items)
view_Loop index lo hi v =
    let row = row_of_loop (Loop index lo hi v) in
    ap (λ xs. loop index (view_manifest lo) (view_manifest hi) xs)
    (row_items row.0 row.1 ∙ ap view_items (items_hidden-the_row-TypedItem-0 v))
