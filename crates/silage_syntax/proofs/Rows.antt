-- The branches of a conditional and the items of a loop as a tree holds them are the lists that they were made of.
use Rattle.std.proofs.Common.{◌≡◌, ℕ, List, Vec, Box, refl, ap, ◌∙◌, map}
use Rattle.std.specs.Global.{Global}
use mathlib.Core.Former.{Count}
use Rattle.silage_syntax.specs.declared.tree.Expr.{Expr as RustExpr, Choose, Choose', Row_of-Expr-Choose-1-2}
use Rattle.silage_syntax.specs.declared.tree.Expr.{end_of-Expr-Choose-1-2, more_of-Expr-Choose-1-2}
use Rattle.silage_syntax.specs.declared.tree.Expr.{items-the_row-Expr-Choose-1-2}
use Rattle.silage_syntax.specs.declared.tree.Expr.{items_hidden-the_row-Expr-Choose-1-2-0}
use Rattle.silage_syntax.specs.declared.tree.Manifest.{Manifest as RustManifest}
use Rattle.silage_syntax.specs.declared.tree.Item.{Item as RustItem, Loop, Loop', Row_of-Item, end_of-Item}
use Rattle.silage_syntax.specs.declared.tree.Item.{more_of-Item, items-the_row-Item, items_hidden-the_row-Item-0}
use Rattle.silage_syntax.specs.Tree.{branch, choose, loop, item, items_of, view_expr, view_branches, view_arms}
use Rattle.silage_syntax.specs.Tree.{view_manifest, view_item, view_row, view_items}

arms_row : (m : _) (k : Row_of-Expr-Choose-1-2 m) → view_branches k ≡ view_arms (items-the_row-Expr-Choose-1-2 m k)
arms_row _ end_of-Expr-Choose-1-2 = refl
arms_row _ (more_of-Expr-Choose-1-2 {n = n} a b rest) =
    ap (λ x. branch (view_expr a) (view_expr b) x) (arms_row n rest)

abbrev row_of_choice : RustExpr → (n : Count) × Row_of-Expr-Choose-1-2 n
row_of_choice (Choose' at shape row p e) = (_, row)
row_of_choice _ = (_, end_of-Expr-Choose-1-2)

pub view_Choose : (at : ℕ) (v : Vec (RustExpr × RustExpr) Global) (b : Box RustExpr Global)
    → view_expr (Choose at v b) ≡ choose at (view_arms v.items) (view_expr b.value)
view_Choose at v b =
    let row = row_of_choice (Choose at v b) in
    let same = items_hidden-the_row-Expr-Choose-1-2-0 v in
    ap (λ bs. choose at bs (view_expr b.value)) (arms_row row.0 row.1 ∙ ap view_arms same)

items_row : (m : _) (k : Row_of-Item m) → view_row k ≡ items_of (map view_item (items-the_row-Item m k))
items_row _ end_of-Item = refl
items_row _ (more_of-Item {n = n} x rest) = ap (λ xs. item (view_item x) xs) (items_row n rest)

abbrev row_of_loop : RustItem → (n : Count) × Row_of-Item n
row_of_loop (Loop' index lo hi shape row at) = (_, row)
row_of_loop _ = (_, end_of-Item)

pub view_Loop : (index : List ℕ) (lo hi : RustManifest) (v : Vec RustItem Global) (at : ℕ)
    → view_item (Loop index lo hi v at) ≡ loop index (view_manifest lo) (view_manifest hi) (view_items v.items) at
view_Loop index lo hi v at =
    let row = row_of_loop (Loop index lo hi v at) in
    let same = items_hidden-the_row-Item-0 v in
    ap (λ xs. loop index (view_manifest lo) (view_manifest hi) xs at) (items_row row.0 row.1 ∙ ap view_items same)
