-- A conditional and a loop as the definitions see them, from the lists that they were made of.
use Rattle.std.proofs.Common.{◌≡◌, ℕ, List, Vec, Box}
use Rattle.std.specs.Global.{Global}
use Rattle.silage_syntax.specs.declared.tree.Expr.{Expr as RustExpr, Choose}
use Rattle.silage_syntax.specs.declared.tree.Manifest.{Manifest as RustManifest}
use Rattle.silage_syntax.specs.declared.tree.Item.{Item as RustItem, Loop}
use Rattle.silage_syntax.specs.Tree.{choose, loop, view_expr, view_arms, view_manifest, view_item, view_items}
use Rattle.silage_syntax.proofs.Rows.{view_Choose, view_Loop}

pub chosen :
    (e : RustExpr) (at : ℕ) (v : Vec (RustExpr × RustExpr) Global) (b : Box RustExpr Global)
    (arms : List (RustExpr × RustExpr)) (last : RustExpr)
    → e ≡ Choose at v b
    → arms ≡ v.items
    → last ≡ b.value
    → view_expr e ≡ choose at (view_arms arms) (view_expr last)
chosen e at v b arms last is a l = rw (is, a, l) (view_Choose at v b)

pub repeated :
    (x : RustItem) (index : List ℕ) (lo hi : RustManifest) (v : Vec RustItem Global) (at : ℕ) (xs : List RustItem)
    → x ≡ Loop index lo hi v at
    → xs ≡ v.items
    → view_item x ≡ loop index (view_manifest lo) (view_manifest hi) (view_items xs) at
repeated x index lo hi v at xs is a = rw (is, a) (view_Loop index lo hi v at)
