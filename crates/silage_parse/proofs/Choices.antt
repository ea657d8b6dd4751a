-- The branches of a choice as the tree holds them.
use Rattle.std.proofs.Common.{◌≡◌, ℕ, List, [], ◌∷◌, map, refl, ap, ◌∙◌, Box, Vec}
use Rattle.std.specs.Global.{Global}
use Rattle.silage_syntax.specs.declared.tree.Expr.{Expr as RustExpr, Choose}
use Rattle.silage_syntax.specs.Tree.{choose, branch, view_expr, view_arms}
use Rattle.silage_syntax.proofs.Rows.{view_Choose as row_Choose}
use Rattle.silage_parse.specs.Private.Parsed.{view_branch}
use Rattle.silage_parse.specs.Private.Machine.{branches_of}

arms_are : (xs : List (RustExpr × RustExpr)) → view_arms xs ≡ branches_of (map view_branch xs)
arms_are [] = refl
arms_are (x ∷ xs) = ap (λ bs. branch (view_expr x.0) (view_expr x.1) bs) (arms_are xs)

pub view_Choose : (at : ℕ) (v : Vec (RustExpr × RustExpr) Global) (b : Box RustExpr Global)
    → view_expr (Choose at v b) ≡ choose at (branches_of (map view_branch v.items)) (view_expr b.value)
view_Choose at v b = row_Choose at v b ∙ ap (λ bs. choose at bs (view_expr b.value)) (arms_are v.items)
