-- The text of a conditional and of a loop, from the lists that they were made of.
use Rattle.std.proofs.Common.{◌≡◌, ℕ, List, [], ◌∷◌, ◌++◌, Vec, Box, refl, sym, ap, ◌∙◌}
use Rattle.std.specs.Global.{Global}
use Rattle.std.specs.List.{flat_map}
use mathlib.Core.List.{append_assoc}
use Rattle.silage_lex.specs.declared.punctuation.TheConstants as punctuation
use Rattle.silage_lex.specs.declared.keywords.TheConstants as keyword
use Rattle.silage_syntax.specs.declared.tree.Expr.{Expr as RustExpr, Choose}
use Rattle.silage_syntax.specs.declared.tree.Manifest.{Manifest as RustManifest}
use Rattle.silage_syntax.specs.declared.tree.Item.{Item as RustItem, Loop}
use Rattle.silage_syntax.specs.Tree.{view_expr, view_arms, view_manifest, view_item, view_items}
use Rattle.silage_syntax.proofs.Rows.{view_Choose, view_Loop}
use Rattle.silage_print.specs.Text.{symbol, word, expr_text, branches_text, clause_text, items_text, turns_text}
use Rattle.silage_print.specs.Private.Puts.{arm_text}

arms_spelled : (xs : List (RustExpr × RustExpr)) → branches_text (view_arms xs) ≡ flat_map arm_text xs
arms_spelled [] = refl
arms_spelled (x ∷ xs) =
    let front = expr_text (view_expr x.0) ++ symbol punctuation.ARROW ∷ expr_text (view_expr x.1) in
    ap (λ ks. front ++ symbol punctuation.PIPE_PIPE ∷ ks) (arms_spelled xs)
    ∙ sym (append_assoc front (symbol punctuation.PIPE_PIPE ∷ []) (flat_map arm_text xs))

pub choice_spelled : (at : ℕ) (v : Vec (RustExpr × RustExpr) Global) (b : Box RustExpr Global)
    → expr_text (view_expr (Choose at v b))
    ≡ word keyword.IF ∷ flat_map arm_text v.items ++ expr_text (view_expr b.value) ++ word keyword.FI ∷ []
choice_spelled at v b =
    ap expr_text (view_Choose at v b)
    ∙ ap (λ ks. word keyword.IF ∷ ks ++ expr_text (view_expr b.value) ++ word keyword.FI ∷ []) (arms_spelled v.items)

pub items_spelled : (xs : List RustItem)
    → items_text (view_items xs) ≡ flat_map (λ x. clause_text (view_item x) ++ symbol punctuation.SEMICOLON ∷ []) xs
items_spelled [] = refl
items_spelled (x ∷ xs) =
    ap (λ ks. clause_text (view_item x) ++ symbol punctuation.SEMICOLON ∷ ks) (items_spelled xs)
    ∙ sym (append_assoc (clause_text (view_item x)) (symbol punctuation.SEMICOLON ∷ [])
    (flat_map (λ y. clause_text (view_item y) ++ symbol punctuation.SEMICOLON ∷ []) xs))

pub loop_spelled : (index : List ℕ) (lo hi : RustManifest) (v : Vec RustItem Global) (at : ℕ)
    → clause_text (view_item (Loop index lo hi v at))
    ≡ turns_text index (view_manifest lo) (view_manifest hi) ++ symbol punctuation.COLON_COLON ∷ word keyword.BEGIN
    ∷ items_text (view_items v.items) ++ word keyword.END ∷ []
loop_spelled index lo hi v at = ap clause_text (view_Loop index lo hi v at)
