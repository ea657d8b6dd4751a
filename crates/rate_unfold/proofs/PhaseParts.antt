-- The parts of an expression in a phase.
use Rattle.std.proofs.Common.{◌≡◌, ℕ, zero, suc, ◌<◌, List, [], ◌∷◌, length, get_or, map, refl, sym, ap, subst, arith}
use Rattle.signal_graph.specs.declared.flat.FlatExpr.{FlatExpr}
use Rattle.signal_graph.specs.Flat.{part, view_expr}
use Rattle.signal_graph.specs.Expressions.{parts_of, view_exprs}
use Rattle.rate_unfold.specs.Private.Limits.{HasShortReads, HaveShortReads}
use Rattle.rate_unfold.specs.Private.Unfolding.{expr_in_phase, parts_in_phase}

pub parts_each : (m elements j : ℕ) (xs : List FlatExpr)
    → parts_of (map (λ (x : FlatExpr). expr_in_phase m elements j (view_expr x)) xs)
    ≡ parts_in_phase m elements j (view_exprs xs)
parts_each m elements j [] = refl
parts_each m elements j (x ∷ xs) =
    ap (part (expr_in_phase m elements j (view_expr x))) (parts_each m elements j xs)

pub short_within : (elements : ℕ) (xs : List FlatExpr) (i : ℕ) (x : FlatExpr)
    → HaveShortReads elements (view_exprs xs)
    → i < length xs
    → x ≡ get_or xs i x
    → HasShortReads elements (view_expr x)
short_within elements [] i x short less e = absurd (omega arith)
short_within elements (y ∷ xs) zero x short less e =
    subst (λ (z : FlatExpr). HasShortReads elements (view_expr z)) (sym e) short.0
short_within elements (y ∷ xs) (suc i) x short less e = short_within elements xs i x short.1 (omega arith) e
