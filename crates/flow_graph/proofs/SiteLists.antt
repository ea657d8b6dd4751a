-- What is made at the places of expressions, one part after another.
use Rattle.std.proofs.Common.{◌≡◌, ℕ, ◌+◌, ◌-◌, ◌<◌, List, [], ◌∷◌, ◌++◌, length, get_or, take, sym, ap, ◌∙◌, map}
use Rattle.std.proofs.Common.{arith}
use Rattle.std.proofs.lemmas.List.{append-nil, take_more, map-append}
use mathlib.Core.List.{append_assoc}
use Rattle.signal_graph.specs.declared.flat.FlatExpr.{FlatExpr}
use Rattle.signal_graph.specs.Flat.{Expr, part, size, size_of_parts, view_expr}
use Rattle.signal_graph.specs.Expressions.{parts_of}
use Rattle.signal_graph.specs.GraphOf.{Made, operand_at, operands_from, made_by, made_by_parts, sites_from}

pub sites_append : (e k : ℕ) (xs ys : List Made)
    → sites_from e k (xs ++ ys) ≡ sites_from e k xs ++ sites_from e (k + length xs) ys
sites_append e k [] ys = ap (λ n. sites_from e n ys) (omega arith)
sites_append e k (x ∷ xs) ys =
    ap (λ zs. record { element = e; place = k; made = x } ∷ zs)
    (sites_append e (k + 1) xs ys ∙ ap (λ n. sites_from e (k + 1) xs ++ sites_from e n ys) (omega arith))

-- one part more
pub made_more : (k : ℕ) (xs : List Expr) (x : Expr)
    → made_by_parts k (parts_of (xs ++ x ∷ []))
    ≡ made_by_parts k (parts_of xs) ++ made_by (k + size_of_parts (parts_of xs)) x
made_more k [] x = append-nil (made_by k x) ∙ ap (λ n. made_by n x) (omega arith)
made_more k (y ∷ ys) x =
    ap (λ zs. made_by k y ++ zs)
    (made_more (k + size y) ys x ∙ ap (λ n. made_by_parts (k + size y) (parts_of ys) ++ made_by n x) (omega arith))
    ∙ sym (append_assoc (made_by k y) (made_by_parts (k + size y) (parts_of ys))
    (made_by (k + size_of_parts (parts_of (y ∷ ys))) x))

pub operands_more : (k : ℕ) (xs : List Expr) (x : Expr)
    → operands_from k (parts_of (xs ++ x ∷ []))
    ≡ operands_from k (parts_of xs) ++ operand_at (k + size_of_parts (parts_of xs) + size x - 1) x ∷ []
operands_more k [] x = ap (λ n. operand_at n x ∷ []) (omega arith)
operands_more k (y ∷ ys) x =
    ap (λ zs. operand_at (k + size y - 1) y ∷ zs)
    (operands_more (k + size y) ys x
    ∙ ap (λ n. operands_from (k + size y) (parts_of ys) ++ operand_at n x ∷ []) (omega arith))

-- the part at position i is the last of the first i + 1
pub exprs_more : (xs : List FlatExpr) (i : ℕ) (x : FlatExpr)
    → i < length xs
    → x ≡ get_or xs i x
    → map view_expr (take (i + 1) xs) ≡ map view_expr (take i xs) ++ view_expr x ∷ []
exprs_more xs i x within is =
    ap (map view_expr) (take_more xs i x within ∙ ap (λ z. take i xs ++ z ∷ []) (sym is))
    ∙ map-append view_expr (take i xs) (x ∷ [])
