-- The flat expression of an expression is as large as its weight allows: 1 and 3 for each unit of weight at most.
use Rattle.std.proofs.Common.{◌≡◌, refl, sym, subst, ◌∙◌, ap, ap₂, arith, ℕ, ◌+◌, ◌*◌, ◌≤◌, Option, Some, None}
use Rattle.fix_word.specs.declared.types.FixType.{FixType}
use Rattle.fix_word.specs.declared.types.SigType.{SigType}
use Rattle.fix_word.specs.declared.types.SigType.TheVariants.{Fix, Bool as Truths}
use Rattle.silage_syntax.specs.declared.tree.BinOp.{BinOp}
use Rattle.silage_syntax.specs.declared.tree.BinOp.TheVariants as op
use Rattle.silage_syntax.specs.Tree.{Manifest, Place, Expr, literal, read, negate, not, binary, shift, cast, choose}
use Rattle.silage_syntax.specs.Tree.{Branches, no_branch, branch, Func, Program}
use Rattle.silage_meaning.specs.Instances.{Site}
use Rattle.silage_meaning.specs.Solves.{Source, word, value, same, number}
use Rattle.silage_meaning.specs.Types.{own_type, factor_type, common_type}
use Rattle.element_rules.specs.declared.elements.Elements.{Elements}
use Rattle.element_rules.specs.ElementRules.{weight, branches_weight}
use Rattle.type_rules.specs.TypedTree as typed
use Rattle.type_rules.specs.TypedTree.{TypedExpr}
use Rattle.type_rules.specs.Translation.{typed_against, typed_product, typed_cast, typed_number, typed_truth}
use Rattle.type_rules.specs.Translation.{typed_expr, typed_choice}
use Rattle.signal_graph.specs.Flat as flat
use Rattle.signal_graph.specs.Flat.{size, size_of_parts, size_of_body}
use Rattle.loop_expand.specs.FlatOf.{IsFlatRead, of_signal, of_table, IsFlatExpr, AreFlatParts, IsBodyOf}

-- how many raw words, reads and operations a typed expression has
abbrev mutual
  pub typed_size : TypedExpr → ℕ
  typed_size (typed.raw z) = 1
  typed_size (typed.read place delay) = 1
  typed_size (typed.node o fmt row amount) = 1 + parts_size row

  pub parts_size : typed.Parts → ℕ
  parts_size typed.no_part = 0
  parts_size (typed.part x rest) = typed_size x + parts_size rest

module _ (p : Program) (f : Func) where
  -- against each type it is at most this large
  abbrev Light : Expr → Type 0
  Light x = (ty : SigType) → typed_size (typed_expr p f x ty) ≤ 1 + 3 * weight x

  against_light : (x : Expr)
      → Light x
      → (o : Option SigType)
      → typed_size (typed_against (typed_expr p f x) o) ≤ 1 + 3 * weight x
  against_light x h None = omega arith
  against_light x h (Some ty) = h ty

  product_light : (x y : Expr)
      → Light x
      → Light y
      → (left right : Option SigType) (t : FixType)
      → typed_size (typed_product left right (typed_expr p f x) (typed_expr p f y) t) ≤ 3 + 3 * weight x + 3 * weight y
  product_light x y h k None right t = omega arith
  product_light x y h k (Some Truths) right t = omega arith
  product_light x y h k (Some (Fix r)) None t = omega arith
  product_light x y h k (Some (Fix r)) (Some Truths) t = omega arith
  product_light x y h k (Some (Fix r)) (Some (Fix q)) t = let a = h (Fix r) in let b = k (Fix q) in omega arith

  number_light : (o : BinOp) (x y : Expr)
      → Light x
      → Light y
      → (left right : Option SigType) (t : FixType)
      → typed_size (typed_number o left right (typed_expr p f x) (typed_expr p f y) t) ≤ 3 + 3 * weight x + 3 * weight y
  number_light op.Add x y h k left right t = let a = h (Fix t) in let b = k (Fix t) in omega arith
  number_light op.Sub x y h k left right t = let a = h (Fix t) in let b = k (Fix t) in omega arith
  number_light op.Mul x y h k left right t = product_light x y h k left right t
  number_light op.Lt x y h k left right t = omega arith
  number_light op.Le x y h k left right t = omega arith
  number_light op.Eq x y h k left right t = omega arith
  number_light op.Ne x y h k left right t = omega arith
  number_light op.Gt x y h k left right t = omega arith
  number_light op.Ge x y h k left right t = omega arith
  number_light op.And x y h k left right t = omega arith
  number_light op.Or x y h k left right t = omega arith

  truth_light : (o : BinOp) (x y : Expr)
      → Light x
      → Light y
      → (u v : TypedExpr)
      → typed_size u ≤ 1 + 3 * weight x
      → typed_size v ≤ 1 + 3 * weight y
      → typed_size (typed_truth o (typed_expr p f x) (typed_expr p f y) u v) ≤ 3 + 3 * weight x + 3 * weight y
  truth_light op.Add x y h k u v a b = omega arith
  truth_light op.Sub x y h k u v a b = omega arith
  truth_light op.Mul x y h k u v a b = omega arith
  truth_light op.Lt x y h k u v a b = omega arith
  truth_light op.Le x y h k u v a b = omega arith
  truth_light op.Eq x y h k u v a b = omega arith
  truth_light op.Ne x y h k u v a b = omega arith
  truth_light op.Gt x y h k u v a b = omega arith
  truth_light op.Ge x y h k u v a b = omega arith
  truth_light op.And x y h k u v a b = let c = h Truths in let d = k Truths in omega arith
  truth_light op.Or x y h k u v a b = let c = h Truths in let d = k Truths in omega arith

  cast_light : (x : Expr)
      → Light x
      → (own : Option SigType) (c : FixType)
      → typed_size (typed_cast own (typed_expr p f x) c) ≤ 2 + 3 * weight x
  cast_light x h None c = let a = h (Fix c) in omega arith
  cast_light x h (Some Truths) c = omega arith
  cast_light x h (Some (Fix r)) c = let a = h (Fix r) in omega arith

  mutual
    pub light : (x : Expr) → Light x
    light (literal l) ty = omega arith
    light (read place delay) ty = omega arith
    light (negate at x) (Fix t) = let a = light x (Fix t) in omega arith
    light (negate at x) Truths = omega arith
    light (not at x) (Fix t) = omega arith
    light (not at x) Truths = let a = light x Truths in omega arith
    light (shift at left x amount) (Fix t) = let a = light x (Fix t) in omega arith
    light (shift at left x amount) Truths = omega arith
    light (cast at c x) ty = let a = cast_light x (λ ty. light x ty) (own_type p f x) c in omega arith
    light (choose at branches last) ty =
        let a = light last ty in
        let b = choice_light branches ty (typed_expr p f last ty) in
        omega arith
    light (binary at o x y) (Fix t) =
        let a =
        number_light o x y (λ ty. light x ty) (λ ty. light y ty) (factor_type p f x y) (factor_type p f y x) t in
        omega arith
    light (binary at o x y) Truths =
        let a =
        truth_light o x y (λ ty. light x ty) (λ ty. light y ty)
        (typed_against (typed_expr p f x) (common_type p f x y))
        (typed_against (typed_expr p f y) (common_type p f x y))
        (against_light x (λ ty. light x ty) (common_type p f x y))
        (against_light y (λ ty. light y ty) (common_type p f x y)) in
        omega arith

    choice_light : (branches : Branches) (ty : SigType) (last : TypedExpr)
        → typed_size (typed_choice p f branches ty last) ≤ typed_size last + 3 * branches_weight branches
    choice_light no_branch ty last = omega arith
    choice_light (branch condition x rest) ty last =
        let a = light condition Truths in
        let b = light x ty in
        let c = choice_light rest ty last in
        omega arith

-- a flat expression is as large as its typed one
module _ (p : Program) (es : Elements) (s : Site) where
  read_size : (place : Place) (delay : Option Manifest) (y : flat.Expr) → IsFlatRead p es s place delay y → size y ≡ 1
  read_size place delay _ (of_signal d k ago n decl is back number_is) = refl
  read_size place delay _ (of_table k c v undeclared named placed undelayed is) = refl

  mutual
    same_size : (t : TypedExpr) (y : flat.Expr) → IsFlatExpr p es s t y → size y ≡ typed_size t
    same_size (typed.raw z) y e = ap size e
    same_size (typed.read place delay) y is = read_size place delay y is
    same_size (typed.node o fmt row amount) y (at, ys, format, these, e) =
        ap size e ∙ ap (λ (n : ℕ). 1 + n) (same_parts row ys these)

    same_parts : (row : typed.Parts) (ys : flat.Parts) → AreFlatParts p es s row ys → size_of_parts ys ≡ parts_size row
    same_parts typed.no_part ys e = ap size_of_parts e
    same_parts (typed.part x rest) ys (y, others, is, these, e) =
        ap size_of_parts e ∙ ap₂ ◌+◌ (same_size x y is) (same_parts rest others these)

  -- its size is at most 1, and 3 for each unit of weight
  pub size_by_weight : (x : Expr) (ty : SigType) (y : flat.Expr)
      → IsFlatExpr p es s (typed_expr p s.function x ty) y
      → size y ≤ 1 + 3 * weight x
  size_by_weight x ty y is =
      let same = same_size (typed_expr p s.function x ty) y is in
      let most = light p s.function x ty in
      omega arith

-- the weight of the expression that defines an element, if one does
abbrev pub source_weight : Source → ℕ
source_weight (value s x ty) = weight x
source_weight _ = 0

-- a body's size is at most 1, and 3 for each unit of weight of what defines the element
pub body_size : (p : Program) (es : Elements) (source : Source) (body : flat.Body)
    → IsBodyOf p es source body
    → size_of_body body ≤ 1 + 3 * source_weight source
body_size p es (word j) body b = subst (λ (z : flat.Body). size_of_body z ≤ 1) (sym b) (omega arith)
body_size p es (value s x ty) body (y, is, b) =
    subst (λ (z : flat.Body). size_of_body z ≤ 1 + 3 * weight x) (sym b) (size_by_weight p es s x ty y is)
body_size p es (same e theirs ours) body (k, is, b) =
    subst (λ (z : flat.Body). size_of_body z ≤ 1) (sym b) (omega arith)
body_size p es (number c k ty) body (v, is, b) = subst (λ (z : flat.Body). size_of_body z ≤ 1) (sym b) (omega arith)
