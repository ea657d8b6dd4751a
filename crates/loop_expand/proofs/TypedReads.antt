-- A typed expression reads what its expression reads.
use Rattle.std.proofs.Common.{ℕ, ◌⊎◌, inl, inr, Option, Some, None}
use Rattle.fault_order.specs.Rules.{parts, none, ◌▸◌, unless}
use Rattle.fault_order.specs.Private.FirstMet.{first}
use Rattle.fault_order.proofs.TableFaults.{then_parts}
use Rattle.fix_word.specs.declared.types.FixType.{FixType}
use Rattle.fix_word.specs.declared.types.SigType.{SigType}
use Rattle.fix_word.specs.declared.types.SigType.TheVariants.{Fix, Bool as Truths}
use Rattle.silage_syntax.specs.declared.tree.BinOp.TheVariants as op
use Rattle.silage_syntax.specs.Tree.{Expr, literal, read, negate, not, binary, shift, cast, choose, Branches, no_branch}
use Rattle.silage_syntax.specs.Tree.{branch, Program}
use Rattle.silage_meaning.specs.Instances.{Element, Site}
use Rattle.silage_meaning.specs.Types.{own_type, factor_type, common_type}
use Rattle.silage_meaning.specs.Rules.{ReadsAt, Reads, BranchesRead}
use Rattle.type_rules.specs.TypedTree as typed
use Rattle.type_rules.specs.TypedTree.{TypedExpr}
use Rattle.type_rules.specs.TypeRules.{is_same_shape, is_no_truth, part_type, cast_rules, product_rules}
use Rattle.type_rules.specs.TypeRules.{comparison_rules, expr_rules, branch_rules}
use Rattle.type_rules.specs.Translation.{typed_against, typed_product, typed_cast, typed_expr, typed_choice}
use Rattle.type_rules.specs.declared.fault.TypeFault.TheVariants.{Mismatch}
use Rattle.type_rules.proofs.Literals.{Passes}
use Rattle.type_rules.proofs.SameValues.{two_pass, three_pass}

-- what a typed expression at the site reads
module _ (s : Site) (e : Element) (ago : ℕ) where
  abbrev mutual
    pub TypedReads : TypedExpr → Type 0
    TypedReads (typed.raw z) = ⊥
    TypedReads (typed.read place delay) = ReadsAt s place delay e ago
    TypedReads (typed.node o fmt row amount) = TypedPartsRead row

    pub TypedPartsRead : typed.Parts → Type 0
    TypedPartsRead typed.no_part = ⊥
    TypedPartsRead (typed.part x rest) = TypedReads x ⊎ TypedPartsRead rest

module _ (p : Program) (s : Site) (e : Element) (ago : ℕ) where
  abbrev T : Expr → SigType → Type 0
  T x ty = TypedReads s e ago (typed_expr p s.function x ty)

  abbrev R : Expr → Type 0
  R x = Reads s x e ago

  -- what two parts read, in either order
  pair : (x y : Expr) (u v : TypedExpr)
      → (TypedReads s e ago u → R x)
      → (TypedReads s e ago v → R y)
      → TypedReads s e ago u ⊎ (TypedReads s e ago v ⊎ ⊥)
      → R x ⊎ R y
  pair x y u v f g (inl h) = inl (f h)
  pair x y u v f g (inr (inl h)) = inr (g h)
  pair x y u v f g (inr (inr h)) = absurd h

  turned : (x y : Expr) (u v : TypedExpr)
      → (TypedReads s e ago u → R x)
      → (TypedReads s e ago v → R y)
      → TypedReads s e ago v ⊎ (TypedReads s e ago u ⊎ ⊥)
      → R x ⊎ R y
  turned x y u v f g (inl h) = inr (g h)
  turned x y u v f g (inr (inl h)) = inl (f h)
  turned x y u v f g (inr (inr h)) = absurd h

  against : (x : Expr) (o : Option SigType)
      → ((ty : SigType) → T x ty → R x)
      → TypedReads s e ago (typed_against (typed_expr p s.function x) o)
      → R x
  against x None f h = absurd h
  against x (Some ty) f h = f ty h

  product : (x y : Expr) (t : FixType) (left right : Option SigType)
      → ((ty : SigType) → T x ty → R x)
      → ((ty : SigType) → T y ty → R y)
      → TypedReads s e ago (typed_product left right (typed_expr p s.function x) (typed_expr p s.function y) t)
      → R x ⊎ R y
  product x y t None right f g h = absurd h
  product x y t (Some Truths) right f g h = absurd h
  product x y t (Some (Fix r)) None f g h = absurd h
  product x y t (Some (Fix r)) (Some Truths) f g h = absurd h
  product x y t (Some (Fix r)) (Some (Fix q)) f g h = pair x y _ _ (f (Fix r)) (g (Fix q)) h

  casted : (x : Expr) (c : FixType) (own : Option SigType)
      → ((ty : SigType) → T x ty → R x)
      → TypedReads s e ago (typed_cast own (typed_expr p s.function x) c)
      → R x
  casted x c None f h = f (Fix c) h
  casted x c (Some Truths) f h = absurd h
  casted x c (Some (Fix r)) f (inl h) = f (Fix r) h
  casted x c (Some (Fix r)) f (inr h) = absurd h

  mutual
    -- what the typed expression reads is read by the expression
    pub typed_reads : (x : Expr) (ty : SigType) → T x ty → R x
    typed_reads (literal l) ty h = absurd h
    typed_reads (read place delay) ty h = h
    typed_reads (negate at x) (Fix t) (inl h) = typed_reads x (Fix t) h
    typed_reads (negate at x) (Fix t) (inr h) = absurd h
    typed_reads (negate at x) Truths h = absurd h
    typed_reads (not at x) (Fix t) h = absurd h
    typed_reads (not at x) Truths (inl h) = typed_reads x Truths h
    typed_reads (not at x) Truths (inr h) = absurd h
    typed_reads (shift at left x amount) (Fix t) (inl h) = typed_reads x (Fix t) h
    typed_reads (shift at left x amount) (Fix t) (inr h) = absurd h
    typed_reads (shift at left x amount) Truths h = absurd h
    typed_reads (cast at c x) ty h = casted x c (own_type p s.function x) (λ ty g. typed_reads x ty g) h
    typed_reads (choose at branches last) ty h =
        typed_choice_reads branches ty (typed_expr p s.function last ty) last (λ g. typed_reads last ty g) h
    typed_reads (binary at op.Add x y) (Fix t) h =
        pair x y _ _ (λ g. typed_reads x (Fix t) g) (λ g. typed_reads y (Fix t) g) h
    typed_reads (binary at op.Sub x y) (Fix t) h =
        pair x y _ _ (λ g. typed_reads x (Fix t) g) (λ g. typed_reads y (Fix t) g) h
    typed_reads (binary at op.Mul x y) (Fix t) h =
        product x y t (factor_type p s.function x y) (factor_type p s.function y x) (λ ty g. typed_reads x ty g)
        (λ ty g. typed_reads y ty g) h
    typed_reads (binary at op.Lt x y) Truths h =
        pair x y _ _ (λ g. against x (common_type p s.function x y) (λ ty g. typed_reads x ty g) g)
        (λ g. against y (common_type p s.function x y) (λ ty g. typed_reads y ty g) g) h
    typed_reads (binary at op.Le x y) Truths h =
        pair x y _ _ (λ g. against x (common_type p s.function x y) (λ ty g. typed_reads x ty g) g)
        (λ g. against y (common_type p s.function x y) (λ ty g. typed_reads y ty g) g) h
    typed_reads (binary at op.Eq x y) Truths h =
        pair x y _ _ (λ g. against x (common_type p s.function x y) (λ ty g. typed_reads x ty g) g)
        (λ g. against y (common_type p s.function x y) (λ ty g. typed_reads y ty g) g) h
    typed_reads (binary at op.Ne x y) Truths h =
        pair x y _ _ (λ g. against x (common_type p s.function x y) (λ ty g. typed_reads x ty g) g)
        (λ g. against y (common_type p s.function x y) (λ ty g. typed_reads y ty g) g) h
    typed_reads (binary at op.Gt x y) Truths h =
        turned x y _ _ (λ g. against x (common_type p s.function x y) (λ ty g. typed_reads x ty g) g)
        (λ g. against y (common_type p s.function x y) (λ ty g. typed_reads y ty g) g) h
    typed_reads (binary at op.Ge x y) Truths h =
        turned x y _ _ (λ g. against x (common_type p s.function x y) (λ ty g. typed_reads x ty g) g)
        (λ g. against y (common_type p s.function x y) (λ ty g. typed_reads y ty g) g) h
    typed_reads (binary at op.And x y) Truths h =
        pair x y _ _ (λ g. typed_reads x Truths g) (λ g. typed_reads y Truths g) h
    typed_reads (binary at op.Or x y) Truths h =
        pair x y _ _ (λ g. typed_reads x Truths g) (λ g. typed_reads y Truths g) h
    typed_reads (binary at op.Lt x y) (Fix t) h = absurd h
    typed_reads (binary at op.Le x y) (Fix t) h = absurd h
    typed_reads (binary at op.Eq x y) (Fix t) h = absurd h
    typed_reads (binary at op.Ne x y) (Fix t) h = absurd h
    typed_reads (binary at op.Gt x y) (Fix t) h = absurd h
    typed_reads (binary at op.Ge x y) (Fix t) h = absurd h
    typed_reads (binary at op.And x y) (Fix t) h = absurd h
    typed_reads (binary at op.Or x y) (Fix t) h = absurd h
    typed_reads (binary at op.Add x y) Truths h = absurd h
    typed_reads (binary at op.Sub x y) Truths h = absurd h
    typed_reads (binary at op.Mul x y) Truths h = absurd h

    typed_choice_reads : (branches : Branches) (ty : SigType) (t : TypedExpr) (last : Expr)
        → (TypedReads s e ago t → R last)
        → TypedReads s e ago (typed_choice p s.function branches ty t)
        → BranchesRead s branches e ago ⊎ R last
    typed_choice_reads no_branch ty t last f h = inr (f h)
    typed_choice_reads (branch condition x rest) ty t last f (inl h) = inl (inl (typed_reads condition Truths h))
    typed_choice_reads (branch condition x rest) ty t last f (inr (inl h)) = inl (inr (inl (typed_reads x ty h)))
    typed_choice_reads (branch condition x rest) ty t last f (inr (inr (inl h))) =
        after (typed_choice_reads rest ty t last f h)
      where
        after : BranchesRead s rest e ago ⊎ R last → BranchesRead s (branch condition x rest) e ago ⊎ R last
        after (inl g) = inl (inr (inr g))
        after (inr g) = inr g
    typed_choice_reads (branch condition x rest) ty t last f (inr (inr (inr h))) = absurd h

  -- the other way round, where the expression breaks no rule
  abbrev P : Expr → SigType → Type 0
  P x ty = Passes (expr_rules p s.function x ty)

  abbrev Kept : Expr → Type 0
  Kept x = (ty : SigType) → P x ty → R x → T x ty

  both : {A B C D : Type 0} → (A → C) → (B → D) → A ⊎ B → C ⊎ (D ⊎ ⊥)
  both f g (inl h) = inl (f h)
  both f g (inr h) = inr (inl (g h))

  swapped : {A B C D : Type 0} → (A → C) → (B → D) → A ⊎ B → D ⊎ (C ⊎ ⊥)
  swapped f g (inl h) = inr (inl (f h))
  swapped f g (inr h) = inl (g h)

  compared : (x y : Expr) (at : ℕ) (common : Option SigType)
      → Passes (comparison_rules common (expr_rules p s.function x) (expr_rules p s.function y) at)
      → Kept x
      → Kept y
      → (R x → TypedReads s e ago (typed_against (typed_expr p s.function x) common))
      × (R y → TypedReads s e ago (typed_against (typed_expr p s.function y) common))
  compared x y at None h f g = absurd (cc h)
  compared x y at (Some Truths) h f g = absurd (cc h)
  compared x y at (Some (Fix t)) h f g =
      let k = two_pass (expr_rules p s.function x (Fix t)) (expr_rules p s.function y (Fix t)) h in
      (f (Fix t) k.0, g (Fix t) k.1)

  multiplied : (x y : Expr) (t : FixType) (at : ℕ) (left right : Option SigType)
      → Passes (product_rules left right (expr_rules p s.function x) (expr_rules p s.function y) at)
      → Kept x
      → Kept y
      → R x ⊎ R y
      → TypedReads s e ago (typed_product left right (typed_expr p s.function x) (typed_expr p s.function y) t)
  multiplied x y t at None right h f g = absurd (cc h)
  multiplied x y t at (Some Truths) right h f g = absurd (cc h)
  multiplied x y t at (Some (Fix r)) None h f g = absurd (cc h)
  multiplied x y t at (Some (Fix r)) (Some Truths) h f g = absurd (cc h)
  multiplied x y t at (Some (Fix r)) (Some (Fix q)) h f g =
      let k = two_pass (expr_rules p s.function x (Fix r)) (expr_rules p s.function y (Fix q)) h in
      both (f (Fix r) k.0) (g (Fix q) k.1)

  converted : (x : Expr) (c t : FixType) (at : ℕ) (own : Option SigType)
      → Passes (cast_rules own (expr_rules p s.function x) c t at)
      → Kept x
      → R x
      → TypedReads s e ago (typed_cast own (typed_expr p s.function x) c)
  converted x c t at (Some Truths) h f g =
      let k =
      three_pass (unless (is_same_shape (Fix c) (Fix t)) (Mismatch at))
      (unless (is_no_truth (Some Truths)) (Mismatch at)) (expr_rules p s.function x (part_type (Some Truths) c))
      h in
      absurd (cc (k.1))
  converted x c t at (Some (Fix r)) h f g =
      let k =
      three_pass (unless (is_same_shape (Fix c) (Fix t)) (Mismatch at))
      (unless (is_no_truth (Some (Fix r))) (Mismatch at)) (expr_rules p s.function x (part_type (Some (Fix r)) c))
      h in
      inl (f (Fix r) k.2 g)
  converted x c t at None h f g =
      let k =
      three_pass (unless (is_same_shape (Fix c) (Fix t)) (Mismatch at)) (unless (is_no_truth None) (Mismatch at))
      (expr_rules p s.function x (part_type None c)) h in
      f (Fix c) k.2 g

  choice_by : (condition x : Expr) (rest : Branches) (ty : SigType) (t : TypedExpr) (last : Expr)
      → (R condition → T condition Truths)
      → (R x → T x ty)
      → (BranchesRead s rest e ago ⊎ R last → TypedReads s e ago (typed_choice p s.function rest ty t))
      → BranchesRead s (branch condition x rest) e ago ⊎ R last
      → TypedReads s e ago (typed_choice p s.function (branch condition x rest) ty t)
  choice_by condition x rest ty t last c v g (inl (inl r)) = inl (c r)
  choice_by condition x rest ty t last c v g (inl (inr (inl r))) = inr (inl (v r))
  choice_by condition x rest ty t last c v g (inl (inr (inr r))) = inr (inr (inl (g (inl r))))
  choice_by condition x rest ty t last c v g (inr r) = inr (inr (inl (g (inr r))))

  mutual
    pub reads_typed : (x : Expr) → Kept x
    reads_typed (literal l) ty h r = r
    reads_typed (read place delay) ty h r = r
    reads_typed (negate at x) (Fix t) h r = inl (reads_typed x (Fix t) h r)
    reads_typed (negate at x) Truths h r = absurd (cc h)
    reads_typed (not at x) (Fix t) h r = absurd (cc h)
    reads_typed (not at x) Truths h r = inl (reads_typed x Truths h r)
    reads_typed (shift at left x amount) (Fix t) h r = inl (reads_typed x (Fix t) h r)
    reads_typed (shift at left x amount) Truths h r = absurd (cc h)
    reads_typed (cast at c x) (Fix t) h r =
        converted x c t at (own_type p s.function x) h (λ ty k g. reads_typed x ty k g) r
    reads_typed (cast at c x) Truths h r = absurd (cc h)
    reads_typed (choose at branches last) ty h r =
        let k = two_pass (parts (branch_rules p s.function branches ty)) (expr_rules p s.function last ty) h in
        choice_reads branches ty k.0 (typed_expr p s.function last ty) last (λ g. reads_typed last ty k.1 g) r
    reads_typed (binary at op.Add x y) (Fix t) h r =
        let k = two_pass (expr_rules p s.function x (Fix t)) (expr_rules p s.function y (Fix t)) h in
        both (λ g. reads_typed x (Fix t) k.0 g) (λ g. reads_typed y (Fix t) k.1 g) r
    reads_typed (binary at op.Sub x y) (Fix t) h r =
        let k = two_pass (expr_rules p s.function x (Fix t)) (expr_rules p s.function y (Fix t)) h in
        both (λ g. reads_typed x (Fix t) k.0 g) (λ g. reads_typed y (Fix t) k.1 g) r
    reads_typed (binary at op.Mul x y) (Fix t) h r =
        multiplied x y t at (factor_type p s.function x y) (factor_type p s.function y x) h
        (λ ty k g. reads_typed x ty k g) (λ ty k g. reads_typed y ty k g) r
    reads_typed (binary at op.Lt x y) Truths h r =
        let k =
        compared x y at (common_type p s.function x y) h (λ ty k g. reads_typed x ty k g)
        (λ ty k g. reads_typed y ty k g) in
        both k.0 k.1 r
    reads_typed (binary at op.Le x y) Truths h r =
        let k =
        compared x y at (common_type p s.function x y) h (λ ty k g. reads_typed x ty k g)
        (λ ty k g. reads_typed y ty k g) in
        both k.0 k.1 r
    reads_typed (binary at op.Eq x y) Truths h r =
        let k =
        compared x y at (common_type p s.function x y) h (λ ty k g. reads_typed x ty k g)
        (λ ty k g. reads_typed y ty k g) in
        both k.0 k.1 r
    reads_typed (binary at op.Ne x y) Truths h r =
        let k =
        compared x y at (common_type p s.function x y) h (λ ty k g. reads_typed x ty k g)
        (λ ty k g. reads_typed y ty k g) in
        both k.0 k.1 r
    reads_typed (binary at op.Gt x y) Truths h r =
        let k =
        compared x y at (common_type p s.function x y) h (λ ty k g. reads_typed x ty k g)
        (λ ty k g. reads_typed y ty k g) in
        swapped k.0 k.1 r
    reads_typed (binary at op.Ge x y) Truths h r =
        let k =
        compared x y at (common_type p s.function x y) h (λ ty k g. reads_typed x ty k g)
        (λ ty k g. reads_typed y ty k g) in
        swapped k.0 k.1 r
    reads_typed (binary at op.And x y) Truths h r =
        let k = two_pass (expr_rules p s.function x Truths) (expr_rules p s.function y Truths) h in
        both (λ g. reads_typed x Truths k.0 g) (λ g. reads_typed y Truths k.1 g) r
    reads_typed (binary at op.Or x y) Truths h r =
        let k = two_pass (expr_rules p s.function x Truths) (expr_rules p s.function y Truths) h in
        both (λ g. reads_typed x Truths k.0 g) (λ g. reads_typed y Truths k.1 g) r
    reads_typed (binary at op.Lt x y) (Fix t) h r = absurd (cc h)
    reads_typed (binary at op.Le x y) (Fix t) h r = absurd (cc h)
    reads_typed (binary at op.Eq x y) (Fix t) h r = absurd (cc h)
    reads_typed (binary at op.Ne x y) (Fix t) h r = absurd (cc h)
    reads_typed (binary at op.Gt x y) (Fix t) h r = absurd (cc h)
    reads_typed (binary at op.Ge x y) (Fix t) h r = absurd (cc h)
    reads_typed (binary at op.And x y) (Fix t) h r = absurd (cc h)
    reads_typed (binary at op.Or x y) (Fix t) h r = absurd (cc h)
    reads_typed (binary at op.Add x y) Truths h r = absurd (cc h)
    reads_typed (binary at op.Sub x y) Truths h r = absurd (cc h)
    reads_typed (binary at op.Mul x y) Truths h r = absurd (cc h)

    choice_reads : (branches : Branches) (ty : SigType)
        → Passes (parts (branch_rules p s.function branches ty))
        → (t : TypedExpr) (last : Expr)
        → (R last → TypedReads s e ago t)
        → BranchesRead s branches e ago ⊎ R last
        → TypedReads s e ago (typed_choice p s.function branches ty t)
    choice_reads no_branch ty h t last f (inl r) = absurd r
    choice_reads no_branch ty h t last f (inr r) = f r
    choice_reads (branch condition x rest) ty h t last f r =
        let k =
        then_parts (first (parts (expr_rules p s.function condition Truths ▸ expr_rules p s.function x ty ▸ none)))
        (first (parts (branch_rules p s.function rest ty))) h in
        let q = two_pass (expr_rules p s.function condition Truths) (expr_rules p s.function x ty) k.0 in
        choice_by condition x rest ty t last (λ g. reads_typed condition Truths q.0 g) (λ g. reads_typed x ty q.1 g)
        (λ g. choice_reads rest ty k.1 t last f g) r
