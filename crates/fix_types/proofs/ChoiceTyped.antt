-- A conditional is typed by its branches, one after another, and then its last value.
use Rattle.std.proofs.Common.{◌≡◌, ◌≢◌, ◌∙◌, ◌+◌, ◌<◌, ◌≤◌, ◌++◌, ◌∷◌, [], ℕ, List, Vec, Box, Result, Ok, Err, IsErrAnd}
use Rattle.std.proofs.Common.{drop, length, get_or, sym, ap, subst, append-nil}
use Rattle.std.specs.Global.{Global}
use Rattle.std.proofs.lemmas.List.{drop_more, drop_all}
use Rattle.fault_order.specs.Rules.{parts}
use Rattle.fault_order.specs.Private.FirstMet.{first, ◌>>◌}
use Rattle.fix_word.specs.declared.types.SigType.{SigType}
use Rattle.fix_word.specs.declared.types.SigType.TheVariants.{Bool as Truths}
use Rattle.silage_syntax.specs.declared.tree.Expr.{Expr as RustExpr, Choose}
use Rattle.silage_syntax.specs.Tree.{Func, Program, choose, view_expr, view_arms}
use Rattle.type_rules.specs.TypeRules.{expr_rules, branch_rules}
use Rattle.type_rules.specs.TypedTree.{TypedExpr, view_expr as view_typed}
use Rattle.type_rules.specs.Translation.{typed_expr, chosen}
use Rattle.type_rules.specs.declared.fault.TypeFault.{TypeFault}
use Rattle.type_rules.specs.declared.fault.TypeFault.TheVariants.{Memory}
use Rattle.type_rules.specs.declared.typed.TypedExpr.{TypedExpr as RustTyped}
use Rattle.fix_types.specs.Private.Answers.{Types, TypesPairs}
use Rattle.fix_types.specs.Private.Choosing.{nested, view_pairs, typed_pairs}
use Rattle.fix_types.proofs.Choices.{choice_is}
use Rattle.fix_types.proofs.Given.{first_fails, then_fails, fault_given, choice_typed}

module _ (p : Program) (f : Func) (ty : SigType) where
  abbrev met : List (RustExpr × RustExpr) → Result (Unit {0}) TypeFault
  met arms = first (parts (branch_rules p f (view_arms arms) ty))

  abbrev pairs_of : List (RustExpr × RustExpr) → List (TypedExpr × TypedExpr)
  pairs_of arms = typed_pairs p f ty (view_arms arms)

  -- the branches from the one at i on are left
  module _ (arms : List (RustExpr × RustExpr)) (i : ℕ) (left : met (drop i arms) ≡ met arms) where
    module _ (arm : RustExpr × RustExpr) (within : i < length arms) (is : arm ≡ get_or arms i arm) where
      abbrev condition : Result (Unit {0}) TypeFault
      condition = first (expr_rules p f (view_expr arm.0) Truths)

      abbrev value : Result (Unit {0}) TypeFault
      value = first (expr_rules p f (view_expr arm.1) ty)

      next : met arms ≡ (condition >> (value >> Ok tt)) >> met (drop (i + 1) arms)
      next =
          let here : drop i arms ≡ arm ∷ drop (i + 1) arms =
          drop_more arms i arm within ∙ ap (λ (x : RustExpr × RustExpr). x ∷ drop (i + 1) arms) (sym is) in
          sym left ∙ ap met here

      condition_fails : (e : TypeFault) → condition ≡ Err e → met arms ≡ Err e
      condition_fails e h =
          next
          ∙ first_fails (condition >> (value >> Ok tt)) (met (drop (i + 1) arms)) e
          (first_fails condition (value >> Ok tt) e h)

      value_fails : (e : TypeFault) → condition ≡ Ok tt → value ≡ Err e → met arms ≡ Err e
      value_fails e a h =
          next
          ∙ first_fails (condition >> (value >> Ok tt)) (met (drop (i + 1) arms)) e
          (then_fails condition value (Ok tt) e a h)

    pub all_typed : (pairs : Vec (RustTyped × RustTyped) Global)
        → length arms ≤ i
        → view_pairs pairs.items ++ pairs_of (drop i arms) ≡ pairs_of arms
        → TypesPairs p f (view_arms arms) ty (Ok pairs)
    all_typed pairs past typed =
        let none : drop i arms ≡ [] = drop_all i arms past in (
          sym left ∙ ap met none,
          sym (append-nil (view_pairs pairs.items))
              ∙ ap (λ (xs : List (RustExpr × RustExpr)). view_pairs pairs.items ++ pairs_of xs) (sym none) ∙ typed,
        )

  module _ (e : RustExpr) (at : ℕ) (v : Vec (RustExpr × RustExpr) Global) (b : Box RustExpr Global)
      (is : e ≡ Choose at v b) (arms : List (RustExpr × RustExpr)) (last : RustExpr) (a : arms ≡ v.items)
      (l : last ≡ b.value) where
    pub choice_whole : (pairs : List (RustTyped × RustTyped)) (typed_last whole : RustTyped)
        → first (parts (branch_rules p f (view_arms arms) ty)) ≡ Ok tt
        → view_pairs pairs ≡ typed_pairs p f ty (view_arms arms)
        → first (expr_rules p f (view_expr last) ty) ≡ Ok tt
        → view_typed typed_last ≡ typed_expr p f (view_expr last) ty
        → view_typed whole ≡ nested (chosen ty) (view_pairs pairs) (view_typed typed_last)
        → Types p f (view_expr e) ty (Ok whole)
    choice_whole pairs typed_last whole passes u c k w =
        subst (λ x. Types p f x ty (Ok whole)) (sym (choice_is e at v b is arms last a l))
        (choice_typed p f (view_arms arms) (view_expr last) ty at pairs typed_last whole passes u c k w)

    module _ (r : Result RustTyped TypeFault) (g : TypeFault) (fails : IsErrAnd r (λ x. x ≡ g)) where
      branches_fail : (g ≢ Memory → first (parts (branch_rules p f (view_arms arms) ty)) ≡ Err g)
          → Types p f (view_expr e) ty r
      branches_fail h =
          let x = choose at (view_arms arms) (view_expr last) in
          subst (λ y. Types p f y ty r) (sym (choice_is e at v b is arms last a l))
          (fault_given view_typed (expr_rules p f x ty) (typed_expr p f x ty) r g fails
          (λ n.
          first_fails (first (parts (branch_rules p f (view_arms arms) ty)))
          (first (expr_rules p f (view_expr last) ty) >> Ok tt) g (h n)))

      pub last_fails : first (parts (branch_rules p f (view_arms arms) ty)) ≡ Ok tt
          → (g ≢ Memory → first (expr_rules p f (view_expr last) ty) ≡ Err g)
          → Types p f (view_expr e) ty r
      last_fails passes h =
          let x = choose at (view_arms arms) (view_expr last) in
          subst (λ y. Types p f y ty r) (sym (choice_is e at v b is arms last a l))
          (fault_given view_typed (expr_rules p f x ty) (typed_expr p f x ty) r g fails
          (λ n.
          then_fails (first (parts (branch_rules p f (view_arms arms) ty)))
          (first (expr_rules p f (view_expr last) ty)) (Ok tt) g passes (h n)))

    module _ (i : ℕ) (left : met (drop i arms) ≡ met arms) (arm : RustExpr × RustExpr) (within : i < length arms)
        (here : arm ≡ get_or arms i arm) (r : Result RustTyped TypeFault) (g : TypeFault)
        (fails : IsErrAnd r (λ x. x ≡ g)) where
      pub condition_ends : (g ≢ Memory → first (expr_rules p f (view_expr arm.0) Truths) ≡ Err g)
          → Types p f (view_expr e) ty r
      condition_ends h = branches_fail r g fails (λ n. condition_fails arms i left arm within here g (h n))

      pub value_ends : first (expr_rules p f (view_expr arm.0) Truths) ≡ Ok tt
          → (g ≢ Memory → first (expr_rules p f (view_expr arm.1) ty) ≡ Err g)
          → Types p f (view_expr e) ty r
      value_ends a h = branches_fail r g fails (λ n. value_fails arms i left arm within here g a (h n))
