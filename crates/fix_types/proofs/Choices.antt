-- A conditional as the list of its branches and its last value.
use Rattle.std.proofs.Common.{◌≡◌, ◌∙◌, ◌+◌, ◌<◌, ◌≤◌, ℕ, List, ◌∷◌, Vec, Box, Option, Some, None, Result, drop, length}
use Rattle.std.proofs.Common.{get_or, sym, ap, ap₂, subst}
use Rattle.std.proofs.lemmas.List.{drop_more, drop_all}
use Rattle.std.specs.Global.{Global}
use Rattle.std.specs.Option.{option_or}
use Rattle.fix_word.specs.declared.types.SigType.{SigType}
use Rattle.silage_syntax.specs.declared.tree.Expr.{Expr as RustExpr, Choose}
use Rattle.silage_syntax.specs.Tree.{Func, Program, choose, view_expr, view_arms}
use Rattle.silage_syntax.proofs.Rows.{view_Choose}
use Rattle.silage_meaning.specs.Types.{own_type, branches_type}
use Rattle.type_rules.specs.declared.fault.TypeFault.{TypeFault}
use Rattle.type_rules.specs.declared.typed.TypedExpr.{TypedExpr as RustTyped}
use Rattle.fix_types.specs.Private.Answers.{Types}
use Rattle.type_rules.specs.Private.Sound.{IsSound, AreSound, HasTypedReads, HaveTypedReads}

module _ (e : RustExpr) (at : ℕ) (v : Vec (RustExpr × RustExpr) Global) (b : Box RustExpr Global)
    (is : e ≡ Choose at v b) (arms : List (RustExpr × RustExpr)) (last : RustExpr) (a : arms ≡ v.items)
    (l : last ≡ b.value) where
  pub choice_is : view_expr e ≡ choose at (view_arms arms) (view_expr last)
  choice_is =
      ap view_expr is ∙ view_Choose at v b ∙ ap₂ (λ xs x. choose at (view_arms xs) (view_expr x)) (sym a) (sym l)

  pub arms_sound : IsSound (view_expr e) → AreSound (view_arms arms)
  arms_sound h = (subst IsSound choice_is h).0

  pub last_sound : IsSound (view_expr e) → IsSound (view_expr last)
  last_sound h = (subst IsSound choice_is h).1

  module _ (p : Program) (f : Func) where
    pub arms_typed : HasTypedReads p f (view_expr e) → HaveTypedReads p f (view_arms arms)
    arms_typed h = (subst (HasTypedReads p f) choice_is h).0

    pub choice_type : own_type p f (view_expr e)
        ≡ option_or (branches_type p f (view_arms arms)) (own_type p f (view_expr last))
    choice_type = ap (own_type p f) choice_is

    pub choice_given : (ty : SigType) (r : Result RustTyped TypeFault)
        → Types p f (choose at (view_arms arms) (view_expr last)) ty r
        → Types p f (view_expr e) ty r
    choice_given ty r h = subst (λ x. Types p f x ty r) (sym choice_is) h

-- the branches one after another
module _ (p : Program) (f : Func) (arms : List (RustExpr × RustExpr)) (i : ℕ)
    (same : branches_type p f (view_arms (drop i arms)) ≡ branches_type p f (view_arms arms)) where
  pub found_in : (arm : RustExpr × RustExpr) (ty : SigType)
      → i < length arms
      → arm ≡ get_or arms i arm
      → Some ty ≡ own_type p f (view_expr arm.1)
      → Some ty ≡ branches_type p f (view_arms arms)
  found_in arm ty within is own =
      let rest = drop (i + 1) arms in
      let here : drop i arms ≡ arm ∷ rest =
      drop_more arms i arm within ∙ ap (λ (x : RustExpr × RustExpr). x ∷ rest) (sym is) in
      ap (λ (o : Option SigType). option_or o (branches_type p f (view_arms rest))) own
      ∙ ap (λ (xs : List (RustExpr × RustExpr)). branches_type p f (view_arms xs)) (sym here) ∙ same

  pub none_in : length arms ≤ i → None ≡ branches_type p f (view_arms arms)
  none_in past =
      ap (λ (xs : List (RustExpr × RustExpr)). branches_type p f (view_arms xs)) (sym (drop_all i arms past)) ∙ same
