-- How the answer of a call follows from those of the calls in it.
use Rattle.std.proofs.Common.{◌≡◌, ◌≢◌, ◌∙◌, ℕ, List, [], ◌∷◌, ◌++◌, None, Result, Ok, Err, IsErrAnd, refl, sym, ap}
use Rattle.std.proofs.lemmas.List.{map-append}
use Rattle.fault_order.specs.Rules.{Rules, parts}
use Rattle.fault_order.specs.Private.FirstMet.{first, ◌>>◌}
use Rattle.fix_word.specs.declared.types.Format.{Format}
use Rattle.fix_word.specs.declared.types.SigType.{SigType}
use Rattle.fix_word.specs.declared.types.SigType.TheVariants.{Bool as Truths}
use Rattle.fix_word.specs.declared.operation.Op.TheVariants as does
use Rattle.silage_syntax.specs.Tree.{Expr, Branches, no_branch, branch, choose, Func, Program}
use Rattle.type_rules.specs.TypeRules.{expr_rules, branch_rules}
use Rattle.type_rules.specs.TypedTree.{TypedExpr, node, view_expr}
use Rattle.type_rules.specs.Translation.{typed_expr, typed_choice, chosen, three}
use Rattle.type_rules.specs.declared.fault.TypeFault.{TypeFault}
use Rattle.type_rules.specs.declared.fault.TypeFault.TheVariants.{Memory}
use Rattle.fix_types.specs.declared.plans.Plan.{Plan}
use Rattle.type_rules.specs.declared.typed.TypedExpr.{TypedExpr as RustExpr}
use Rattle.fix_types.specs.Private.Answers.{GivesAs, Gives, Types}
use Rattle.fix_types.specs.Private.Choosing.{nested, view_pairs, typed_pairs}
use Rattle.fix_types.specs.Private.Plans.{IsPlan, joined}

abbrev Met : Type 0
Met = Result (Unit {0}) TypeFault

pub first_fails : (a b : Met) (e : TypeFault) → a ≡ Err e → a >> b ≡ Err e
first_fails a b e h = ap (λ (r : Met). r >> b) h

pub then_fails : (a b d : Met) (e : TypeFault) → a ≡ Ok tt → b ≡ Err e → a >> (b >> d) ≡ Err e
then_fails a b d e h g = ap (λ (r : Met). r >> (b >> d)) h ∙ ap (λ (r : Met). r >> d) g

pub both_hold : (a b : Met) → a ≡ Ok tt → b ≡ Ok tt → a >> (b >> Ok tt) ≡ Ok tt
both_hold a b h g = ap (λ (r : Met). r >> (b >> Ok tt)) h ∙ ap (λ (r : Met). r >> Ok tt) g

-- the call fails as a call in it does, or for want of memory
module _ {A B : Type 0} (view : A → B) (rules : Rules TypeFault) (t : B) where
  pub fault_given : (r : Result A TypeFault) (e : TypeFault)
      → IsErrAnd r (λ x. x ≡ e)
      → (e ≢ Memory → first rules ≡ Err e)
      → GivesAs view rules t r
  fault_given (Ok x) e is h = absurd is
  fault_given (Err x) e is h = λ n. h (λ m. n (is ∙ m)) ∙ ap Err (sym is)

  pub memory_given : (r : Result A TypeFault) → IsErrAnd r (λ x. x ≡ Memory) → GivesAs view rules t r
  memory_given (Ok x) is = absurd is
  memory_given (Err x) is = λ n. absurd (n is)

-- by a plan
module _ (p : Program) (f : Func) (x y : Expr) (rules : Rules TypeFault) (t : TypedExpr) (plan : Plan)
    (is : IsPlan p f x y rules t plan) where
  abbrev left : Met
  left = first (expr_rules p f x plan.left)

  abbrev right : Met
  right = first (expr_rules p f y plan.right)

  pub left_fails : (r : Result RustExpr TypeFault) (e : TypeFault)
      → IsErrAnd r (λ x. x ≡ e)
      → (e ≢ Memory → left ≡ Err e)
      → Gives rules t r
  left_fails r e fails h =
      fault_given view_expr rules t r e fails (λ n. is.met ∙ first_fails left (right >> Ok tt) e (h n))

  pub right_fails : (r : Result RustExpr TypeFault) (e : TypeFault)
      → IsErrAnd r (λ x. x ≡ e)
      → left ≡ Ok tt
      → (e ≢ Memory → right ≡ Err e)
      → Gives rules t r
  right_fails r e fails a h =
      fault_given view_expr rules t r e fails (λ n. is.met ∙ then_fails left right (Ok tt) e a (h n))

  pub planned : (l r whole : RustExpr)
      → left ≡ Ok tt
      → right ≡ Ok tt
      → view_expr l ≡ typed_expr p f x plan.left
      → view_expr r ≡ typed_expr p f y plan.right
      → view_expr whole ≡ joined plan (view_expr l) (view_expr r)
      → Gives rules t (Ok whole)
  planned l r whole a b u v w = (
    is.met ∙ both_hold left right a b,
    w ∙ ap (λ (q : TypedExpr). joined plan q (view_expr r)) u ∙ ap (joined plan (typed_expr p f x plan.left)) v
        ∙ sym is.typed,
  )

-- the pair at the end of the list is the innermost
pub nested-append :
    (fmt : Format) (pairs : List (TypedExpr × TypedExpr)) (pair : TypedExpr × TypedExpr) (last : TypedExpr)
    → nested fmt (pairs ++ pair ∷ []) last ≡ nested fmt pairs (node does.Sel fmt (three pair.0 pair.1 last) None)
nested-append fmt [] pair last = refl
nested-append fmt (x ∷ xs) pair last =
    ap (λ (q : TypedExpr). node does.Sel fmt (three x.0 x.1 q) None) (nested-append fmt xs pair last)

pub nested_step :
    (fmt : Format) (old new : List (RustExpr × RustExpr)) (pair : RustExpr × RustExpr) (other whole : RustExpr)
    → old ≡ new ++ pair ∷ []
    → view_expr whole ≡ node does.Sel fmt (three (view_expr pair.0) (view_expr pair.1) (view_expr other)) None
    → nested fmt (view_pairs new) (view_expr whole) ≡ nested fmt (view_pairs old) (view_expr other)
nested_step fmt old new pair other whole is w =
    ap (nested fmt (view_pairs new)) w
    ∙ sym (nested-append fmt (view_pairs new) (view_expr pair.0, view_expr pair.1) (view_expr other))
    ∙ ap (λ (xs : List (TypedExpr × TypedExpr)). nested fmt xs (view_expr other))
    (sym (map-append (λ (x : RustExpr × RustExpr). (view_expr x.0, view_expr x.1)) new (pair ∷ [])))
    ∙ ap (λ (xs : List (RustExpr × RustExpr)). nested fmt (view_pairs xs) (view_expr other)) (sym is)

-- typed pairs, and the last value, are the typed conditional
pub nested_is : (p : Program) (f : Func) (ty : SigType) (branches : Branches) (last : TypedExpr)
    → nested (chosen ty) (typed_pairs p f ty branches) last ≡ typed_choice p f branches ty last
nested_is p f ty no_branch last = refl
nested_is p f ty (branch condition x rest) last =
    ap (λ (q : TypedExpr).
    node does.Sel (chosen ty) (three (typed_expr p f condition Truths) (typed_expr p f x ty) q) None)
    (nested_is p f ty rest last)

-- a conditional, by its branches and its last value
module _ (p : Program) (f : Func) (branches : Branches) (last : Expr) (ty : SigType) where
  abbrev met : Met
  met = first (parts (branch_rules p f branches ty))

  abbrev of_last : Met
  of_last = first (expr_rules p f last ty)

  module _ (at : ℕ) where
    pub branches_fail : (r : Result RustExpr TypeFault) (e : TypeFault)
        → IsErrAnd r (λ x. x ≡ e)
        → (e ≢ Memory → met ≡ Err e)
        → Types p f (choose at branches last) ty r
    branches_fail r e fails h =
        fault_given view_expr (expr_rules p f (choose at branches last) ty)
        (typed_expr p f (choose at branches last) ty) r e fails (λ n. first_fails met (of_last >> Ok tt) e (h n))

    pub last_fails : (r : Result RustExpr TypeFault) (e : TypeFault)
        → IsErrAnd r (λ x. x ≡ e)
        → met ≡ Ok tt
        → (e ≢ Memory → of_last ≡ Err e)
        → Types p f (choose at branches last) ty r
    last_fails r e fails a h =
        fault_given view_expr (expr_rules p f (choose at branches last) ty)
        (typed_expr p f (choose at branches last) ty) r e fails (λ n. then_fails met of_last (Ok tt) e a (h n))

    pub choice_typed : (pairs : List (RustExpr × RustExpr)) (l whole : RustExpr)
        → met ≡ Ok tt
        → view_pairs pairs ≡ typed_pairs p f ty branches
        → of_last ≡ Ok tt
        → view_expr l ≡ typed_expr p f last ty
        → view_expr whole ≡ nested (chosen ty) (view_pairs pairs) (view_expr l)
        → Types p f (choose at branches last) ty (Ok whole)
    choice_typed pairs l whole a u b v w = (
      both_hold met of_last a b,
      w ∙ ap (λ (q : List (TypedExpr × TypedExpr)). nested (chosen ty) q (view_expr l)) u
          ∙ ap (nested (chosen ty) (typed_pairs p f ty branches)) v
          ∙ nested_is p f ty branches (typed_expr p f last ty),
    )
