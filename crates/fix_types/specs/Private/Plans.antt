-- What the plan of a binary operator says of it.
use Rattle.std.specs.Prelude.{◌≡◌, ℕ, Bool, true, false, None, if◌then◌else◌, Result, Ok, Err}
use Rattle.fault_order.specs.Rules.{Rules, parts, none, ◌▸◌}
use Rattle.fault_order.specs.Private.FirstMet.{first}
use Rattle.fix_word.specs.declared.types.Format.{Format}
use Rattle.fix_word.specs.declared.types.SigType.{SigType}
use Rattle.fix_word.specs.declared.operation.Op.{Op}
use Rattle.fix_word.specs.declared.operation.Op.TheVariants as does
use Rattle.silage_syntax.specs.declared.tree.BinOp.{BinOp}
use Rattle.silage_syntax.specs.declared.tree.BinOp.TheVariants as op
use Rattle.silage_syntax.specs.Tree.{Expr, binary, Func, Program}
use Rattle.type_rules.specs.TypeRules.{expr_rules}
use Rattle.type_rules.specs.TypedTree.{TypedExpr, node}
use Rattle.type_rules.specs.Translation.{typed_expr, two}
use Rattle.type_rules.specs.declared.fault.TypeFault.{TypeFault}
use Rattle.fix_types.specs.declared.plans.Plan.{Plan}
use Rattle.type_rules.specs.Private.Sound.{IsSoundType}

abbrev pub plan_of : (left right : SigType) → Op → Format → (turned : Bool) → Plan
plan_of left right op fmt turned = record { left = left; right = right; op = op; fmt = fmt; turned = turned }

-- the operation of a comparison, and whether it has the right side first
abbrev pub comparing : BinOp → Op × Bool
comparing op.Lt = (does.Lt, false)
comparing op.Le = (does.Le, false)
comparing op.Eq = (does.Eq, false)
comparing op.Gt = (does.Lt, true)
comparing op.Ge = (does.Le, true)
comparing _ = (does.Ne, false)

-- the operation on typed parts
abbrev pub joined : Plan → (left right : TypedExpr) → TypedExpr
joined plan left right = node plan.op plan.fmt (if plan.turned then two right left else two left right) None

-- the parts against the plan's types
abbrev pub part_rules : Program → Func → (x y : Expr) → Plan → Rules TypeFault
part_rules p f x y plan = parts (expr_rules p f x plan.left ▸ expr_rules p f y plan.right ▸ none)

-- with these rules and this typed expression, the operator is met as its parts are, and is typed as the plan says
pub record IsPlan (p : Program) (f : Func) (x y : Expr) (rules : Rules TypeFault) (t : TypedExpr) (plan : Plan)
    : Type 0 where
  pub met : first rules ≡ first (part_rules p f x y plan)
  pub typed : t ≡ joined plan (typed_expr p f x plan.left) (typed_expr p f y plan.right)
  pub left : IsSoundType plan.left
  pub right : IsSoundType plan.right

-- the call answers the plan, or the fault of the operator's own
abbrev pub Plans : Program
    → Func
    → (at : ℕ)
    → BinOp
    → (x y : Expr)
    → (wanted : SigType)
    → Result Plan TypeFault
    → Type 0
Plans p f at o x y ty (Ok plan) =
    IsPlan p f x y (expr_rules p f (binary at o x y) ty) (typed_expr p f (binary at o x y) ty) plan
Plans p f at o x y ty (Err fault) = first (expr_rules p f (binary at o x y) ty) ≡ Err fault
