-- What a check answers, by the rules and the typed expression.
use Rattle.std.specs.Prelude.{◌≡◌, ◌≢◌, ℕ, [], ◌∷◌, ◌++◌, Result, Ok, Err}
use Rattle.std.specs.Prelude.{Vec}
use Rattle.std.specs.Global.{Global}
use Rattle.fault_order.specs.Rules.{Rules, parts}
use Rattle.fault_order.specs.Private.FirstMet.{first}
use Rattle.fix_word.specs.declared.types.SigType.{SigType}
use Rattle.silage_syntax.specs.declared.tree.BinOp.{BinOp}
use Rattle.silage_syntax.specs.declared.tree.BinOp.TheVariants as op
use Rattle.silage_syntax.specs.Tree.{Expr, Branches, Item, Items, Func, Top, table, function, Program}
use Rattle.type_rules.specs.TypeRules.{expr_rules, branch_rules, item_rules, items_rules, top_rules}
use Rattle.type_rules.specs.TypedTree.{TypedExpr, Typed, view_expr, view_item, view_items, view_typed}
use Rattle.type_rules.specs.Translation.{typed_expr, typed_item, typed_items, typed_table, typed_func}
use Rattle.fix_types.specs.Private.Choosing.{view_pairs, typed_pairs}
use Rattle.type_rules.specs.declared.fault.TypeFault.{TypeFault}
use Rattle.type_rules.specs.declared.fault.TypeFault.TheVariants.{Memory}
use Rattle.type_rules.specs.declared.typed.TypedExpr.{TypedExpr as RustExpr}
use Rattle.type_rules.specs.declared.typed.TypedItem.{TypedItem as RustItem}
use Rattle.type_rules.specs.declared.typed.Typed.{Typed as RustTyped}

-- the call, which takes no memory, answers as a table is met
abbrev pub Meets : {A : Type 0} → Rules TypeFault → Result A TypeFault → Type 0
Meets rules (Ok x) = first rules ≡ Ok tt
Meets rules (Err fault) = first rules ≡ Err fault

-- the call answers what is seen as t or the fault that is met first, or it is out of memory
abbrev pub GivesAs : {A B : Type 0} → (A → B) → Rules TypeFault → B → Result A TypeFault → Type 0
GivesAs view rules t (Ok x) = (first rules ≡ Ok tt) × (view x ≡ t)
GivesAs view rules t (Err fault) = fault ≢ Memory → first rules ≡ Err fault

abbrev pub Gives : Rules TypeFault → TypedExpr → Result RustExpr TypeFault → Type 0
Gives rules t r = GivesAs view_expr rules t r

-- the same of an expression against a type
abbrev pub Types : Program → Func → Expr → SigType → Result RustExpr TypeFault → Type 0
Types p f x ty r = Gives (expr_rules p f x ty) (typed_expr p f x ty) r

-- the same of branches, as pairs of a condition and a value
abbrev pub TypesPairs : Program
    → Func
    → Branches
    → SigType
    → Result (Vec (RustExpr × RustExpr) Global) TypeFault
    → Type 0
TypesPairs p f branches ty r =
    GivesAs (λ (pairs : Vec (RustExpr × RustExpr) Global). view_pairs pairs.items)
    (parts (branch_rules p f branches ty)) (typed_pairs p f ty branches) r

-- the same of an item
abbrev pub GivesItem : Program → Func → Item → Result RustItem TypeFault → Type 0
GivesItem p f x r = GivesAs view_item (item_rules p f x) (typed_item p f x) r

-- the same of items
abbrev pub GivesItems : Program → Func → Items → Result (Vec RustItem Global) TypeFault → Type 0
GivesItems p f xs r =
    GivesAs (λ (all : Vec RustItem Global). view_items all.items) (parts (items_rules p f xs)) (typed_items p f xs) r

-- the typed program with one table or function more, which has position k
abbrev pub with_top : Program → (k : ℕ) → Top → Typed → Typed
with_top p k (table c) t = record t { consts = t.consts ++ typed_table c ∷ [] }
with_top p k (function f) t = record t { funcs = t.funcs ++ typed_func p k f ∷ [] }

-- the call adds it, or answers the fault that is met first in it, or it is out of memory
abbrev pub AddsTop : Program → (k : ℕ) → Top → (old new : RustTyped) → Result (Unit {0}) TypeFault → Type 0
AddsTop p k top old new (Ok x) =
    (first (top_rules p top) ≡ Ok tt) × (view_typed new ≡ with_top p k top (view_typed old))
AddsTop p k top old new (Err fault) = fault ≢ Memory → first (top_rules p top) ≡ Err fault

-- the operator compares numbers
abbrev pub IsComparing : BinOp → Type 0
IsComparing op.Add = ⊥
IsComparing op.Sub = ⊥
IsComparing op.Mul = ⊥
IsComparing op.And = ⊥
IsComparing op.Or = ⊥
IsComparing _ = Unit {0}
