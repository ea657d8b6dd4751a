-- The typing table: the rules on types, each a test with the fault where it fails. A line is an expression against the
-- type that is wanted: first the rules of its own, then its parts, each against its type, from left to right.
use Rattle.std.specs.Prelude.{ℕ, ◌-◌, ◌^◌, ◌&&◌, Bool, true, false, List, ◌∷◌, nat_eq, Option, Some, None}
use Rattle.std.specs.Prelude.{ℤ, pos, neg_ℤ, int_le, int_lt}
use Rattle.fault_order.specs.Rules.{Rules, RuleRow, parts, none, ◌▸◌, unless, each}
use Rattle.fix_word.specs.Values.{nearest_of}
use Rattle.fix_word.specs.declared.types.FixType.{FixType}
use Rattle.fix_word.specs.declared.types.SigType.{SigType}
use Rattle.fix_word.specs.declared.types.SigType.TheVariants.{Fix, Bool as Truths}
use Rattle.silage_syntax.specs.declared.tree.BinOp.{BinOp}
use Rattle.silage_syntax.specs.declared.tree.BinOp.TheVariants as op
use Rattle.silage_syntax.specs.declared.tree.ConstDef.{ConstDef}
use Rattle.silage_syntax.specs.declared.tree.Decl.{Decl}
use Rattle.silage_syntax.specs.declared.tree.Lit.{Lit}
use Rattle.silage_syntax.specs.declared.tree.Lit.TheVariants.{Number, Truth}
use Rattle.silage_syntax.specs.Tree.{Place, Expr, literal, read, negate, not, binary, shift, cast, choose}
use Rattle.silage_syntax.specs.Tree.{Branches, no_branch, branch}
use Rattle.silage_syntax.specs.Tree.{Item, equation, call, loop, initial, Items, no_item, item}
use Rattle.silage_syntax.specs.Tree.{Func, Top, table, function, Program}
use Rattle.silage_syntax.specs.Names.{function_named}
use Rattle.silage_meaning.specs.Types.{name_type, own_type, factor_type, common_type}
use Rattle.type_rules.specs.declared.fault.TypeFault.{TypeFault}
use Rattle.type_rules.specs.declared.fault.TypeFault.TheVariants.{Mismatch, NeedsCast, Literal, NotBool}

-- nothing to break
abbrev pub fits : Rules TypeFault
fits = parts none

-- broken, whatever the parts are
abbrev pub refused : TypeFault → Rules TypeFault
refused fault = unless false fault

-- the number is in the range of w bits in two's complement
abbrev pub is_word : (w : ℕ) → ℤ → Bool
is_word w z = int_le (neg_ℤ (pos (2 ^ (w - 1)))) z && int_lt z (pos (2 ^ (w - 1)))

-- the types have one shape, whatever their modes, or both are `bool`
abbrev pub is_same_shape : SigType → SigType → Bool
is_same_shape (Fix a) (Fix b) = nat_eq a.shape.w b.shape.w && nat_eq a.shape.f b.shape.f
is_same_shape Truths Truths = true
is_same_shape _ _ = false

-- A literal against a type: a number is in the range of a fix type and is no truth value; a truth value is no number.
abbrev pub literal_rules : Lit → SigType → Rules TypeFault
literal_rules (Number negative digits places at) (Fix t) =
    unless (is_word t.shape.w (nearest_of negative digits places t.shape.f)) (Literal at)
literal_rules (Number negative digits places at) Truths = refused (NotBool at)
literal_rules (Truth value at) (Fix t) = refused (Mismatch at)
literal_rules (Truth value at) Truths = fits

-- what a name that does not fit the wanted type is
abbrev pub misfit : (wanted : SigType) → (at : ℕ) → TypeFault
misfit (Fix t) at = Mismatch at
misfit Truths at = NotBool at

-- a name of this declared type has the wanted shape; that a name has a type is a rule on names
abbrev pub name_rules : (declared : Option SigType) → (wanted : SigType) → (at : ℕ) → Rules TypeFault
name_rules None wanted at = fits
name_rules (Some ty) wanted at = unless (is_same_shape ty wanted) (misfit wanted at)

-- a factor or a side has a type, and it is a fix type
abbrev pub operand_rules : Option SigType → (at : ℕ) → Rules TypeFault
operand_rules None at = refused (NeedsCast at)
operand_rules (Some Truths) at = refused (Mismatch at)
operand_rules (Some (Fix t)) at = fits

-- the rules of a part against its type, if it has one
abbrev pub against : (SigType → Rules TypeFault) → Option SigType → Rules TypeFault
against R None = fits
against R (Some ty) = R ty

-- a product of factors that are checked against these types
abbrev pub product_rules : (left right : Option SigType)
    → (X Y : SigType → Rules TypeFault)
    → (at : ℕ)
    → Rules TypeFault
product_rules left right X Y at =
    parts (operand_rules left at ▸ operand_rules right at ▸ against X left ▸ against Y right ▸ none)

-- a comparison of sides that are checked against this type
abbrev pub comparison_rules : (common : Option SigType) → (X Y : SigType → Rules TypeFault) → (at : ℕ)
    → Rules TypeFault
comparison_rules common X Y at = parts (operand_rules common at ▸ against X common ▸ against Y common ▸ none)

-- a cast's part that has this type of its own is checked against it, and one that has none against the cast's type
abbrev pub part_type : (own : Option SigType) → FixType → SigType
part_type None c = Fix c
part_type (Some ty) c = ty

-- a type that a part has of its own is no `bool`
abbrev pub is_no_truth : Option SigType → Bool
is_no_truth (Some Truths) = false
is_no_truth _ = true

-- a cast to c where t is wanted, of a part with this type of its own
abbrev pub cast_rules : (own : Option SigType)
    → (X : SigType → Rules TypeFault)
    → (c t : FixType)
    → (at : ℕ)
    → Rules TypeFault
cast_rules own X c t at = parts (
    unless (is_same_shape (Fix c) (Fix t)) (Mismatch at)
    ▸ unless (is_no_truth own) (Mismatch at)
    ▸ X (part_type own c)
    ▸ none)

-- both parts against one type
abbrev pub both_rules : (X Y : SigType → Rules TypeFault) → SigType → Rules TypeFault
both_rules X Y ty = parts (X ty ▸ Y ty ▸ none)

-- A binary operator where the fix type t is wanted: sums have both parts against it, products have factors with types
-- of their own, and the others give truth values. The factors' types are those of `factor_type`.
abbrev pub fix_rules : BinOp
    → (left right : Option SigType)
    → (X Y : SigType → Rules TypeFault)
    → (at : ℕ)
    → (t : FixType)
    → Rules TypeFault
fix_rules op.Add left right X Y at t = both_rules X Y (Fix t)
fix_rules op.Sub left right X Y at t = both_rules X Y (Fix t)
fix_rules op.Mul left right X Y at t = product_rules left right X Y at
fix_rules _ left right X Y at t = refused (Mismatch at)

-- the same where a truth value is wanted; the common type is that of both sides of a comparison
abbrev pub truth_rules : BinOp
    → (common : Option SigType)
    → (X Y : SigType → Rules TypeFault)
    → (at : ℕ)
    → Rules TypeFault
truth_rules op.Add common X Y at = refused (NotBool at)
truth_rules op.Sub common X Y at = refused (NotBool at)
truth_rules op.Mul common X Y at = refused (NotBool at)
truth_rules op.And common X Y at = both_rules X Y Truths
truth_rules op.Or common X Y at = both_rules X Y Truths
truth_rules _ common X Y at = comparison_rules common X Y at

-- In a function of the program.
module _ (p : Program) (f : Func) where
  abbrev mutual
    -- an expression against the type that is wanted
    pub expr_rules : Expr → (wanted : SigType) → Rules TypeFault
    expr_rules (literal l) ty = literal_rules l ty
    expr_rules (read place delay) ty = name_rules (name_type p f place.name) ty place.at
    expr_rules (negate at x) (Fix t) = expr_rules x (Fix t)
    expr_rules (negate at x) Truths = refused (NotBool at)
    expr_rules (not at x) (Fix t) = refused (Mismatch at)
    expr_rules (not at x) Truths = expr_rules x Truths
    expr_rules (binary at o x y) (Fix t) =
        fix_rules o (factor_type p f x y) (factor_type p f y x) (expr_rules x) (expr_rules y) at t
    expr_rules (binary at o x y) Truths = truth_rules o (common_type p f x y) (expr_rules x) (expr_rules y) at
    expr_rules (shift at left x amount) (Fix t) = expr_rules x (Fix t)
    expr_rules (shift at left x amount) Truths = refused (NotBool at)
    expr_rules (cast at c x) (Fix t) = cast_rules (own_type p f x) (expr_rules x) c t at
    expr_rules (cast at c x) Truths = refused (NotBool at)
    expr_rules (choose at branches last) ty = parts (parts (branch_rules branches ty) ▸ expr_rules last ty ▸ none)

    -- each condition is a truth value, and each value has the wanted type
    pub branch_rules : Branches → (wanted : SigType) → RuleRow TypeFault
    branch_rules no_branch ty = none
    branch_rules (branch condition x rest) ty =
        parts (expr_rules condition Truths ▸ expr_rules x ty ▸ none) ▸ branch_rules rest ty

  -- each argument against the type of its parameter; that of an array parameter is the name of an array
  abbrev pub argument_rules : (params : List Decl) → (args : List Expr) → RuleRow TypeFault
  argument_rules (d ∷ ds) (x ∷ xs) = expr_rules x d.ty ▸ argument_rules ds xs
  argument_rules _ _ = none

  -- the name of each place of a call against the type of its result
  abbrev pub place_rules : (results : List Decl) → List Place → RuleRow TypeFault
  place_rules (d ∷ ds) (place ∷ places) =
      name_rules (name_type p f place.name) d.ty place.at ▸ place_rules ds places
  place_rules _ _ = none

  -- a call of this function: its arguments, then its places
  abbrev pub call_rules : (callee : Option Func) → List Place → (args : List Expr) → Rules TypeFault
  call_rules None places args = fits
  call_rules (Some g) places args =
      parts (parts (argument_rules g.params args) ▸ parts (place_rules g.results places) ▸ none)

  abbrev mutual
    -- the right side of an equation, and an initial value, against the type of the place
    pub item_rules : Item → Rules TypeFault
    item_rules (equation place x) = against (expr_rules x) (name_type p f place.name)
    item_rules (call places name args at) = call_rules (function_named p name) places args
    item_rules (loop index lo hi items at) = parts (items_rules items)
    item_rules (initial place k value) = against (literal_rules value) (name_type p f place.name)

    pub items_rules : Items → RuleRow TypeFault
    items_rules no_item = none
    items_rules (item x rest) = item_rules x ▸ items_rules rest

-- the numbers of a table against its type
abbrev pub table_rules : ConstDef → Rules TypeFault
table_rules c = parts (each (λ word. literal_rules word (Fix c.ty)) c.words)

abbrev pub top_rules : Program → Top → Rules TypeFault
top_rules p (table c) = table_rules c
top_rules p (function f) = parts (items_rules p f f.items)

-- tables and functions in the order of the source
abbrev pub type_rules : Program → Rules TypeFault
type_rules p = parts (each (top_rules p) p.tops)
