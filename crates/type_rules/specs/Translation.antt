-- The typed program of a program: each line of the typing table as raw words, formats and operations. Of a program with
-- a fault nothing is said by it.
use Rattle.std.specs.Prelude.{ℕ, ◌+◌, List, [], ◌∷◌, map, filter_map, Option, Some, None}
use Rattle.std.specs.Prelude.{ℤ, pos, negsuc, ◌-ℤ◌, Bool, true, false}
use Rattle.fix_word.specs.Words.{overflow_of}
use Rattle.fix_word.specs.Values.{nearest_of, bit_of}
use Rattle.fix_word.specs.declared.types.FixType.{FixType}
use Rattle.fix_word.specs.declared.types.Format.{Format}
use Rattle.fix_word.specs.declared.types.Mode.TheVariants.{Trunc}
use Rattle.fix_word.specs.declared.types.SigType.{SigType}
use Rattle.fix_word.specs.declared.types.SigType.TheVariants.{Fix, Bool as Truths}
use Rattle.fix_word.specs.declared.operation.Op.TheVariants as does
use Rattle.silage_syntax.specs.declared.tree.BinOp.{BinOp}
use Rattle.silage_syntax.specs.declared.tree.BinOp.TheVariants as op
use Rattle.silage_syntax.specs.declared.tree.ConstDef.{ConstDef}
use Rattle.silage_syntax.specs.declared.tree.Decl.{Decl}
use Rattle.silage_syntax.specs.declared.tree.Lit.{Lit}
use Rattle.silage_syntax.specs.declared.tree.Lit.TheVariants.{Number, Truth}
use Rattle.silage_syntax.specs.Tree.{Expr, literal, read, negate, not, binary, shift, cast, choose}
use Rattle.silage_syntax.specs.Tree.{Branches, no_branch, branch}
use Rattle.silage_syntax.specs.Tree.{Item, equation, call, loop, initial, Items, no_item, item}
use Rattle.silage_syntax.specs.Tree.{Func, Top, table, function, Program}
use Rattle.silage_syntax.specs.Names.{as_table, function_named}
use Rattle.silage_meaning.specs.Types.{name_type, own_type, factor_type, common_type}
use Rattle.name_rules.specs.Meanings.{params_of}
use Rattle.name_rules.specs.TopNames.{position_of}
use Rattle.type_rules.specs.TypedTree.{TypedExpr, raw, node, Parts, no_part, part, TypedItem, TypedItems, TypedFunc}
use Rattle.type_rules.specs.TypedTree.{Typed}
use Rattle.type_rules.specs.TypedTree as typed
use Rattle.type_rules.specs.declared.typed.TypedConst.{TypedConst}

-- the raw word of a literal in a type
abbrev pub word_of : Lit → SigType → ℤ
word_of (Number negative digits places at) (Fix t) = nearest_of negative digits places t.shape.f
word_of (Truth value at) ty = bit_of value
word_of (Number negative digits places at) Truths = pos 0

-- an exact result that is brought to the width of the type by its overflow mode
abbrev pub fitted : FixType → Format
fitted t = record { shift = pos 0; mode = overflow_of t.mode; width = t.shape.w }

-- a result with so many more fraction bits than the type, which are dropped by its mode
abbrev pub rounded : FixType → (bits : ℤ) → Format
rounded t bits = record { shift = bits; mode = t.mode; width = t.shape.w }

-- that of an operation without one, as a comparison
abbrev pub no_format : Format
no_format = record { shift = pos 0; mode = Trunc; width = 0 }

-- the width of a word: 2 for a truth value
abbrev pub width_of : SigType → ℕ
width_of (Fix t) = t.shape.w
width_of Truths = 2

-- that of a choice between words of the type
abbrev pub chosen : SigType → Format
chosen ty = record { shift = pos 0; mode = Trunc; width = width_of ty }

-- what stands for an expression with a fault
abbrev pub untyped : TypedExpr
untyped = raw (pos 0)

abbrev pub one : TypedExpr → Parts
one x = part x no_part

abbrev pub two : TypedExpr → TypedExpr → Parts
two x y = part x (part y no_part)

abbrev pub three : TypedExpr → TypedExpr → TypedExpr → Parts
three x y z = part x (part y (part z no_part))

-- a part against its type, if it has one
abbrev pub typed_against : (SigType → TypedExpr) → Option SigType → TypedExpr
typed_against X None = untyped
typed_against X (Some ty) = X ty

-- a product of factors of these types: exact, then as many fraction bits less as both have more than the wanted type
abbrev pub typed_product : (left right : Option SigType) → (X Y : SigType → TypedExpr) → FixType → TypedExpr
typed_product (Some (Fix r)) (Some (Fix s)) X Y t =
    node does.Mul (rounded t (pos (r.shape.f + s.shape.f) -ℤ pos t.shape.f)) (two (X (Fix r)) (Y (Fix s))) None
typed_product _ _ X Y t = untyped

-- a part with this type of its own, converted to the type
abbrev pub typed_cast : (own : Option SigType) → (X : SigType → TypedExpr) → FixType → TypedExpr
typed_cast (Some (Fix r)) X c =
    node does.Pass (rounded c (pos r.shape.f -ℤ pos c.shape.f)) (one (X (Fix r))) None
typed_cast (Some Truths) X c = untyped
typed_cast None X c = X (Fix c)

-- a binary operator on these parts, where the fix type t is wanted
abbrev pub typed_number : BinOp → (left right : Option SigType) → (X Y : SigType → TypedExpr) → FixType
    → TypedExpr
typed_number op.Add left right X Y t = node does.Add (fitted t) (two (X (Fix t)) (Y (Fix t))) None
typed_number op.Sub left right X Y t = node does.Sub (fitted t) (two (X (Fix t)) (Y (Fix t))) None
typed_number op.Mul left right X Y t = typed_product left right X Y t
typed_number _ left right X Y t = untyped

-- the same where a truth value is wanted; `x` and `y` are the sides of a comparison
abbrev pub typed_truth : BinOp → (X Y : SigType → TypedExpr) → (x y : TypedExpr) → TypedExpr
typed_truth op.Lt X Y x y = node does.Lt no_format (two x y) None
typed_truth op.Le X Y x y = node does.Le no_format (two x y) None
typed_truth op.Eq X Y x y = node does.Eq no_format (two x y) None
typed_truth op.Ne X Y x y = node does.Ne no_format (two x y) None
typed_truth op.Gt X Y x y = node does.Lt no_format (two y x) None
typed_truth op.Ge X Y x y = node does.Le no_format (two y x) None
typed_truth op.And X Y x y = node does.And no_format (two (X Truths) (Y Truths)) None
typed_truth op.Or X Y x y = node does.Or no_format (two (X Truths) (Y Truths)) None
typed_truth _ X Y x y = untyped

-- a shift by one bit, which an amount multiplies: exact to the left, rounded to the right
abbrev pub one_bit : (left : Bool) → FixType → Format
one_bit true t = record { shift = negsuc 0; mode = overflow_of t.mode; width = t.shape.w }
one_bit false t = record { shift = pos 1; mode = t.mode; width = t.shape.w }

-- In a function of the program.
module _ (p : Program) (f : Func) where
  abbrev mutual
    -- an expression against the type that is wanted
    pub typed_expr : Expr → (wanted : SigType) → TypedExpr
    typed_expr (literal l) ty = raw (word_of l ty)
    typed_expr (read place delay) ty = typed.read place delay
    typed_expr (negate at x) (Fix t) = node does.Neg (fitted t) (one (typed_expr x (Fix t))) None
    typed_expr (negate at x) Truths = untyped
    typed_expr (not at x) (Fix t) = untyped
    typed_expr (not at x) Truths = node does.Not no_format (one (typed_expr x Truths)) None
    typed_expr (binary at o x y) (Fix t) =
        typed_number o (factor_type p f x y) (factor_type p f y x) (typed_expr x) (typed_expr y) t
    typed_expr (binary at o x y) Truths =
        typed_truth o (typed_expr x) (typed_expr y) (typed_against (typed_expr x) (common_type p f x y))
        (typed_against (typed_expr y) (common_type p f x y))
    typed_expr (shift at left x amount) (Fix t) =
        node does.Pass (one_bit left t) (one (typed_expr x (Fix t))) (Some amount)
    typed_expr (shift at left x amount) Truths = untyped
    typed_expr (cast at c x) ty = typed_cast (own_type p f x) (typed_expr x) c
    typed_expr (choose at branches last) ty = typed_choice branches ty (typed_expr last ty)

    -- the value after the first condition that is true, or else the last
    pub typed_choice : Branches → (wanted : SigType) → (last : TypedExpr) → TypedExpr
    typed_choice no_branch ty last = last
    typed_choice (branch condition x rest) ty last =
        node does.Sel (chosen ty)
        (three (typed_expr condition Truths) (typed_expr x ty) (typed_choice rest ty last)) None

  -- the arguments of a call, each against the type of its parameter
  abbrev pub typed_arguments : (params : List Decl) → List Expr → List TypedExpr
  typed_arguments (d ∷ ds) (x ∷ xs) = typed_expr x d.ty ∷ typed_arguments ds xs
  typed_arguments _ _ = []

  -- the raw word of an initial value
  abbrev pub initial_word : Lit → Option SigType → ℤ
  initial_word value None = pos 0
  initial_word value (Some ty) = word_of value ty

  abbrev mutual
    pub typed_item : Item → TypedItem
    typed_item (equation place x) =
        typed.equation place (typed_against (typed_expr x) (name_type p f place.name))
    typed_item (call places name args at) =
        typed.call places (position_of p name)
        (typed_arguments (params_of (function_named p name)) args) at
    typed_item (loop index lo hi items at) = typed.loop index lo hi (typed_items items)
    typed_item (initial place k value) =
        typed.initial place k (initial_word value (name_type p f place.name))

    pub typed_items : Items → TypedItems
    typed_items no_item = typed.no_item
    typed_items (item x rest) = typed.item (typed_item x) (typed_items rest)

abbrev pub typed_table : ConstDef → TypedConst
typed_table c =
    record { name = c.name; dims = c.dims; ty = c.ty; words = map (λ word. word_of word (Fix c.ty)) c.words }

-- the function at position k among the tables and functions
abbrev pub typed_func : Program → (k : ℕ) → Func → TypedFunc
typed_func p k f =
    record { func = k; params = f.params; results = f.results; locals = f.locals; items = typed_items p f f.items }

-- the functions among these, of which the first has position k
abbrev pub typed_funcs : Program → (k : ℕ) → List Top → List TypedFunc
typed_funcs p k [] = []
typed_funcs p k (table c ∷ tops) = typed_funcs p (k + 1) tops
typed_funcs p k (function f ∷ tops) = typed_func p k f ∷ typed_funcs p (k + 1) tops

abbrev pub typed_program : Program → Typed
typed_program p =
    record { consts = map typed_table (filter_map as_table p.tops); funcs = typed_funcs p 0 p.tops }
