-- Types: of the words of signals, and of expressions.
use Rattle.std.specs.Prelude.{◌≡◌, ℕ, List, replicate, flat_map, Option, Some, None, option_map, ℤ, pos, ◌≤ℤ◌}
use Rattle.std.specs.Option.{option_or}
use Rattle.fix_word.specs.Values.{bit_of}
use Rattle.fix_word.specs.Words.{IsWord, IsLiteral}
use Rattle.fix_word.specs.declared.types.SigType.{SigType}
use Rattle.fix_word.specs.declared.types.SigType.TheVariants as sig
use Rattle.silage_syntax.specs.declared.tree.BinOp.{BinOp}
use Rattle.silage_syntax.specs.declared.tree.BinOp.TheVariants as op
use Rattle.silage_syntax.specs.declared.tree.ConstDef.{ConstDef}
use Rattle.silage_syntax.specs.declared.tree.Decl.{Decl}
use Rattle.silage_syntax.specs.declared.tree.Lit.{Lit}
use Rattle.silage_syntax.specs.declared.tree.Lit.TheVariants.{Number, Truth}
use Rattle.silage_syntax.specs.Tree.{Expr, literal, read, negate, not, binary, shift, cast, choose, Branches, no_branch}
use Rattle.silage_syntax.specs.Tree.{branch, Func, Program}
use Rattle.silage_syntax.specs.Names.{declared, table_named, element_count}

-- the word is in the type's range
abbrev pub IsInType : SigType → ℤ → Type 0
IsInType (sig.Fix t) word = IsWord t.shape.w word
IsInType sig.Bool word = (pos 0 ≤ℤ word) × (word ≤ℤ pos 1)

-- two types have one shape, whatever their modes, or both are `bool`
abbrev pub HasShapeOf : SigType → SigType → Type 0
HasShapeOf (sig.Fix a) (sig.Fix b) = a.shape ≡ b.shape
HasShapeOf sig.Bool sig.Bool = Unit {0}
HasShapeOf _ _ = ⊥

-- the word is the literal's in the type
abbrev pub IsRawWord : Lit → SigType → ℤ → Type 0
IsRawWord (Number negative digits places at) (sig.Fix t) word = IsLiteral negative digits places t.shape word
IsRawWord (Truth value at) sig.Bool word = word ≡ bit_of value
IsRawWord _ _ word = ⊥

abbrev pub table_type : Option ConstDef → Option SigType
table_type None = None
table_type (Some c) = Some (sig.Fix c.ty)

-- the type that a name is declared with, in a function or as a table
abbrev pub name_type : Program → Func → List ℕ → Option SigType
name_type p f name =
    option_or (option_map (λ (d : ℕ × Decl). d.1.ty) (declared f name)) (table_type (table_named p name))

-- the type of a sum or difference, of a product, of a comparison or of a truth, by its parts' types
abbrev pub binary_type : BinOp → Option SigType → Option SigType → Option SigType
binary_type op.Add a b = option_or a b
binary_type op.Sub a b = option_or a b
binary_type op.Mul a b = None
binary_type _ a b = Some sig.Bool

-- the type that is synthesised for an expression, if it has one of its own
abbrev mutual
  pub own_type : Program → Func → Expr → Option SigType
  own_type p f (literal (Number negative digits places at)) = None
  own_type p f (literal (Truth value at)) = Some sig.Bool
  own_type p f (read place delay) = name_type p f place.name
  own_type p f (negate at x) = own_type p f x
  own_type p f (not at x) = Some sig.Bool
  own_type p f (binary at o x y) = binary_type o (own_type p f x) (own_type p f y)
  own_type p f (shift at left x amount) = own_type p f x
  own_type p f (cast at ty x) = Some (sig.Fix ty)
  own_type p f (choose at branches last) = option_or (branches_type p f branches) (own_type p f last)

  pub branches_type : Program → Func → Branches → Option SigType
  branches_type p f no_branch = None
  branches_type p f (branch condition value rest) = option_or (own_type p f value) (branches_type p f rest)

-- the type against which a factor is checked: its own, or for a number that of the other factor
abbrev pub factor_type : Program → Func → Expr → (other : Expr) → Option SigType
factor_type p f (literal (Number negative digits places at)) other = own_type p f other
factor_type p f x other = own_type p f x

-- the type against which both sides of a comparison are checked: the left's own, else the right's
abbrev pub common_type : Program → Func → Expr → Expr → Option SigType
common_type p f x y = option_or (own_type p f x) (own_type p f y)

-- the type of each word of these declarations, in order
abbrev pub word_types : List Decl → List SigType
word_types ds = flat_map (λ (d : Decl). replicate (element_count d.dims) d.ty) ds
