-- What the typed program keeps of the program: the value of each expression, wherever it is evaluated.
use Rattle.std.specs.Prelude.{◌≡◌, ◌↔◌, ◌⊎◌, ℕ, List, Contains, slice_get, Some, ℤ}
use Rattle.fix_word.specs.declared.types.SigType.{SigType}
use Rattle.silage_syntax.specs.declared.tree.Decl.{Decl}
use Rattle.silage_syntax.specs.Tree.{Place, Expr, Item, equation, call, loop, Items, no_item, item, Func, function}
use Rattle.silage_syntax.specs.Tree.{Program}
use Rattle.silage_syntax.specs.Names.{function_named}
use Rattle.silage_meaning.specs.Instances.{Site}
use Rattle.silage_meaning.specs.Types.{name_type}
use Rattle.silage_meaning.specs.Value.{Words, IsValue}
use Rattle.type_rules.specs.TypedTree.{TypedExpr}
use Rattle.type_rules.specs.TypedValue.{HasTypedValue}
use Rattle.type_rules.specs.Translation.{typed_expr}

-- the item is one of these, or is inside a loop there
abbrev mutual
  pub HasItem : Items → Item → Type 0
  HasItem no_item x = ⊥
  HasItem (item y rest) x = HasItemIn y x ⊎ HasItem rest x

  pub HasItemIn : Item → Item → Type 0
  HasItemIn (loop index lo hi items at) x = HasItem items x
  HasItemIn y x = x ≡ y

-- in the function f an expression stands against the type: a right side, or an argument of a call
pub data IsExpression (p : Program) (f : Func) : Expr → SigType → Type 0 where
  right_side : {x : Expr} {ty : SigType} (place : Place)
      → HasItem f.items (equation place x)
      → name_type p f place.name ≡ Some ty
      → IsExpression p f x ty
  argument : {x : Expr} (places : List Place) (name : List ℕ) (args : List Expr) (at : ℕ)
      → (g : Func) (k : ℕ) (d : Decl)
      → HasItem f.items (call places name args at)
      → function_named p name ≡ Some g
      → slice_get g.params k ≡ Some d
      → slice_get args k ≡ Some x
      → IsExpression p f x d.ty

-- In each instance of the function, turn of the loops, and sample, over any words, the typed expression has the values
-- of the expression against the type, and no others.
abbrev pub HasValuesOf : Program → Func → Expr → SigType → TypedExpr → Type 0
HasValuesOf p f x ty t =
    (s : Site) (words : Words) (n : ℕ) (v : ℤ)
    → s.function ≡ f
    → IsValue p s words n x ty v ↔ HasTypedValue p s words n t v

-- each expression of the program is typed so
abbrev pub KeepsValues : Program → Type 0
KeepsValues p =
    (f : Func) (x : Expr) (ty : SigType)
    → Contains p.tops (function f)
    → IsExpression p f x ty
    → HasValuesOf p f x ty (typed_expr p f x ty)
