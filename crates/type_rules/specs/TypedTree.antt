-- The tree of a typed program as a value, without addresses: raw words, formats and operations in the place of types.
use Rattle.std.specs.Prelude.{ℕ, List, [], ◌∷◌, map, Option, ℤ}
use Rattle.fix_word.specs.declared.types.Format.{Format}
use Rattle.fix_word.specs.declared.operation.Op.{Op}
use Rattle.silage_syntax.specs.declared.tree.Decl.{Decl}
use Rattle.silage_syntax.specs.Tree.{Manifest, Place, view_manifest, view_place, view_delay}
use Rattle.type_rules.specs.declared.typed.TypedExpr.{TypedExpr as RustExpr, Row_of-TypedExpr, end_of-TypedExpr}
use Rattle.type_rules.specs.declared.typed.TypedExpr.{more_of-TypedExpr}
use Rattle.type_rules.specs.declared.typed.TypedExpr.TheVariants as e
use Rattle.type_rules.specs.declared.typed.TypedItem.{TypedItem as RustItem, Row_of-TypedItem, end_of-TypedItem}
use Rattle.type_rules.specs.declared.typed.TypedItem.{more_of-TypedItem}
use Rattle.type_rules.specs.declared.typed.TypedItem.TheVariants as i
use Rattle.type_rules.specs.declared.typed.TypedFunc.{TypedFunc as RustFunc}
use Rattle.type_rules.specs.declared.typed.TypedConst.{TypedConst}
use Rattle.type_rules.specs.declared.typed.Typed.{Typed as RustTyped}

mutual
  pub data TypedExpr : Type 0 where
    raw : ℤ → TypedExpr
    -- a signal or a number of a table, `delay` samples ago
    read : Place → (delay : Option Manifest) → TypedExpr
    -- an operation on parts, by a format; where a shift has an amount, the format's shift is that of one bit
    node : Op → Format → Parts → (amount : Option Manifest) → TypedExpr

  pub data Parts : Type 0 where
    no_part : Parts
    part : TypedExpr → Parts → Parts

mutual
  pub data TypedItem : Type 0 where
    equation : Place → TypedExpr → TypedItem
    call : (places : List Place) → (func : ℕ) → (args : List TypedExpr) → (at : ℕ) → TypedItem
    loop : (index : List ℕ) → (lo hi : Manifest) → TypedItems → TypedItem
    initial : Place → (k : Manifest) → ℤ → TypedItem

  pub data TypedItems : Type 0 where
    no_item : TypedItems
    item : TypedItem → TypedItems → TypedItems

-- a function, by its position among the tables and functions
pub record TypedFunc : Type 0 where
  pub func : ℕ
  pub params : List Decl
  pub results : List Decl
  pub locals : List Decl
  pub items : TypedItems

pub record Typed : Type 0 where
  pub consts : List TypedConst
  pub funcs : List TypedFunc

abbrev pub parts_of : List TypedExpr → Parts
parts_of [] = no_part
parts_of (x ∷ xs) = part x (parts_of xs)

abbrev mutual
  pub view_expr : RustExpr → TypedExpr
  view_expr (e.Raw z) = raw z
  view_expr (e.Read place delay) = read (view_place place) (view_delay delay)
  view_expr (e.Node' op fmt shape row amount) = node op fmt (view_parts row) (view_delay amount)

  pub view_parts : {m : _} → Row_of-TypedExpr m → Parts
  view_parts end_of-TypedExpr = no_part
  view_parts (more_of-TypedExpr x rest) = part (view_expr x) (view_parts rest)

abbrev mutual
  pub view_item : RustItem → TypedItem
  view_item (i.Equation place x) = equation (view_place place) (view_expr x)
  view_item (i.Call places func args at) = call (map view_place places.items) func (map view_expr args.items) at
  view_item (i.Loop' index lo hi shape row) = loop index (view_manifest lo) (view_manifest hi) (view_row row)
  view_item (i.Initial place k z) = initial (view_place place) (view_manifest k) z

  pub view_row : {m : _} → Row_of-TypedItem m → TypedItems
  view_row end_of-TypedItem = no_item
  view_row (more_of-TypedItem x rest) = item (view_item x) (view_row rest)

abbrev pub items_of : List TypedItem → TypedItems
items_of [] = no_item
items_of (x ∷ xs) = item x (items_of xs)

abbrev pub view_items : List RustItem → TypedItems
view_items xs = items_of (map view_item xs)

abbrev pub view_func : RustFunc → TypedFunc
view_func f =
    record {
      func = f.func;
      params = f.params;
      results = f.results;
      locals = f.locals;
      items = view_items f.items;
    }

abbrev pub view_typed : RustTyped → Typed
view_typed t = record { consts = t.consts; funcs = map view_func t.funcs }
