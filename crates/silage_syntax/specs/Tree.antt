-- The tree of a source as a value, without addresses. Each `at` is a source position, a byte offset.
use Rattle.std.specs.Prelude.{ℕ, Bool, List, [], ◌∷◌, map, Option, Some, None}
use Rattle.fix_word.specs.declared.types.FixType.{FixType}
use Rattle.silage_syntax.specs.declared.tree.BinOp.{BinOp}
use Rattle.silage_syntax.specs.declared.tree.MOp.{MOp}
use Rattle.silage_syntax.specs.declared.tree.Lit.{Lit}
use Rattle.silage_syntax.specs.declared.tree.ConstDef.{ConstDef}
use Rattle.silage_syntax.specs.declared.tree.Decl.{Decl}
use Rattle.silage_syntax.specs.declared.tree.Manifest.{Manifest as RustManifest, Whole, Index, Negate', Binary'}
use Rattle.silage_syntax.specs.declared.tree.Place.{Place as RustPlace}
use Rattle.silage_syntax.specs.declared.tree.Expr.{Expr as RustExpr, Row_of-Expr-Choose-1-2, end_of-Expr-Choose-1-2}
use Rattle.silage_syntax.specs.declared.tree.Expr.{more_of-Expr-Choose-1-2}
use Rattle.silage_syntax.specs.declared.tree.Expr.TheVariants as e
use Rattle.silage_syntax.specs.declared.tree.Item.{Item as RustItem, Row_of-Item, end_of-Item, more_of-Item}
use Rattle.silage_syntax.specs.declared.tree.Item.TheVariants as i
use Rattle.silage_syntax.specs.declared.tree.Func.{Func as RustFunc}
use Rattle.silage_syntax.specs.declared.tree.Top.{Top as RustTop}
use Rattle.silage_syntax.specs.declared.tree.Top.TheVariants as t
use Rattle.silage_syntax.specs.declared.tree.Program.{Program as RustProgram}

-- a manifest constant: a compile-time integer
pub data Manifest : Type 0 where
  whole : (value at : ℕ) → Manifest
  counter : (name : List ℕ) (at : ℕ) → Manifest
  minus : (at : ℕ) → Manifest → Manifest
  both : (at : ℕ) → MOp → Manifest → Manifest → Manifest

-- a name, with a subscript for each of its dims
pub record Place : Type 0 where
  pub name : List ℕ
  pub at : ℕ
  pub subs : List Manifest

mutual
  pub data Expr : Type 0 where
    literal : Lit → Expr
    read : Place → (delay : Option Manifest) → Expr
    negate : (at : ℕ) → Expr → Expr
    not : (at : ℕ) → Expr → Expr
    binary : (at : ℕ) → BinOp → Expr → Expr → Expr
    shift : (at : ℕ) → (left : Bool) → Expr → Manifest → Expr
    cast : (at : ℕ) → FixType → Expr → Expr
    choose : (at : ℕ) → Branches → (last : Expr) → Expr

  -- conditions, each with its value
  pub data Branches : Type 0 where
    no_branch : Branches
    branch : (condition value : Expr) → Branches → Branches

mutual
  pub data Item : Type 0 where
    equation : Place → Expr → Item
    call : (places : List Place) → (func : List ℕ) → (args : List Expr) → (at : ℕ) → Item
    loop : (index : List ℕ) → (lo hi : Manifest) → Items → (at : ℕ) → Item
    initial : Place → (k : Manifest) → Lit → Item

  pub data Items : Type 0 where
    no_item : Items
    item : Item → Items → Items

pub record Func : Type 0 where
  pub name : List ℕ
  pub at : ℕ
  pub params : List Decl
  pub results : List Decl
  pub locals : List Decl
  pub items : Items

pub data Top : Type 0 where
  table : ConstDef → Top
  function : Func → Top

pub record Program : Type 0 where
  pub tops : List Top

abbrev pub view_manifest : RustManifest → Manifest
view_manifest (Whole value at) = whole value at
view_manifest (Index name at) = counter name at
view_manifest (Negate' at p m) = minus at (view_manifest m)
view_manifest (Binary' at op p a q b) = both at op (view_manifest a) (view_manifest b)

abbrev pub view_place : RustPlace → Place
view_place p = record { name = p.name; at = p.at; subs = map view_manifest p.subs }

abbrev pub view_delay : Option RustManifest → Option Manifest
view_delay None = None
view_delay (Some m) = Some (view_manifest m)

abbrev mutual
  pub view_expr : RustExpr → Expr
  view_expr (e.Lit l) = literal l
  view_expr (e.Read p delay) = read (view_place p) (view_delay delay)
  view_expr (e.Negate' at p x) = negate at (view_expr x)
  view_expr (e.Not' at p x) = not at (view_expr x)
  view_expr (e.Binary' at op p a q b) = binary at op (view_expr a) (view_expr b)
  view_expr (e.Shift' at left p x m) = shift at left (view_expr x) (view_manifest m)
  view_expr (e.Cast' at ty p x) = cast at ty (view_expr x)
  view_expr (e.Choose' at shape row p last) = choose at (view_branches row) (view_expr last)

  pub view_branches : {m : _} → Row_of-Expr-Choose-1-2 m → Branches
  view_branches end_of-Expr-Choose-1-2 = no_branch
  view_branches (more_of-Expr-Choose-1-2 c v rest) = branch (view_expr c) (view_expr v) (view_branches rest)

abbrev mutual
  pub view_item : RustItem → Item
  view_item (i.Equation p x) = equation (view_place p) (view_expr x)
  view_item (i.Call ps f xs at) = call (map view_place ps.items) f (map view_expr xs.items) at
  view_item (i.Loop' index lo hi shape row at) = loop index (view_manifest lo) (view_manifest hi) (view_row row) at
  view_item (i.Initial p k l) = initial (view_place p) (view_manifest k) l

  pub view_row : {m : _} → Row_of-Item m → Items
  view_row end_of-Item = no_item
  view_row (more_of-Item x rest) = item (view_item x) (view_row rest)

abbrev pub items_of : List Item → Items
items_of [] = no_item
items_of (x ∷ xs) = item x (items_of xs)

abbrev pub view_arms : List (RustExpr × RustExpr) → Branches
view_arms [] = no_branch
view_arms (arm ∷ arms) = branch (view_expr arm.0) (view_expr arm.1) (view_arms arms)

abbrev pub view_items : List RustItem → Items
view_items xs = items_of (map view_item xs)

abbrev pub view_func : RustFunc → Func
view_func f =
    record {
      name = f.name;
      at = f.at;
      params = f.params;
      results = f.results;
      locals = f.locals;
      items = view_items f.items;
    }

abbrev pub view_top : RustTop → Top
view_top (t.Const c) = table c
view_top (t.Func f) = function (view_func f)

abbrev pub view : RustProgram → Program
view p = record { tops = map view_top p.tops }
