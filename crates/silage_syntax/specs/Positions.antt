-- A tree up to positions: with each `at` 0.
use Rattle.std.specs.Prelude.{map, Option, Some, None}
use Rattle.silage_syntax.specs.declared.tree.Lit.{Lit}
use Rattle.silage_syntax.specs.declared.tree.Lit.TheVariants.{Number, Truth}
use Rattle.silage_syntax.specs.declared.tree.ConstDef.{ConstDef}
use Rattle.silage_syntax.specs.declared.tree.Decl.{Decl}
use Rattle.silage_syntax.specs.Tree.{Manifest, whole, counter, minus, both, Place, Expr, literal, read, negate, not}
use Rattle.silage_syntax.specs.Tree.{binary, shift, cast, choose, Branches, no_branch, branch, Item, equation, call}
use Rattle.silage_syntax.specs.Tree.{loop, initial, Items, no_item, item, Func, Top, table, function, Program}

abbrev pub unpositioned_lit : Lit → Lit
unpositioned_lit (Number neg digits places at) = Number neg digits places 0
unpositioned_lit (Truth value at) = Truth value 0

abbrev pub unpositioned_manifest : Manifest → Manifest
unpositioned_manifest (whole value at) = whole value 0
unpositioned_manifest (counter name at) = counter name 0
unpositioned_manifest (minus at m) = minus 0 (unpositioned_manifest m)
unpositioned_manifest (both at o a b) = both 0 o (unpositioned_manifest a) (unpositioned_manifest b)

abbrev pub unpositioned_place : Place → Place
unpositioned_place p = record { name = p.name; at = 0; subs = map unpositioned_manifest p.subs }

abbrev pub unpositioned_delay : Option Manifest → Option Manifest
unpositioned_delay None = None
unpositioned_delay (Some m) = Some (unpositioned_manifest m)

abbrev mutual
  pub unpositioned_expr : Expr → Expr
  unpositioned_expr (literal l) = literal (unpositioned_lit l)
  unpositioned_expr (read p delay) = read (unpositioned_place p) (unpositioned_delay delay)
  unpositioned_expr (negate at e) = negate 0 (unpositioned_expr e)
  unpositioned_expr (not at e) = not 0 (unpositioned_expr e)
  unpositioned_expr (binary at o a b) = binary 0 o (unpositioned_expr a) (unpositioned_expr b)
  unpositioned_expr (shift at left e m) = shift 0 left (unpositioned_expr e) (unpositioned_manifest m)
  unpositioned_expr (cast at ty e) = cast 0 ty (unpositioned_expr e)
  unpositioned_expr (choose at bs last) = choose 0 (unpositioned_branches bs) (unpositioned_expr last)

  pub unpositioned_branches : Branches → Branches
  unpositioned_branches no_branch = no_branch
  unpositioned_branches (branch c v bs) =
      branch (unpositioned_expr c) (unpositioned_expr v) (unpositioned_branches bs)

abbrev mutual
  pub unpositioned_item : Item → Item
  unpositioned_item (equation p e) = equation (unpositioned_place p) (unpositioned_expr e)
  unpositioned_item (call places func args at) =
      call (map unpositioned_place places) func (map unpositioned_expr args) 0
  unpositioned_item (loop index lo hi items at) =
      loop index (unpositioned_manifest lo) (unpositioned_manifest hi) (unpositioned_items items) 0
  unpositioned_item (initial p k value) =
      initial (unpositioned_place p) (unpositioned_manifest k) (unpositioned_lit value)

  pub unpositioned_items : Items → Items
  unpositioned_items no_item = no_item
  unpositioned_items (item x xs) = item (unpositioned_item x) (unpositioned_items xs)

abbrev pub unpositioned_decl : Decl → Decl
unpositioned_decl d = record { name = d.name; at = 0; dims = d.dims; ty = d.ty }

abbrev pub unpositioned_table : ConstDef → ConstDef
unpositioned_table c =
    record { name = c.name; at = 0; dims = c.dims; ty = c.ty; words = map unpositioned_lit c.words }

abbrev pub unpositioned_func : Func → Func
unpositioned_func f =
    record {
      name = f.name;
      at = 0;
      params = map unpositioned_decl f.params;
      results = map unpositioned_decl f.results;
      locals = map unpositioned_decl f.locals;
      items = unpositioned_items f.items;
    }

abbrev pub unpositioned_top : Top → Top
unpositioned_top (table c) = table (unpositioned_table c)
unpositioned_top (function f) = function (unpositioned_func f)

abbrev pub unpositioned : Program → Program
unpositioned p = record { tops = map unpositioned_top p.tops }
