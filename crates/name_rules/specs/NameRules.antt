-- The rules on names, as a table in the order of the source: each is a test, with the fault where it fails.
use Rattle.std.specs.Prelude.{ℕ, ◌&&◌, ◌||◌, not, Bool, true, false, List, [], ◌∷◌, ◌++◌, length, slice_get, nat_eq}
use Rattle.std.specs.Prelude.{is_some, is_none, unwrap_or, option_map, Option, Some, None, if◌then◌else◌}
use Rattle.fault_order.specs.Rules.{Rules, RuleRow, parts, own, none, ◌▸◌, unless, each, each_from}
use Rattle.silage_syntax.specs.declared.tree.ConstDef.{ConstDef}
use Rattle.silage_syntax.specs.declared.tree.Decl.{Decl}
use Rattle.silage_syntax.specs.declared.tree.Lit.TheVariants.{Number, Truth}
use Rattle.silage_syntax.specs.Tree.{Manifest, whole, counter, minus, both, Place}
use Rattle.silage_syntax.specs.Tree.{Expr, literal, read, negate, not as denied, binary, shift, cast, choose}
use Rattle.silage_syntax.specs.Tree.{Branches, no_branch, branch}
use Rattle.silage_syntax.specs.Tree.{Item, equation, call, loop, initial, Items, no_item, item}
use Rattle.silage_syntax.specs.Tree.{Func, Top, table, function, Program}
use Rattle.silage_syntax.specs.Names.{decls, declared, function_named, element_count}
use Rattle.name_rules.specs.Contexts.{Context, outermost, inside}
use Rattle.name_rules.specs.TopNames.{top_names}
use Rattle.name_rules.specs.Meanings.{is_among, signal_dims, read_dims, params_of, results_of, are_dims}
use Rattle.name_rules.specs.Meanings.{is_fix_type, is_signal_type, is_element, is_whole_array, takes}
use Rattle.name_rules.specs.declared.fault.NameFault.{NameFault}
use Rattle.name_rules.specs.declared.fault.NameFault.TheVariants.{Unknown, Twice, Arity, Size}

-- an index in a manifest constant is that of a loop around it
abbrev pub manifest_rules : Context → Manifest → Rules NameFault
manifest_rules c (whole value at) = parts none
manifest_rules c (counter name at) = unless (is_among c.indices name) (Unknown at)
manifest_rules c (minus at m) = manifest_rules c m
manifest_rules c (both at o a b) = parts (manifest_rules c a ▸ manifest_rules c b ▸ none)

abbrev pub delay_rules : Context → Option Manifest → Rules NameFault
delay_rules c None = parts none
delay_rules c (Some m) = manifest_rules c m

-- the name of a place is known and its dims fit the use; `fits` is None where the name is unknown
abbrev pub place_rules : Context → (fits : Option Bool) → Place → Rules NameFault
place_rules c fits place =
    parts (
    parts (unless (is_some fits) (Unknown place.at) ▸ unless (unwrap_or fits true) (Arity place.at) ▸ none)
    ▸ parts (each (manifest_rules c) place.subs)
    ▸ none)

-- a place on the left names a signal of the function
abbrev pub target_rules : Context → (fits : List ℕ → Bool) → Place → Rules NameFault
target_rules c fits place = place_rules c (option_map fits (signal_dims c place.name)) place

-- a read names a signal or a table
abbrev pub read_rules : Context → (fits : List ℕ → Bool) → Place → (delay : Option Manifest) → Rules NameFault
read_rules c fits place delay =
    parts (place_rules c (option_map fits (read_dims c place.name)) place ▸ delay_rules c delay ▸ none)

abbrev mutual
  pub expr_rules : Context → Expr → Rules NameFault
  expr_rules c (literal l) = parts none
  expr_rules c (read place delay) = read_rules c (is_element place.subs) place delay
  expr_rules c (negate at x) = expr_rules c x
  expr_rules c (denied at x) = expr_rules c x
  expr_rules c (binary at o x y) = parts (expr_rules c x ▸ expr_rules c y ▸ none)
  expr_rules c (shift at left x amount) = parts (expr_rules c x ▸ manifest_rules c amount ▸ none)
  expr_rules c (cast at ty x) = own (is_fix_type ty) (Size at) (expr_rules c x ▸ none)
  expr_rules c (choose at branches last) = parts (parts (branch_rules c branches) ▸ expr_rules c last ▸ none)

  pub branch_rules : Context → Branches → RuleRow NameFault
  branch_rules c no_branch = none
  branch_rules c (branch condition value rest) =
      parts (expr_rules c condition ▸ expr_rules c value ▸ none) ▸ branch_rules c rest

-- the source position of an expression: its operator's, its first token's or its name's
abbrev pub expr_at : Expr → ℕ
expr_at (literal (Number neg digits places at)) = at
expr_at (literal (Truth value at)) = at
expr_at (read place delay) = place.at
expr_at (negate at x) = at
expr_at (denied at x) = at
expr_at (binary at o x y) = at
expr_at (shift at left x amount) = at
expr_at (cast at ty x) = at
expr_at (choose at branches last) = at

-- The argument for an array parameter is the bare name of an array with these dims. Any other expression has an arity
-- mismatch, whatever the names inside it are.
abbrev pub array_rules : Context → (dims : List ℕ) → Expr → Rules NameFault
array_rules c dims (read place delay) =
    read_rules c (λ its_dims. is_none delay && is_whole_array dims place.subs its_dims) place delay
array_rules c dims x = own false (Arity (expr_at x)) (expr_rules c x ▸ none)

-- an argument without a parameter is an expression like any other
abbrev pub argument_rules : Context → (param : Option Decl) → Expr → Rules NameFault
argument_rules c None x = expr_rules c x
argument_rules c (Some d) x = if nat_eq (length d.dims) 0 then expr_rules c x else array_rules c d.dims x

-- the name in a call is a function's, and there are as many arguments and places as parameters and results
abbrev pub callee_rules : (callee : Option Func) → (places args at : ℕ) → Rules NameFault
callee_rules None places args at = unless false (Unknown at)
callee_rules (Some g) places args at =
    unless (nat_eq args (length g.params) && nat_eq places (length g.results)) (Arity at)

-- the place at position k takes the result at that position
abbrev pub taking_rules : Context → (results : List Decl) → (k : ℕ) → Place → Rules NameFault
taking_rules c results k place = target_rules c (takes (slice_get results k) place.subs) place

abbrev pub places_rules : Context → (results : List Decl) → List Place → Rules NameFault
places_rules c results places = parts (each_from (taking_rules c results) 0 places)

-- the argument at position k is that of the parameter at that position
abbrev pub passing_rules : Context → (params : List Decl) → (k : ℕ) → Expr → Rules NameFault
passing_rules c params k x = argument_rules c (slice_get params k) x

abbrev pub arguments_rules : Context → (params : List Decl) → List Expr → Rules NameFault
arguments_rules c params args = parts (each_from (passing_rules c params) 0 args)

-- from left to right: the places, the name, the arguments
abbrev pub call_rules : Context → (callee : Option Func) → List Place → List Expr → (at : ℕ) → Rules NameFault
call_rules c callee places args at = parts (
    places_rules c (results_of callee) places
    ▸ callee_rules callee (length places) (length args) at
    ▸ arguments_rules c (params_of callee) args
    ▸ none)

-- an index has a name of its own: it is no table's or function's, no signal's, and no index of a loop around its loop
abbrev pub is_free_index : Context → List ℕ → Bool
is_free_index c name =
    not (is_among (top_names c.program) name || (is_some (declared c.func name) || is_among c.indices name))

-- the index of a loop, and the names in its bounds, which are outside of the loop
abbrev pub head_rules : Context → (index : List ℕ) → (lo hi : Manifest) → (at : ℕ) → Rules NameFault
head_rules c index lo hi at =
    own (is_free_index c index) (Twice at) (manifest_rules c lo ▸ manifest_rules c hi ▸ none)

abbrev mutual
  pub item_rules : Context → Item → Rules NameFault
  item_rules c (equation place x) = parts (target_rules c (is_element place.subs) place ▸ expr_rules c x ▸ none)
  item_rules c (call places name args at) = call_rules c (function_named c.program name) places args at
  item_rules c (loop index lo hi items at) =
      parts (head_rules c index lo hi at ▸ parts (items_rules (inside index c) items) ▸ none)
  item_rules c (initial place k value) =
      parts (target_rules c (is_element place.subs) place ▸ manifest_rules c k ▸ none)

  pub items_rules : Context → Items → RuleRow NameFault
  items_rules c no_item = none
  items_rules c (item x rest) = item_rules c x ▸ items_rules c rest

-- a signal has an allowed size, and a name of its own: it is no table's or function's, and no earlier signal's
abbrev pub decl_rules : (tops signals : List (List ℕ)) → Decl → Rules NameFault
decl_rules tops signals d = parts (
    unless (are_dims d.dims && is_signal_type d.ty) (Size d.at)
    ▸ unless (not (is_among tops d.name || is_among signals d.name)) (Twice d.at)
    ▸ none)

-- the declarations of signals, after those of signals with these names
abbrev pub signal_rules : (tops signals : List (List ℕ)) → List Decl → RuleRow NameFault
signal_rules tops signals [] = none
signal_rules tops signals (d ∷ ds) = decl_rules tops signals d ▸ signal_rules tops (signals ++ d.name ∷ []) ds

abbrev pub table_rules : ConstDef → Rules NameFault
table_rules t = parts (
    unless (are_dims t.dims && is_fix_type t.ty) (Size t.at)
    ▸ unless (nat_eq (length t.words) (element_count t.dims)) (Arity t.at)
    ▸ none)

-- the signals of a function in the order of their declarations, then its items
abbrev pub function_rules : Program → Func → Rules NameFault
function_rules p f = parts (
    parts (signal_rules (top_names p) [] (decls f))
    ▸ parts (items_rules (outermost p f) f.items)
    ▸ none)

abbrev pub top_rules : Program → Top → Rules NameFault
top_rules p (table t) = table_rules t
top_rules p (function f) = function_rules p f

abbrev pub all_top_rules : Program → Rules NameFault
all_top_rules p = parts (each (top_rules p) p.tops)
