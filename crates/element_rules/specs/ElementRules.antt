-- The table of a program: what its instances contain, from main on, in the order of their items.
use Rattle.std.specs.Prelude.{ℕ, ◌+◌, ◌*◌, ◌&&◌, Bool, true, false, zero, suc, nat_eq, nat_lt, nat_le, if◌then◌else◌}
use Rattle.std.specs.Prelude.{List, [], ◌∷◌, ◌++◌, map, sum_by, codes, length}
use Rattle.std.specs.Prelude.{is_some, Option, Some, None, option_map, option_and_then}
use Rattle.std.specs.Prelude.{ℤ, pos, negsuc, ◌+ℤ◌, ◌-ℤ◌, int_le}
use Rattle.std.specs.List.{range_with_len}
use Rattle.std.specs.Option.{option_or, option_map_or}
use Rattle.fault_order.specs.Rules.{Rules, RuleRow, parts, none, ◌▸◌, unless}
use Rattle.silage_syntax.specs.declared.tree.ConstDef.{ConstDef}
use Rattle.silage_syntax.specs.declared.tree.Decl.{Decl}
use Rattle.silage_syntax.specs.Tree.{Manifest, whole, counter, minus, both, Place}
use Rattle.silage_syntax.specs.Tree.{Expr, literal, read, negate, not as denied, binary, shift, cast, choose}
use Rattle.silage_syntax.specs.Tree.{Branches, no_branch, branch}
use Rattle.silage_syntax.specs.Tree.{Item, equation, call, loop, initial, Items, no_item, item, Func, Program}
use Rattle.silage_syntax.specs.Manifests.{Indices, manifest_value, max_shift, max_delay}
use Rattle.silage_syntax.specs.Names.{decls, declared, table_named, function_named, element_count, main_of}
use Rattle.silage_meaning.specs.Instances.{turns_of}
use Rattle.name_rules.specs.TopNames.{position_of}
use Rattle.element_rules.specs.Tables.{Mark, given, defines, presets, needs, counts, at_entry, table_rules}
use Rattle.element_rules.specs.Tables.{Table, rules, mark, in_order, enters, Row, nothing, ◌▹◌, each, each_from}
use Rattle.element_rules.specs.declared.fault.PlacedFault.{PlacedFault}
use Rattle.element_rules.specs.declared.fault.PlacedFault.TheVariants.{Index, Bounds, Delay, Shift, TooLarge}

-- Manifest constants in an item. The indices are those of the loops around it, outermost first, each with its value.

-- where the faults of a manifest constant as a whole are: at its operator, its number or its name
abbrev pub manifest_at : Manifest → ℕ
manifest_at (whole value at) = at
manifest_at (counter name at) = at
manifest_at (minus at m) = at
manifest_at (both at o l r) = at

-- the numbers from the least to the most
pub record Range : Type 0 where
  pub least : ℤ
  pub most : ℤ

abbrev pub is_in : Range → ℤ → Bool
is_in range v = int_le range.least v && int_le v range.most

-- the ranges of subscripts, and of the amounts of shifts, delays and initial values; a table may not be delayed
abbrev pub below : (dim : ℕ) → Range
below dim = record { least = pos 0; most = pos dim -ℤ pos 1 }

abbrev pub shifts : Range
shifts = record { least = pos 0; most = pos max_shift }

abbrev pub delays : Range
delays = record { least = pos 0; most = pos max_delay }

abbrev pub no_delays : Range
no_delays = below 0

abbrev pub samples : Range
samples = record { least = pos 1; most = pos max_delay }

-- a manifest constant has a value
abbrev pub value_rules : Indices → Manifest → Rules PlacedFault
value_rules indices m = unless (is_some (manifest_value indices m)) (Index (manifest_at m))

-- it has a value, and one in the range
abbrev pub number_rules : Indices → Range → (outside : (at : ℕ) → PlacedFault) → Manifest → Rules PlacedFault
number_rules indices range outside m = parts (
    value_rules indices m
    ▸ unless (option_map_or (is_in range) (manifest_value indices m) true) (outside (manifest_at m))
    ▸ none)

-- each subscript is below its dim, from left to right
abbrev pub subscript_rules : Indices → (dims : List ℕ) → (subs : List Manifest) → RuleRow PlacedFault
subscript_rules indices (dim ∷ dims) (sub ∷ subs) =
    number_rules indices (below dim) Bounds sub ▸ subscript_rules indices dims subs
subscript_rules indices _ _ = none

-- the number as an index, if it is not negative and below the dim
abbrev pub index_below : (dim : ℕ) → ℤ → Option ℕ
index_below dim (pos i) = if nat_lt i dim then Some i else None
index_below dim (negsuc i) = None

-- the row-major place that subscripts pick, if each of them is below its dim
abbrev pub picked : Indices → (dims : List ℕ) → (subs : List Manifest) → Option ℕ
picked indices [] [] = Some 0
picked indices (dim ∷ dims) (sub ∷ subs) =
    option_and_then (λ i. option_map (λ rest. i * element_count dims + rest) (picked indices dims subs))
    (option_and_then (index_below dim) (manifest_value indices sub))
picked indices _ _ = None

-- Expressions.

abbrev pub amount_rules : Indices → Range → (delay : Option Manifest) → Rules PlacedFault
amount_rules indices range None = parts none
amount_rules indices range (Some m) = number_rules indices range Delay m

-- the operators of an expression, its casts, and its branches with a condition
abbrev mutual
  pub weight : Expr → ℕ
  weight (literal l) = 0
  weight (read place delay) = 0
  weight (negate at x) = 1 + weight x
  weight (denied at x) = 1 + weight x
  weight (binary at o x y) = 1 + weight x + weight y
  weight (shift at left x amount) = 1 + weight x
  weight (cast at ty x) = 1 + weight x
  weight (choose at branches last) = branches_weight branches + weight last

  pub branches_weight : Branches → ℕ
  branches_weight no_branch = 0
  branches_weight (branch condition x rest) = 1 + weight condition + weight x + branches_weight rest

-- what is added to the load, if anything is
abbrev pub counted : (load at : ℕ) → Table
counted load at = if nat_eq load 0 then in_order nothing else mark (counts load at)

-- each place of a declaration
abbrev pub each_place : (ℕ → Mark) → Decl → Table
each_place M d = in_order (each (λ k. mark (M k)) (range_with_len 0 (element_count d.dims)))

-- how many elements these declarations have
abbrev pub elements_of : List Decl → ℕ
elements_of ds = sum_by (λ (d : Decl). element_count d.dims) ds

-- Places.

-- the definition of the element at a place, if the subscripts pick one
abbrev pub definition : (declaration : ℕ) → (place : Option ℕ) → (at : ℕ) → Table
definition d None at = in_order nothing
definition d (Some k) at = mark (defines d k at)

-- a place on the left defines the element that it names
abbrev pub target_table : Indices → Option (ℕ × Decl) → Place → Table
target_table indices None place = in_order nothing
target_table indices (Some d) place = in_order (
    rules (parts (subscript_rules indices d.1.dims place.subs))
    ▹ definition d.0 (picked indices d.1.dims place.subs) place.at
    ▹ nothing)

-- the place of a call's array result defines each element of the array that it names
abbrev pub array_table : Option (ℕ × Decl) → Place → Table
array_table None place = in_order nothing
array_table (Some d) place = each_place (λ k. defines d.0 k place.at) d.1

-- an initial value, if the subscripts pick an element and the amount a sample
abbrev pub initial_value : (declaration : ℕ) → (place : Option ℕ) → (sample : Option ℤ) → (at : ℕ) → Table
initial_value d (Some k) (Some (pos s)) at = mark (presets d k s at)
initial_value d _ _ at = in_order nothing

abbrev pub initial_table : Indices → Option (ℕ × Decl) → Place → (amount : Manifest) → Table
initial_table indices None place amount = in_order nothing
initial_table indices (Some d) place amount = in_order (
    rules (parts (subscript_rules indices d.1.dims place.subs))
    ▹ rules (number_rules indices samples Delay amount)
    ▹ initial_value d.0 (picked indices d.1.dims place.subs) (manifest_value indices amount) place.at
    ▹ mark (counts 1 place.at)
    ▹ nothing)

abbrev pub at_least_0 : ℤ → ℕ
at_least_0 (pos n) = n
at_least_0 (negsuc n) = 0

-- how many numbers there are from the first to the last
abbrev pub count_up : (first last : ℤ) → ℕ
count_up first last = at_least_0 (last -ℤ first +ℤ pos 1)

-- the turns of a loop with these bounds
abbrev pub loop_turns : (lo hi : Option ℤ) → List ℤ
loop_turns (Some first) (Some last) = map (λ k. first +ℤ pos k) (range_with_len 0 (count_up first last))
loop_turns _ _ = []

module _ (p : Program) (f : Func) where
  -- the dims of what is read by a name, and the delays that it may have: of a signal, else of a table
  abbrev pub readable : List ℕ → Option (List ℕ × Range)
  readable name =
      option_or (option_map (λ (d : ℕ × Decl). (d.1.dims, delays)) (declared f name))
      (option_map (λ (c : ConstDef). (c.dims, no_delays)) (table_named p name))

  abbrev pub read_rules : Indices → Option (List ℕ × Range) → Place → (delay : Option Manifest) → Rules PlacedFault
  read_rules indices None place delay = parts none
  read_rules indices (Some r) place delay =
      parts (parts (subscript_rules indices r.0 place.subs) ▸ amount_rules indices r.1 delay ▸ none)

  -- the subscripts, delays and shifts of an expression, from left to right
  abbrev mutual
    pub expr_rules : Indices → Expr → Rules PlacedFault
    expr_rules indices (literal l) = parts none
    expr_rules indices (read place delay) = read_rules indices (readable place.name) place delay
    expr_rules indices (negate at x) = expr_rules indices x
    expr_rules indices (denied at x) = expr_rules indices x
    expr_rules indices (binary at o x y) = parts (expr_rules indices x ▸ expr_rules indices y ▸ none)
    expr_rules indices (shift at left x amount) =
        parts (expr_rules indices x ▸ number_rules indices shifts Shift amount ▸ none)
    expr_rules indices (cast at ty x) = expr_rules indices x
    expr_rules indices (choose at branches last) =
        parts (parts (branch_rules indices branches) ▸ expr_rules indices last ▸ none)

    pub branch_rules : Indices → Branches → RuleRow PlacedFault
    branch_rules indices no_branch = none
    branch_rules indices (branch condition x rest) =
        parts (expr_rules indices condition ▸ expr_rules indices x ▸ none) ▸ branch_rules indices rest

  abbrev pub taker_table : Indices → (result : Decl) → Place → Table
  taker_table indices result place =
      if nat_eq (length result.dims) 0 then target_table indices (declared f place.name) place
      else array_table (declared f place.name) place

  -- each place of a call takes the result at its position
  abbrev pub takers : Indices → (results : List Decl) → List Place → Row
  takers indices (result ∷ results) (place ∷ places) = taker_table indices result place ▹ takers indices results places
  takers indices _ _ = nothing

  -- the instance that a call makes
  abbrev pub entry : (inside : Func → Table) → Indices → (name : List ℕ) → Func → (at : ℕ) → Table
  entry inside indices name g at = enters (position_of p name) (record { at = at; turns = turns_of indices }) (inside g)

  -- a call: its places, its arguments, their load, and its instance
  abbrev pub call_table : (inside : Func → Table)
      → Indices
      → (callee : Option Func)
      → List Place
      → (name : List ℕ)
      → List Expr
      → (at : ℕ)
      → Table
  call_table inside indices None places name args at = in_order nothing
  call_table inside indices (Some g) places name args at = in_order (
      in_order (takers indices g.results places)
      ▹ in_order (each (λ x. rules (expr_rules indices x)) args)
      ▹ counted (sum_by weight args) at
      ▹ entry inside indices name g at
      ▹ nothing)

  -- the items of an instance; `inside` is the table of the instance of a called function
  module _ (inside : Func → Table) where
    abbrev mutual
      pub item_table : Indices → Item → Table
      item_table indices (equation place x) = in_order (
          target_table indices (declared f place.name) place
          ▹ rules (expr_rules indices x)
          ▹ counted (weight x) place.at
          ▹ nothing)
      item_table indices (call places name args at) =
          call_table inside indices (function_named p name) places name args at
      item_table indices (loop index lo hi items at) = in_order (
          rules (value_rules indices lo)
          ▹ rules (value_rules indices hi)
          ▹ in_order (each (λ turn. in_order (mark (counts 1 at) ▹ items_row (indices ++ (index, turn) ∷ []) items))
          (loop_turns (manifest_value indices lo) (manifest_value indices hi)))
          ▹ nothing)
      item_table indices (initial place amount value) = initial_table indices (declared f place.name) place amount

      pub items_row : Indices → Items → Row
      items_row indices no_item = nothing
      items_row indices (item x rest) = item_table indices x ▹ items_row indices rest

  -- an instance: the count of its elements, of which the parameters' are given, its items, and then that each element
  -- is defined
  abbrev pub instance_row : (inside : Func → Table) → Row
  instance_row inside =
      mark (counts (elements_of (decls f)) f.at)
      ▹ in_order (each_from (λ d decl. each_place (given d) decl) 0 f.params)
      ▹ in_order (items_row inside [] f.items)
      ▹ in_order (each_from (λ d decl. each_place (λ k. needs d k decl.at) decl) 0 (decls f))
      ▹ nothing

-- an instance inside which so many calls may nest that it is the first of this many; below that one is too large
abbrev pub instance_table : Program → (calls : ℕ) → Func → Table
instance_table p zero f = rules (unless false (TooLarge f.at))
instance_table p (suc calls) f = in_order (instance_row p f (instance_table p calls))

-- main has at most 16 input words, and as many output words
abbrev pub word_rules : Func → Rules PlacedFault
word_rules f = unless (nat_le (elements_of f.params) 16 && nat_le (elements_of f.results) 16) (TooLarge f.at)

-- an instance is inside 64 calls at most, so at most this many instances are each inside the one before
abbrev pub max_nested : ℕ
max_nested = 65

abbrev pub main_table : Program → Option Func → Table
main_table p None = in_order nothing
main_table p (Some f) = in_order (
    rules (word_rules f)
    ▹ enters (position_of p (codes "main")) (record { at = 0; turns = [] }) (instance_table p max_nested f)
    ▹ nothing)

abbrev pub program_table : Program → Table
program_table p = main_table p (main_of p)

-- the rules on the elements of a program
abbrev pub element_rules : Program → Rules PlacedFault
element_rules p = table_rules (at_entry []) (program_table p)
