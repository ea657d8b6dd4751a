-- The instances of the functions of a program, and their elements.
use Rattle.std.specs.Prelude.{◌≡◌, ◌≢◌, ◌⊎◌, ℕ, ◌+◌, ◌<◌, List, [], ◌∷◌, ◌++◌, map, length, slice_get, Option, Some}
use Rattle.std.specs.Prelude.{None, ℤ, ◌≤ℤ◌}
use Rattle.std.specs.List.{range_with_len}
use Rattle.silage_syntax.specs.declared.tree.ConstDef.{ConstDef}
use Rattle.silage_syntax.specs.declared.tree.Decl.{Decl}
use Rattle.silage_syntax.specs.Tree.{Manifest, Place, Expr, Item, call, loop, Items, no_item, item, Func, Program}
use Rattle.silage_syntax.specs.Manifests.{Indices, manifest_value}
use Rattle.silage_syntax.specs.Names.{main_of, decls, declared, function_named, table_named, element_count, IsOffset}

-- a call, by its position, in a turn of each loop around it, outermost first
pub record Step : Type 0 where
  pub at : ℕ
  pub turns : List ℤ

-- a list of steps from main
pub data Instance : Type 0 where
  main : Instance
  inside : Instance → Step → Instance

-- one signal of an instance: its declaration's index among the parameters, results and locals, and its row-major offset
pub record Element : Type 0 where
  pub instance : Instance
  pub declaration : ℕ
  pub offset : ℕ

abbrev pub element : Instance → ℕ → ℕ → Element
element i d k = record { instance = i; declaration = d; offset = k }

-- a loop from lo to hi has this turn, both included
pub record IsTurn (indices : Indices) (lo hi : Manifest) (turn : ℤ) : Type 0 where
  pub first : ℤ
  pub last : ℤ
  pub from : manifest_value indices lo ≡ Some first
  pub to : manifest_value indices hi ≡ Some last
  pub begun : first ≤ℤ turn
  pub ended : turn ≤ℤ last

-- Equation, call or initial value x is one of the items, or is in a turn of a loop there; `indices` are those of the
-- loops around it, and `outer` those of the loops around the items.
abbrev mutual
  pub Occurs : Items → (outer : Indices) → Item → Indices → Type 0
  Occurs no_item outer x indices = ⊥
  Occurs (item y rest) outer x indices = OccursIn y outer x indices ⊎ Occurs rest outer x indices

  pub OccursIn : Item → (outer : Indices) → Item → Indices → Type 0
  OccursIn (loop index lo hi items at) outer x indices =
      (turn : ℤ) × IsTurn outer lo hi turn × Occurs items (outer ++ (index, turn) ∷ []) x indices
  OccursIn y outer x indices = (x ≡ y) × (indices ≡ outer)

abbrev pub turns_of : Indices → List ℤ
turns_of indices = map (λ (index : List ℕ × ℤ). index.1) indices

-- in an instance of g the step is a call of f
pub record Calls (p : Program) (g : Func) (step : Step) (f : Func) : Type 0 where
  pub places : List Place
  pub name : List ℕ
  pub args : List Expr
  pub indices : Indices
  pub occurs : Occurs g.items [] (call places name args step.at) indices
  pub turns : step.turns ≡ turns_of indices
  pub named : function_named p name ≡ Some f

-- the steps lead from main to this function, each by a call in the function that the steps before it lead to
pub data IsInstance (p : Program) : Instance → Func → Type 0 where
  main_is : {f : Func}
      → main_of p ≡ Some f
      → IsInstance p main f
  inside_is : {i : Instance} {g f : Func} {step : Step}
      → IsInstance p i g
      → Calls p g step f
      → IsInstance p (inside i step) f

-- the element is one of the program's
pub record IsElement (p : Program) (e : Element) : Type 0 where
  pub function : Func
  pub decl : Decl
  pub instance : IsInstance p e.instance function
  pub declared : slice_get (decls function) e.declaration ≡ Some decl
  pub offset : e.offset < element_count decl.dims

-- in the function one position, in the same turns of the loops around it, is one call
abbrev pub AreCallsApart : Func → Type 0
AreCallsApart g =
    (ps qs : List Place) (f h : List ℕ) (xs ys : List Expr) (at : ℕ) (i j : Indices)
    → Occurs g.items [] (call ps f xs at) i
    → Occurs g.items [] (call qs h ys at) j
    → turns_of i ≡ turns_of j
    → (call ps f xs at ≡ call qs h ys at) × (i ≡ j)

-- the same in each function that main reaches
abbrev pub HasCallsApart : Program → Type 0
HasCallsApart p = (i : Instance) (g : Func) → IsInstance p i g → AreCallsApart g

-- the site of an item: an instance, its function, and the indices of the loops around the item
pub record Site : Type 0 where
  pub instance : Instance
  pub function : Func
  pub indices : Indices

-- the item is in the program at this site
pub record IsItemAt (p : Program) (s : Site) (x : Item) : Type 0 where
  pub instance : IsInstance p s.instance s.function
  pub occurs : Occurs s.function.items [] x s.indices

-- at the site the name with its subscripts is the element k of declaration d
pub record IsSignal (s : Site) (place : Place) (d : ℕ) (decl : Decl) (k : ℕ) : Type 0 where
  pub named : declared s.function place.name ≡ Some (d, decl)
  pub placed : IsOffset s.indices decl.dims place.subs k

-- at the site the bare name is an array of these dims, with the index of its declaration
pub record IsArray (s : Site) (place : Place) (dims : List ℕ) (d : ℕ) (decl : Decl) : Type 0 where
  pub some : dims ≢ []
  pub bare : place.subs ≡ []
  pub named : declared s.function place.name ≡ Some (d, decl)
  pub same_dims : decl.dims ≡ dims

-- at the site the bare name is a table of these dims
pub record IsTable (p : Program) (s : Site) (place : Place) (dims : List ℕ) (c : ConstDef) : Type 0 where
  pub some : dims ≢ []
  pub bare : place.subs ≡ []
  pub undeclared : declared s.function place.name ≡ None
  pub named : table_named p place.name ≡ Some c
  pub same_dims : c.dims ≡ dims

-- a call at the site, with the function that it calls
pub record Call (p : Program) (s : Site) : Type 0 where
  pub places : List Place
  pub name : List ℕ
  pub args : List Expr
  pub at : ℕ
  pub callee : Func
  pub found : IsItemAt p s (call places name args at)
  pub named : function_named p name ≡ Some callee

-- the instance that a call makes
abbrev pub made : {p : Program} {s : Site} → Call p s → Instance
made {p} {s} c = inside s.instance (record { at = c.at; turns = turns_of s.indices })

-- parameter d of the called function is declared so, and x is its argument
pub record IsArgument {p : Program} {s : Site} (c : Call p s) (d : ℕ) (decl : Decl) (x : Expr) : Type 0 where
  pub parameter : slice_get c.callee.params d ≡ Some decl
  pub argument : slice_get c.args d ≡ Some x

-- result r of the called function is declared so, and the place is its target
pub record IsResult {p : Program} {s : Site} (c : Call p s) (r : ℕ) (decl : Decl) (place : Place) : Type 0 where
  pub result : slice_get c.callee.results r ≡ Some decl
  pub taken : slice_get c.places r ≡ Some place

-- element k of parameter d, and of result r, in the instance that the call makes
abbrev pub parameter_of : {p : Program} {s : Site} → Call p s → ℕ → ℕ → Element
parameter_of c d k = element (made c) d k

abbrev pub result_of : {p : Program} {s : Site} → Call p s → ℕ → ℕ → Element
result_of c r k = element (made c) (length c.callee.params + r) k

-- the elements of declarations, of which the first has index d, in order and row-major
abbrev pub elements_from : Instance → ℕ → List Decl → List Element
elements_from i d [] = []
elements_from i d (x ∷ xs) = map (element i d) (range_with_len 0 (element_count x.dims)) ++ elements_from i (d + 1) xs

abbrev pub parameters_of : Option Func → List Element
parameters_of None = []
parameters_of (Some f) = elements_from main 0 f.params

abbrev pub results_of : Option Func → List Element
results_of None = []
results_of (Some f) = elements_from main (length f.params) f.results

-- the elements of the input words, and those of the output words, in order
abbrev pub inputs : Program → List Element
inputs p = parameters_of (main_of p)

abbrev pub outputs : Program → List Element
outputs p = results_of (main_of p)
